use Rattle.std.proofs.Common.{map}
use Rattle.std.specs.Prelude.{suc}
use Rattle.std.specs.List.{range_with_len}
use Rattle.switch_net.specs.Pads.{word_labels}
use Rattle.nor_net.specs.Elements.{spot}
use Rattle.drawing.specs.Draws.{OfNet}
use Rattle.path_labels.specs.Labels.{Adds}
use Rattle.path_labels.proofs.labels.add_word.Given as goal

abbrev pub invariant-loop-k : goal.invariant-loop-k
invariant-loop-k l =
    Adds l.path l.fabric (map (λ k. OfNet (spot (suc k) l.net)) (range_with_len 0 l.k)) (word_labels l.name l.k)
    l.initial.corners l.corners
