use Rattle.std.proofs.Common.{◌≡◌, map, take, not, slice_index}
use Rattle.std.specs.List.{filter}
use Rattle.form_reader.specs.Sound.{kind_at}
use Rattle.mp_shapes.specs.Layout.{is_symbol}
use Rattle.mp_syntax.proofs.items.top_forms.Given as goal

abbrev pub invariant-loop-node : goal.invariant-loop-node
invariant-loop-node l = l.list
    ≡ map (slice_index l.ranks) (filter (λ n. not (is_symbol (kind_at l.forms n))) (take l.node-index l.elements))
