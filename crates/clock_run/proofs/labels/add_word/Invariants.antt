use Rattle.std.proofs.Common.{◌≡◌, ◌++◌}
use Rattle.switch_net.specs.Pads.{word_labels}
use Rattle.clock_run.proofs.labels.add_word.Given as goal

abbrev pub invariant-loop-k : goal.invariant-loop-k
invariant-loop-k l = l.labels ≡ l.initial.labels ++ word_labels l.name l.k
