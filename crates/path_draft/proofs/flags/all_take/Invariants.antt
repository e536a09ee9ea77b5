use Rattle.std.proofs.Common.{◌≡◌, true}
use Rattle.std.specs.List.{AllWithin}
use Rattle.path_draft.specs.Testing.{takes_flagged}
use Rattle.path_draft.proofs.flags.all_take.Given as goal

abbrev pub invariant-loop-latch : goal.invariant-loop-latch
invariant-loop-latch l = AllWithin (λ part. takes_flagged l.net l.flags part ≡ true) l.net 0 l.latch
