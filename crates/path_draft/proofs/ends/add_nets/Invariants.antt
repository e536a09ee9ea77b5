use Rattle.std.proofs.Common.{◌≡◌, ◌++◌, take}
use Rattle.path_draft.proofs.ends.add_nets.Given as goal

abbrev pub invariant-loop-id : goal.invariant-loop-id
invariant-loop-id l = l.ends ≡ l.initial.ends ++ take l.id-index l.ids
