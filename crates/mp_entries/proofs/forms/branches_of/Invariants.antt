use Rattle.std.proofs.Common.{◌≡◌, map, take, slice_index}
use Rattle.mp_entries.specs.Entries.{branch_at}
use Rattle.mp_entries.proofs.forms.branches_of.Given as goal

abbrev pub invariant-loop-node : goal.invariant-loop-node
invariant-loop-node l = l.branches
    ≡ map (branch_at l.forms (slice_index l.ranks.exprs) (slice_index l.ranks.forms)) (take l.node-index l.nodes)
