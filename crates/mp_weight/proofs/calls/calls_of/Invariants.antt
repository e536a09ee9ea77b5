use Rattle.std.proofs.Common.{◌≡◌, take, min, slice_index}
use Rattle.std.specs.List.{sum_by, flat_map}
use Rattle.mp_program.specs.declared.program.Branch.{Branch}
use Rattle.mp_weight.proofs.calls.calls_of.Given as goal

abbrev pub invariant-loop-branch : goal.invariant-loop-branch
invariant-loop-branch l = l.sum
    ≡ min l.cap (sum_by (slice_index l.calls) (flat_map (λ (b : Branch). b.body) (take l.branch-index l.branch-items)))
