use Rattle.std.proofs.Common.{map, take}
use Rattle.mp_program.specs.declared.program.Branch.{Branch}
use Rattle.expansion.specs.Walking.{Marks}
use Rattle.expansion.proofs.flags.mark_guards.Given as goal

abbrev pub invariant-loop-branch : goal.invariant-loop-branch
invariant-loop-branch l = Marks (map (λ (b : Branch). b.guard) (take l.branch-index l.branches)) l.fn.flags l.flags
