use Rattle.std.proofs.Common.{◌≡◌, ◌+◌, ◌<◌, ℕ, get_or}
use Rattle.mp_program.specs.declared.program.Def.{Def}
use Rattle.mp_order.specs.Demands.{IsDriven}
use Rattle.mp_order.proofs.judge.lists_only.Given as goal

abbrev pub invariant-loop-k : goal.invariant-loop-k
invariant-loop-k l = (j : ℕ) → j < l.k
    → ((x : Def) × IsDriven l.program (get_or l.order j 0) x) × (get_or l.ranks (get_or l.order j 0) 0 ≡ j + 1)
