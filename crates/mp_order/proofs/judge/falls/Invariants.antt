use Rattle.std.proofs.Common.{◌≡◌, ◌<◌, ◌≤◌, ℕ, get_or}
use Rattle.mp_program.specs.declared.program.Def.{Def}
use Rattle.mp_order.specs.Demands.{IsDriven}
use Rattle.mp_order.proofs.judge.falls.Given as goal

abbrev pub invariant-loop-d : goal.invariant-loop-d
invariant-loop-d l = (e : ℕ) → e < l.d → (x : Def) → IsDriven l.program e x
    → (get_or l.demands e 0 ≤ get_or l.ranks e 0)
    × (get_or l.loose e 0 ≡ 0 → get_or l.demands e 0 < get_or l.ranks e 0)
