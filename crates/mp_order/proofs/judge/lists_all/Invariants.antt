use Rattle.std.proofs.Common.{◌≡◌, ◌+◌, ◌<◌, ℕ, get_or, length}
use Rattle.mp_program.specs.declared.program.Def.{Def}
use Rattle.mp_order.specs.Demands.{IsDriven}
use Rattle.mp_order.proofs.judge.lists_all.Given as goal

abbrev pub invariant-loop-d : goal.invariant-loop-d
invariant-loop-d l = (e : ℕ) → e < l.d → (x : Def) → IsDriven l.program e x
    → (k : ℕ) × (k < length l.order) × (get_or l.order k 0 ≡ e) × (get_or l.ranks e 0 ≡ k + 1)
