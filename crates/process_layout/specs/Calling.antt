-- Which forms have a call in them.
use Rattle.std.specs.Prelude.{Bool, true, false, ℕ}
use Rattle.std.specs.List.{list_any}
use Rattle.mp_program.specs.declared.program.FormKind.{FormKind}
use Rattle.mp_program.specs.declared.program.FormKind.TheVariants.{Cond, Par, Call}
use Rattle.mp_program.specs.declared.program.Branch.{Branch}

-- a form of this kind has a call, where v says which of those in it have one
abbrev pub kind_calls : (ℕ → Bool) → FormKind → Bool
kind_calls v (Cond branches) = list_any (λ (b : Branch). list_any v b.body) branches
kind_calls v (Par forms) = list_any v forms
kind_calls v (Call l) = true
kind_calls v _ = false
