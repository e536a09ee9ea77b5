-- The enables of the forms that stand in no other form.
use Rattle.std.specs.Prelude.{◌≡◌, ◌⊎◌, ℕ, ◌<◌, List, Option, length, Contains}
use Rattle.mp_program.specs.declared.program.Process.{Process}
use Rattle.mp_program.specs.declared.program.Program.{Program}
use Rattle.mp_base.specs.Entries.{IsAt}
use Rattle.process_plan.specs.declared.enable.Origin.{Origin}
use Rattle.process_plan.specs.declared.enable.Origin.TheVariants.{Always, At}
use Rattle.process_plan.specs.declared.enable.Enable.{Enable}
use Rattle.process_plan.specs.Enables.{HasEnable}
use Rattle.process_enables.specs.Forms.{KeepsEnables}

-- the forms at the places of process k get these expressions, and no others do
pub record AssignsPlaces (k : ℕ) (forms places : List ℕ) (old new : List (Option Enable)) : Type 0 where
  pub kept : KeepsEnables old new
  pub given : (i f a : ℕ) → IsAt forms i f → IsAt places i a → HasEnable new f (At k i) a
  pub added : (f : ℕ) (u : Origin) (a : ℕ) → HasEnable new f u a
      → HasEnable old f u a ⊎ ((i : ℕ) × IsAt forms i f × IsAt places i a × (u ≡ At k i))

-- form f has the origin o, and places have its expression a
abbrev pub IsRootAt : Program → List (List ℕ) → Origin → ℕ → ℕ → Type 0
IsRootAt p places Always f a = Contains p.always f × (a ≡ 0)
IsRootAt p places (At k i) f a = (q : Process) × (es : List ℕ) × IsAt p.processes k q × IsAt places k es
    × IsAt q.forms i f × IsAt es i a

-- in an `always`, or in one of the first n processes
abbrev pub IsBefore : ℕ → Origin → Type 0
IsBefore n Always = Unit {0}
IsBefore n (At k i) = k < n

-- exactly the forms with such origins have enables
pub record AreRootsBefore (p : Program) (places : List (List ℕ)) (n : ℕ) (enables : List (Option Enable))
    : Type 0 where
  pub size : length enables ≡ length p.forms
  pub all : (o : Origin) (f a : ℕ) → IsBefore n o → IsRootAt p places o f a → HasEnable enables f o a
  pub only : (o : Origin) (f a : ℕ) → HasEnable enables f o a → IsRootAt p places o f a
