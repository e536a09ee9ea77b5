-- Which forms are active.
use Rattle.std.specs.Prelude.{◌≡◌, ℕ, List, [], ◌∷◌, if◌then◌else◌, ◌==◌, Contains}
pub use Rattle.process_plan.specs.declared.enable.Origin.{Origin}
pub use Rattle.process_plan.specs.declared.enable.Origin.TheVariants.{Always, At}
use Rattle.mp_program.specs.declared.program.FormKind.{FormKind}
use Rattle.mp_program.specs.declared.program.FormKind.TheVariants.{Set, Cond, Par, Go, Call, Return}
use Rattle.mp_program.specs.declared.program.Branch.{Branch}
use Rattle.mp_program.specs.declared.program.Form.{Form}
use Rattle.mp_program.specs.declared.program.Process.{Process}
use Rattle.mp_program.specs.declared.program.Program.{Program}
use Rattle.mp_program.specs.Values.{value_of}
use Rattle.mp_program.specs.Effects.{Effect, Writes, Goes, Calls, Returns}
use Rattle.mp_program.specs.State.{Seat}
use Rattle.mp_base.specs.Entries.{IsAt}
use Rattle.process_plan.specs.Roles.{seat_at}

-- the forms of the first branch whose guard is 1; v gives values
abbrev pub chosen_forms : (ℕ → ℕ) → List Branch → List ℕ
chosen_forms v [] = []
chosen_forms v (b ∷ bs) = if v b.guard == 1 then b.body else chosen_forms v bs

-- the forms that an active form of this kind makes active
abbrev pub chosen : (ℕ → ℕ) → FormKind → List ℕ
chosen v (Cond bs) = chosen_forms v bs
chosen v (Par fs) = fs
chosen v _ = []

-- what it does itself
abbrev pub own_effects : (ℕ → ℕ) → FormKind → List Effect
own_effects v (Set x at e) = Writes x (v e) ∷ []
own_effects v (Go l) = Goes l ∷ []
own_effects v (Call l) = Calls l ∷ []
own_effects v Return = Returns ∷ []
own_effects v _ = []

-- where form r is active, form f is
pub data Runs (p : Program) (env : List ℕ) : ℕ → ℕ → Type 0 where
  itself : {r : ℕ} → Runs p env r r
  deeper : {r g f : ℕ} (y : Form) → IsAt p.forms r y → Contains (chosen (value_of p env) y.kind) g → Runs p env g f
      → Runs p env r f

-- r is a form with this origin
abbrev pub IsRoot : Program → Origin → ℕ → Type 0
IsRoot p Always r = Contains p.always r
IsRoot p (At k i) r = (q : Process) × IsAt p.processes k q × IsAt q.forms i r

-- a form with this origin is active
abbrev pub IsOn : List Seat → Origin → Type 0
IsOn seats Always = Unit {0}
IsOn seats (At k i) = (seat_at seats k).place ≡ i

-- the form f is active, from this origin
abbrev pub IsActive : Program → List Seat → List ℕ → Origin → ℕ → Type 0
IsActive p seats env o f = IsOn seats o × ((r : ℕ) × IsRoot p o r × Runs p env r f)
