-- What active forms do in a clock.
use Rattle.std.specs.Prelude.{ℕ, List, [], ◌∷◌, if◌then◌else◌, ◌==◌, slice_index_or}
use Rattle.std.specs.List.{flat_map}
use Rattle.mp_base.specs.Table.{table}
use Rattle.mp_program.specs.declared.program.FormKind.{FormKind}
use Rattle.mp_program.specs.declared.program.FormKind.TheVariants.{Set, Cond, Par, Go, Call, Return}
use Rattle.mp_program.specs.declared.program.Branch.{Branch}
use Rattle.mp_program.specs.declared.program.Form.{Form}
use Rattle.mp_program.specs.declared.program.Program.{Program}
use Rattle.mp_program.specs.Names.{is_same}
use Rattle.mp_program.specs.Values.{value_of}

-- a write to a name, or a move of the process that the form stands in
pub data Effect : Type 0 where
  Writes : (target : List ℕ) (value : ℕ) → Effect
  Goes : (label : List ℕ) → Effect
  Calls : (label : List ℕ) → Effect
  Returns : Effect

-- the first branch whose guard is 1 does what its forms do; v gives values, and e what forms do
abbrev pub branch_effects : (ℕ → ℕ) → List Branch → (ℕ → List Effect) → List Effect
branch_effects v [] e = []
branch_effects v (b ∷ bs) e = if v b.guard == 1 then flat_map e b.body else branch_effects v bs e

-- what an active form of this kind does
abbrev pub kind_effects : (ℕ → ℕ) → FormKind → (ℕ → List Effect) → List Effect
kind_effects v (Set x at value) e = Writes x (v value) ∷ []
kind_effects v (Cond branches) e = branch_effects v branches e
kind_effects v (Par forms) e = flat_map e forms
kind_effects v (Go label) e = Goes label ∷ []
kind_effects v (Call label) e = Calls label ∷ []
kind_effects v Return e = Returns ∷ []

-- what each form does where it is active
abbrev pub form_effects : Program → List ℕ → List (List Effect)
form_effects p env = table [] (λ (x : Form) e. kind_effects (value_of p env) x.kind e) 0 p.forms

-- what the form at an index does where it is active
abbrev pub effects_of : Program → List ℕ → ℕ → List Effect
effects_of p env f = slice_index_or (form_effects p env) f []

-- the values that are written to a name
abbrev pub written : List ℕ → List Effect → List ℕ
written x [] = []
written x (Writes y v ∷ es) = if is_same y x then v ∷ written x es else written x es
written x (Goes label ∷ es) = written x es
written x (Calls label ∷ es) = written x es
written x (Returns ∷ es) = written x es
