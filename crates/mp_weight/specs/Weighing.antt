-- The parts of a program's weight, as they are found.
use Rattle.std.specs.Prelude.{◌≡◌, ℕ, ◌+◌, ◌*◌, ◌-◌, ◌≤◌, List, Bool, false, length, min, take, slice_get, slice_index}
use Rattle.std.specs.Prelude.{slice_set, if◌then◌else◌}
use Rattle.std.specs.Option.{option_map_or}
use Rattle.std.specs.List.{sum_by, count_by}
use Rattle.mp_base.specs.Table.{table}
use Rattle.mp_program.specs.declared.program.ExprKind.{ExprKind}
use Rattle.mp_program.specs.declared.program.ExprKind.TheVariants.{Number, Named, True, False, Apply}
use Rattle.mp_program.specs.declared.program.FormKind.{FormKind}
use Rattle.mp_program.specs.declared.program.FormKind.TheVariants.{Set}
use Rattle.mp_program.specs.declared.program.Def.{Def}
use Rattle.mp_program.specs.declared.program.Form.{Form}
use Rattle.mp_program.specs.declared.program.Process.{Process}
use Rattle.mp_program.specs.declared.program.Program.{Program}
use Rattle.mp_program.specs.Names.{is_supply}
use Rattle.mp_program.specs.Weight.{is_set_of, op_weight, is_constant, inner, is_call}
use Rattle.mp_base.specs.Entries.{IsAt}

-- for each definition that has a name, how many of the first n forms are a `setq` of it
pub record AreSetCounts (p : Program) (n : ℕ) (counts : List ℕ) : Type 0 where
  pub size : length counts ≡ length p.defs
  pub bound : (k : ℕ) → slice_index counts k ≤ n
  pub each : (d : ℕ) (x : Def) → IsAt p.defs d x → is_supply x.what ≡ false
      → slice_index counts d ≡ count_by (λ (f : Form). is_set_of x.name f.kind) (take n p.forms)

-- the counts, with one more `setq` of the definition at an index
abbrev pub counted : FormKind → ℕ → List ℕ → List ℕ
counted (Set y at v) target counts = slice_set counts target (slice_index counts target + 1)
counted _ target counts = counts

-- the definition at an index is a constant
abbrev pub is_constant_at : List Def → ℕ → Bool
is_constant_at defs d = option_map_or (λ (x : Def). is_constant x.what) (slice_get defs d) false

-- an expression, without its arguments, where a name is that of the definition at an index
abbrev pub expr_weight_of : List Def → ℕ → ExprKind → ℕ
expr_weight_of defs d (Number n) = 1
expr_weight_of defs d (Named x) = if is_constant_at defs d then 1 else 0
expr_weight_of defs d True = 1
expr_weight_of defs d False = 1
expr_weight_of defs d (Apply op k args) = op_weight op (length args)

-- how many `call` there are in each form, of forms that begin at an index
abbrev pub calls_from : ℕ → List Form → List ℕ
calls_from i forms = table 0 (λ (x : Form) v. is_call x.kind + sum_by v (inner x.kind)) i forms

-- the same, up to a cap, for the forms from an index on
pub record AreCalls (cap : ℕ) (forms : List Form) (i : ℕ) (rest : List ℕ) (calls : List ℕ) : Type 0 where
  pub size : length calls ≡ length forms
  pub each : (f : ℕ) → i ≤ f → slice_index calls f ≡ min cap (slice_index rest (f - i))

-- a process, where a list has how many `call` there are in each form
abbrev pub process_weight_of : List ℕ → Process → ℕ
process_weight_of calls q = 10 + 10 * length q.forms + 10 * q.depth * sum_by (slice_index calls) q.forms
