-- What laws say of a program that breaks no rule.
use Rattle.std.specs.Prelude.{◌≡◌, ℕ, ◌<◌, ◌≤◌, List, [], false, length, slice_get, Some, Contains}
use Rattle.mp_program.specs.declared.program.FormKind.TheVariants.{Cond}
use Rattle.mp_program.specs.declared.program.Branch.{Branch}
use Rattle.mp_program.specs.declared.program.Expr.{Expr}
use Rattle.mp_program.specs.declared.program.Form.{Form}
use Rattle.mp_program.specs.declared.program.Process.{Process}
use Rattle.mp_program.specs.declared.program.Program.{Program}
use Rattle.mp_program.specs.Effects.{effects_of, kind_effects, written}
use Rattle.mp_program.specs.Environment.{IsEnvironment}
use Rattle.mp_program.specs.Pads.{input_pads, FitsPads}
use Rattle.mp_program.specs.Reads.{IsOrder, mentions, kind_mentions, sets, kind_sets, form_reads, kind_reads}
use Rattle.mp_program.specs.Sound.{IsSound}
use Rattle.mp_program.specs.State.{State, IsState, zero_state}
use Rattle.mp_program.specs.Step.{next_state}
use Rattle.mp_program.specs.Trace.{IsTraceFrom}
use Rattle.mp_program.specs.Values.{value_of, kind_value}
use Rattle.mp_rules.specs.Breaking.{IsUnbroken}
use Rattle.mp_base.specs.Entries.{IsAt}
use Rattle.mp_rules.specs.Moves.{moves}
use Rattle.mp_rules.specs.Naming.{OwnNames}
use Rattle.mp_fitting.specs.Fitting.{ValuesFit, StateFits}

-- of values and effects
pub record Known (p : Program) : Type 0 where
  pub sound : IsSound p
  pub values : (env : List ℕ) (e : ℕ) (x : Expr) → slice_get p.exprs e ≡ Some x
      → value_of p env e ≡ kind_value p env x.kind (value_of p env)
  pub effects : (env : List ℕ) (f : ℕ) (x : Form) → slice_get p.forms f ≡ Some x
      → effects_of p env f ≡ kind_effects (value_of p env) x.kind (effects_of p env)

-- of names
pub record KnownNames (p : Program) : Type 0 where
  pub mentions_is : (n : List ℕ) (e : ℕ) (x : Expr) → slice_get p.exprs e ≡ Some x
      → mentions p n e ≡ kind_mentions n x.kind (mentions p n)
  pub sets_is : (n : List ℕ) (f : ℕ) (y : Form) → slice_get p.forms f ≡ Some y
      → sets p n f ≡ kind_sets n y.kind (sets p n)
  pub reads_is : (x n : List ℕ) (f : ℕ) (y : Form) → slice_get p.forms f ≡ Some y
      → form_reads p x n f ≡ kind_reads (mentions p n) (sets p x) x y.kind (form_reads p x n)

-- a top-level form of a process has at most one move
abbrev pub MovesOnce : Program → Type 0
MovesOnce p = (env : List ℕ) (k : ℕ) (q : Process) (f : ℕ) → IsAt p.processes k q → Contains q.forms f
    → moves (effects_of p env f) ≤ 1

pub record Lawful (p : Program) (order : List ℕ) : Type 0 where
  pub unbroken : IsUnbroken p
  pub ordered : IsOrder p order
  pub known : Known p
  pub named : KnownNames p
  pub own : OwnNames p
  pub single : MovesOnce p
  pub start : IsState p (zero_state p)
  pub start_fits : StateFits p (zero_state p)
  pub states : (st : State) (inputs env : List ℕ) → IsState p st → IsState p (next_state p st inputs env)
  pub fits : (st : State) (inputs env : List ℕ) → IsState p st → StateFits p st
      → FitsPads (input_pads p) inputs → IsEnvironment p st inputs env → ValuesFit p env
  pub guards : (env : List ℕ) (f : ℕ) (form : Form) (branches : List Branch) (branch : Branch)
      → ValuesFit p env → IsAt p.forms f form → form.kind ≡ Cond branches
      → Contains branches branch → value_of p env branch.guard < 2
  pub states_fit : (st : State) (inputs env : List ℕ) → StateFits p st → ValuesFit p env
      → StateFits p (next_state p st inputs env)
  pub exist : (st : State) (inputs : List (List ℕ)) → IsState p st
      → (outputs : List (List ℕ)) × IsTraceFrom p st inputs outputs
  pub silence : (env name : List ℕ) (f : ℕ) → f < length p.forms → sets p name f ≡ false
      → written name (effects_of p env f) ≡ []
