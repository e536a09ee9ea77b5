-- What the names of a program mean, by index.
use Rattle.std.specs.Prelude.{◌≡◌, ℕ, suc, ◌<◌, List, [], ◌∷◌, if◌then◌else◌, Bool, true, false, length, map, filter}
use Rattle.std.specs.Prelude.{position, slice_get, slice_index_or, Option, Some}
use Rattle.std.specs.Option.{option_map}
use Rattle.mp_base.specs.declared.refusal.Place.{Place}
use Rattle.mp_program.specs.declared.program.ExprKind.{ExprKind}
use Rattle.mp_program.specs.declared.program.ExprKind.TheVariants.{Named}
use Rattle.mp_program.specs.declared.program.FormKind.{FormKind}
use Rattle.mp_program.specs.declared.program.FormKind.TheVariants.{Set, Go, Call}
use Rattle.mp_program.specs.declared.program.Def.{Def}
use Rattle.mp_program.specs.declared.program.Expr.{Expr}
use Rattle.mp_program.specs.declared.program.Form.{Form}
use Rattle.mp_program.specs.declared.program.Process.{Process}
use Rattle.mp_program.specs.declared.program.Program.{Program}
use Rattle.mp_program.specs.declared.program.What.{What}
use Rattle.mp_program.specs.Names.{index_of, is_input, is_output, is_reset, is_stored, pad_number}
use Rattle.mp_program.specs.Reads.{sets}
use Rattle.mp_program.specs.Step.{place_of_label}
use Rattle.form_effects.specs.declared.link.Kind.{Kind}
use Rattle.form_effects.specs.declared.link.Kind.TheVariants.{Given, Stored, Shown}
use Rattle.form_effects.specs.declared.link.Links.{Links}

-- the definition that an expression names
abbrev pub named : List Def → ExprKind → ℕ
named defs (Named x) = index_of defs x
named defs _ = 0

-- the definition that a form sets
abbrev pub target : List Def → FormKind → ℕ
target defs (Set x at value) = index_of defs x
target defs _ = 0

-- the forms that are always active and set a name
abbrev pub setters_of : Program → List ℕ → List ℕ
setters_of p x = filter (sets p x) p.always

-- a form that is marked doesn't set the name
abbrev pub AreQuiet : Program → List ℕ → List Bool → Type 0
AreQuiet p x marks = (f : ℕ) → f < length p.forms → slice_index_or marks f false ≡ true → sets p x f ≡ false

-- the same for each definition
pub record AllQuiet (p : Program) (marks : List (List Bool)) : Type 0 where
  pub size : length marks ≡ length p.defs
  pub each : (d : ℕ) (x : Def) → slice_get p.defs d ≡ Some x
      → AreQuiet p x.name (slice_index_or marks d [])

-- a process without labels and forms, which stands past the last one
abbrev pub no_process : Process
no_process =
    let nowhere : Place = record { offset = 0; line = 0; column = 0 } in
    record { place = nowhere; name = []; depth = 0; depth_at = nowhere; labels = []; forms = [] }

-- the process at an index
abbrev pub process_at : Program → ℕ → Process
process_at p index = slice_index_or p.processes index no_process

-- the place in a process to which a form jumps
abbrev pub landing_place : Process → FormKind → ℕ
landing_place q (Go label) = place_of_label q q.labels label
landing_place q (Call label) = place_of_label q q.labels label
landing_place q _ = 0

-- the same for each form
abbrev pub landings_in : Program → Process → List ℕ
landings_in p q = map (λ (x : Form). landing_place q x.kind) p.forms

-- the definitions whose kind passes a test, by their indices
abbrev pub indices_where : (What → Bool) → List Def → List ℕ
indices_where test [] = []
indices_where test (x ∷ xs) =
    if test x.what then 0 ∷ map suc (indices_where test xs) else map suc (indices_where test xs)

-- inputs, what is stored, and outputs
abbrev pub is_kind : Kind → What → Bool
is_kind Given what = is_input what
is_kind Stored what = is_stored what
is_kind Shown what = is_output what

-- the input pad of `reset`
abbrev pub reset_pad : List Def → Option ℕ
reset_pad defs = option_map (pad_number defs) (position is_reset defs)

pub record AreLinks (p : Program) (links : Links) : Type 0 where
  pub exprs : links.exprs.items ≡ map (λ (x : Expr). named p.defs x.kind) p.exprs
  pub forms : links.forms.items ≡ map (λ (x : Form). target p.defs x.kind) p.forms
  pub landings : links.landings ≡ map (landings_in p) p.processes
  pub defs : links.defs.items ≡ map (λ (x : Def). index_of p.defs x.name) p.defs
  pub setters : links.setters ≡ map (λ (x : Def). setters_of p x.name) p.defs
  pub quiet : AllQuiet p links.quiet
  pub inputs : links.inputs.items ≡ indices_where is_input p.defs
  pub stored : links.stored.items ≡ indices_where is_stored p.defs
  pub outputs : links.outputs.items ≡ indices_where is_output p.defs
  pub reset : links.reset ≡ reset_pad p.defs
