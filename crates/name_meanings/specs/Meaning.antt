-- What the names in a program mean.
use Rattle.std.specs.Prelude.{◌≡◌, ℕ, List, length, slice_index}
use Rattle.mp_base.specs.declared.refusal.Place.{Place}
use Rattle.mp_program.specs.declared.program.ExprKind.TheVariants.{Named}
use Rattle.mp_program.specs.declared.program.FormKind.TheVariants.{Set}
use Rattle.mp_program.specs.declared.program.Expr.{Expr}
use Rattle.mp_program.specs.declared.program.Form.{Form}
use Rattle.mp_program.specs.declared.program.Program.{Program}
use Rattle.mp_program.specs.Names.{index_of}
use Rattle.mp_base.specs.Entries.{IsAt}
use Rattle.name_meanings.specs.declared.meaning.Meanings.{Meanings}

-- for each expression that is a name, and for each `setq`, the index of the definition that is named
pub record AreMeanings (p : Program) (m : Meanings) : Type 0 where
  pub as_many_exprs : length m.exprs ≡ length p.exprs
  pub as_many_targets : length m.targets ≡ length p.forms
  pub exprs : (e : ℕ) (x : Expr) (name : List ℕ) → IsAt p.exprs e x → x.kind ≡ Named name
      → slice_index m.exprs e ≡ index_of p.defs name
  pub targets : (f : ℕ) (y : Form) (name : List ℕ) (at : Place) (v : ℕ) → IsAt p.forms f y → y.kind ≡ Set name at v
      → slice_index m.targets f ≡ index_of p.defs name
