-- Whether what is named is defined.
use Rattle.std.specs.Prelude.{◌≡◌, ℕ, ◌<◌, List, length, slice_index}
use Rattle.mp_base.specs.declared.refusal.Place.{Place}
use Rattle.mp_program.specs.declared.program.ExprKind.TheVariants.{Named}
use Rattle.mp_program.specs.declared.program.FormKind.TheVariants.{Set}
use Rattle.mp_program.specs.declared.program.Expr.{Expr}
use Rattle.mp_program.specs.declared.program.Form.{Form}
use Rattle.mp_program.specs.declared.program.Program.{Program}
use Rattle.mp_base.specs.Entries.{IsAt}
use Rattle.name_meanings.specs.declared.meaning.Meanings.{Meanings}

-- what is named by an expression or a `setq` is a definition
pub record NamesDefinitions (p : Program) (m : Meanings) : Type 0 where
  pub exprs : (e : ℕ) (x : Expr) (name : List ℕ) → IsAt p.exprs e x → x.kind ≡ Named name
      → slice_index m.exprs e < length p.defs
  pub targets : (f : ℕ) (y : Form) (name : List ℕ) (at : Place) (v : ℕ) → IsAt p.forms f y → y.kind ≡ Set name at v
      → slice_index m.targets f < length p.defs
