-- Source texts: the programs that they spell, and the first rule that one breaks.
use Rattle.std.specs.Prelude.{◌≡◌, ◌⊎◌, ℕ, List, Option, Some, None}
use Rattle.mp_base.specs.declared.refusal.Place.{Place}
use Rattle.mp_base.specs.declared.refusal.Broken.{Broken}
use Rattle.mp_base.specs.declared.refusal.Family.TheVariants.{E}
use Rattle.mp_base.specs.declared.refusal.Spot.TheVariants.{At}
use Rattle.form_reader.specs.declared.forms.Forms.{Forms}
use Rattle.form_reader.specs.Text.{place_at}
use Rattle.form_reader.specs.Spelling.{Spells}
use Rattle.form_reader.specs.Rules.{IsFirst as IsFirstOfText}
use Rattle.mp_program.specs.declared.program.Program as plain
use Rattle.mp_written.specs.declared.program.Program.{Program}
use Rattle.mp_written.specs.Expansion.{IsExpansion}
use Rattle.mp_syntax.specs.Shape.{IsShape, IsFirst as IsFirstOfForms}
use Rattle.mp_rules.specs.Breaking as plain_breaking
use Rattle.written_rules.specs.Breaking.{IsUnbroken, IsFirst as IsFirstOfProgram}

-- the text spells this program, as it is written
pub record IsSpelled (text : List ℕ) (written : Program) : Type 0 where
  pub forms : Forms
  pub spelled : Spells text forms
  pub shape : IsShape forms written

-- The text spells a program that breaks no rule as it is written. This is its expansion, which has no functions and breaks
-- no rule either.
pub record IsSource (text : List ℕ) (program : plain.Program) : Type 0 where
  pub written : Program
  pub spells : IsSpelled text written
  pub kept : IsUnbroken written
  pub expansion : IsExpansion written program
  pub unbroken : plain_breaking.IsUnbroken program

-- The first rule, by its number and place: of the text (E1 to E5); or of the forms that it spells (E10, E11); or of the
-- program whose shape these have, as it is written (E20 to E45).
pub record IsFirstRule (text : List ℕ) (k : ℕ) (at : Place) : Type 0 where
  pub place : at ≡ place_at text at.offset
  pub first : IsFirstOfText text k at.offset
      ⊎ ((forms : Forms) × Spells text forms × IsFirstOfForms forms k at)
      ⊎ ((program : Program) × IsSpelled text program × IsFirstOfProgram program k at)

-- rule E k, broken at a place
abbrev pub broken_rule : ℕ → Place → Broken
broken_rule k at = record { rule = record { family = E; number = k }; spot = At at }

-- no rule is broken, or this is the first one that is
abbrev pub OfSource : List ℕ → Option Broken → Type 0
OfSource text None = (program : plain.Program) × IsSource text program
OfSource text (Some broken) = (k : ℕ) × (at : Place) × IsFirstRule text k at × (broken ≡ broken_rule k at)
