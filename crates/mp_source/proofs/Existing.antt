-- A text has a verdict.
use Rattle.std.proofs.Common.{◌⊎◌, inl, inr, ℕ, List, Option, Some, None, refl}
use Rattle.mp_base.specs.declared.refusal.Place.{Place}
use Rattle.mp_base.specs.declared.refusal.Broken.{Broken}
use Rattle.mp_base.specs.declared.refusal.Refusal.TheVariants as refusals
use Rattle.form_reader.specs.declared.forms.Forms.{Forms}
use Rattle.form_reader.specs.Text.{place_at}
use Rattle.form_reader.specs.Sound.{IsSound, HasSymbols}
use Rattle.form_reader.specs.Spelling.{Spells}
use Rattle.form_reader.specs.Rules.{IsFirst as IsFirstOfText}
use Rattle.mp_program.specs.declared.program.Program as plain
use Rattle.mp_written.specs.declared.program.Program.{Program}
use Rattle.mp_written.specs.Expansion.{IsExpansion}
use Rattle.mp_syntax.specs.Shape.{IsShape, IsFirst as IsFirstOfForms}
use Rattle.mp_rules.specs.Breaking as plain_breaking
use Rattle.written_rules.specs.Breaking.{Breaks, IsUnbroken, IsFirst as IsFirstOfProgram}
use Rattle.written_verdict.specs.Places.{HasPlace}
use Rattle.mp_source.specs.Source.{OfSource, broken_rule}
use Rattle.mp_source.proofs.Judged.{of_text, of_forms, of_program}

-- the laws of the three stages
pub record Stages : Type 0 where
  pub texts : (text : List ℕ) → ((f : Forms) × Spells text f) ⊎ ((k o : ℕ) × IsFirstOfText text k o)
  pub sound : (text : List ℕ) (f : Forms) → Spells text f → IsSound f
  pub symbols : (text : List ℕ) (f : Forms) → Spells text f → HasSymbols f
  pub forms : (f : Forms) → IsSound f → HasSymbols f → ((p : Program) × IsShape f p)
      ⊎ ((k : ℕ) × (at : Place) × IsFirstOfForms f k at)
  pub programs : (p : Program) → IsUnbroken p ⊎ ((k : ℕ) × (at : Place) × IsFirstOfProgram p k at)
  pub expanded : (w : Program) → IsUnbroken w → (p : plain.Program) × IsExpansion w p × plain_breaking.IsUnbroken p
  pub placed : (p : Program) (k : ℕ) (at : Place) → Breaks p k at → HasPlace p at

module _ (laws : Stages) (text : List ℕ) where
  abbrev Verdict : Type 0
  Verdict = (verdict : Option Broken) × OfSource text verdict

  of_a_program : (f : Forms) (p : Program) → Spells text f → IsSound f → IsShape f p → IsUnbroken p
      ⊎ ((k : ℕ) × (at : Place) × IsFirstOfProgram p k at) → Verdict
  of_a_program f p spells sound shape (inl unbroken) =
      let (q, expansion, kept) = laws.expanded p unbroken in (
        None,
        (
          q,
          record {
            written = p;
            spells = record { forms = f; spelled = spells; shape = shape };
            kept = unbroken;
            expansion = expansion;
            unbroken = kept;
          },
        ),
      )
  of_a_program f p spells sound shape (inr (k, at, first)) = (
    Some (broken_rule k at),
    of_program (Unit {0}) text f p spells sound shape laws.placed
        (refusals.Broken (broken_rule k at)) (refl, first),
  )

  of_some_forms : (f : Forms) → Spells text f → IsSound f → ((p : Program) × IsShape f p)
      ⊎ ((k : ℕ) × (at : Place) × IsFirstOfForms f k at) → Verdict
  of_some_forms f spells sound (inl (p, shape)) = of_a_program f p spells sound shape (laws.programs p)
  of_some_forms f spells sound (inr (k, at, first)) = (
    Some (broken_rule k at),
    of_forms (Unit {0}) text f spells sound (refusals.Broken (broken_rule k at))
        (refl, first),
  )

  of_a_text : ((f : Forms) × Spells text f) ⊎ ((k o : ℕ) × IsFirstOfText text k o) → Verdict
  of_a_text (inl (f, spells)) = let sound = laws.sound text f spells in of_some_forms f spells sound
      (laws.forms f sound (laws.symbols text f spells))
  of_a_text (inr (k, o, first)) = (
    Some (broken_rule k (place_at text o)),
    of_text (Unit {0}) text
        (refusals.Broken (broken_rule k (place_at text o))) (refl, (refl, first)),
  )

  pub a_verdict : Verdict
  a_verdict = of_a_text (laws.texts text)
