-- The source of each number spells a made program.
use Rattle.std.proofs.Common.{◌≡◌, ◌⊎◌, ℕ, List, [], ◌++◌, sym, subst, inl, inr}
use Rattle.mp_base.specs.declared.refusal.Place.{Place}
use Rattle.form_reader.specs.declared.forms.Forms.{Forms}
use Rattle.form_reader.specs.Sound.{IsSound, HasSymbols}
use Rattle.form_reader.specs.Spelling.{Spells}
use Rattle.form_text.specs.Items.{Items, text_of, forms_of, IsWritten}
use Rattle.mp_program.specs.declared.program.Program as plain
use Rattle.mp_written.specs.declared.program.Program.{Program}
use Rattle.mp_syntax.specs.Shape.{IsShape, IsFirst}
use Rattle.mp_rules.specs.Breaking.{IsUnbroken}
use Rattle.written_frame.specs.Frame.{IsFrame}
use Rattle.written_frame.specs.SameRules.{HaveSameRules}
use Rattle.mp_source.specs.Source.{IsSource}
use Rattle.program_maker.specs.Texts.{source_text}
use Rattle.made_program.specs.Made.{Row, IsMade}
use Rattle.made_source.specs.Written.{feed, settings, heading, made_items}
use Rattle.made_source.proofs.Numbered.{places_of, forms_are}
use Rattle.made_source.proofs.Table.{thirteen, made_forms}
use Rattle.made_source.proofs.Standing.{no_E10, no_E11}
use Rattle.made_source.proofs.Shaped.{shape_is_made}
use Rattle.made_source.proofs.OwnExpansion.{ExpansionLaws, own_keeps}
use Rattle.made_source.proofs.Expanded.{own, is_made}
use Rattle.made_source.proofs.Texts.{row_at, rows_are, targets_are, source_is, made_is_written}

-- the laws of the crates below
pub record Laws : Type 0 where
  pub sound : (text : List ℕ) (f : Forms) → Spells text f → IsSound f
  pub symbols : (text : List ℕ) (f : Forms) → Spells text f → HasSymbols f
  pub written : (items : Items) (gap : List ℕ) → IsWritten items gap
      → Spells (text_of items ++ gap) (forms_of items gap)
  pub verdict : (f : Forms) → IsSound f → HasSymbols f
      → ((w : Program) × IsShape f w) ⊎ ((k : ℕ) × (at : Place) × IsFirst f k at)
  pub frame : (w : Program) → (s : plain.Program) × IsFrame w s × ((q : plain.Program) → IsFrame w q → q ≡ s)
  pub same : (w : Program) (s : plain.Program) → IsFrame w s → HaveSameRules w s
  pub expansions : ExpansionLaws
  pub unbroken : (p : plain.Program) → IsMade p → IsUnbroken p

pub made_is_source : Laws → (seed : ℕ) → (p : plain.Program) × IsSource (source_text seed) p × IsMade p
made_is_source laws seed =
    let r : ℕ → Row = row_at seed in
    let items : Items = made_items (thirteen r) in
    let text : List ℕ = text_of items ++ feed in
    let f : Forms = forms_of items feed in
    let g : Forms = made_forms (places_of f) f.end r in
    let same : f ≡ g = forms_are [] [] feed (heading (settings (thirteen r))) in
    let spelled : Spells text f = laws.written items feed (made_is_written seed) in
    elim (laws.verdict f (laws.sound text f spelled) (laws.symbols text f spelled)) [
      | inl (w, shape) ↦
          let is = shape_is_made (places_of f) f.end r (rows_are seed) w (subst (λ h. IsShape h w) same shape) in
          let (s, framed, only) = laws.frame w in
          let alone = own (places_of f) r w is s framed (laws.same w s framed) in
          let made : IsMade s = is_made (places_of f) r w is s framed (rows_are seed) (targets_are seed) in
          let unbroken : IsUnbroken s = laws.unbroken s made in (
            s,
            record {
              written = w;
              spells = record {
                forms = f;
                spelled = subst (λ t. Spells t f) (sym (source_is seed)) spelled;
                shape = shape;
              };
              kept = own_keeps w s alone laws.expansions unbroken;
              expansion = alone.expansion;
              unbroken = unbroken;
            },
            made,
          )
      | inr broken ↦ absurd (none broken.0 broken.1 (subst (λ h. IsFirst h broken.0 broken.1) same broken.2))
    ]
  where
    none : (k : ℕ) (at : Place)
        → IsFirst (made_forms (places_of (forms_of (made_items (thirteen (row_at seed))) feed))
        ((forms_of (made_items (thirteen (row_at seed))) feed).end) (row_at seed)) k at → ⊥
    none k at (inl (is, first)) = no_E10 (places_of (forms_of (made_items (thirteen (row_at seed))) feed))
        ((forms_of (made_items (thirteen (row_at seed))) feed).end) (row_at seed) (rows_are seed) at first.0
    none k at (inr (is, broken, first)) = no_E11 (places_of (forms_of (made_items (thirteen (row_at seed))) feed))
        ((forms_of (made_items (thirteen (row_at seed))) feed).end) (row_at seed) (rows_are seed) at broken
