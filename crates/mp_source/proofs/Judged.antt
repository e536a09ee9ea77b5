-- What the reader, the parser and the checker refuse, as verdicts on a text.
use Rattle.std.proofs.Common.{◌≡◌, ℕ, ◌<◌, List, refl, sym, ◌∙◌, ap, inl, inr, length, Some, Err, subst, suc, arith}
use Rattle.std.specs.Prelude.{slice_index}
use Rattle.mp_base.specs.declared.refusal.Place.{Place}
use Rattle.mp_base.specs.declared.refusal.Family.TheVariants.{E}
use Rattle.mp_base.specs.declared.refusal.Spot.{Spot}
use Rattle.mp_base.specs.declared.refusal.Spot.TheVariants.{At, Offset, Named, Nowhere}
use Rattle.mp_base.specs.declared.refusal.Refusal.{Refusal}
use Rattle.mp_base.specs.declared.refusal.Refusal.TheVariants as refusals
use Rattle.mp_base.specs.Refuses.{RefusesAt, SpotIs, IsJudged}
use Rattle.form_reader.specs.declared.forms.Forms.{Forms}
use Rattle.form_reader.specs.Text.{place_at}
use Rattle.form_reader.specs.Sound.{node, IsSound}
use Rattle.form_reader.specs.Spelling.{Spells}
use Rattle.form_reader.specs.Rules.{RefusesFirst as RefusesText}
use Rattle.mp_shapes.specs.declared.table.Class.{Class}
use Rattle.mp_shapes.specs.Standing.{StandsFor, root, item, E10}
use Rattle.mp_written.specs.declared.program.Program.{Program}
use Rattle.mp_syntax.specs.Shape.{IsShape, E11, IsFirst as IsFirstOfForms}
use Rattle.written_rules.specs.Breaking.{Breaks, IsFirst as IsFirstOfProgram, RefusesFirst as RefusesProgram}
use Rattle.written_verdict.specs.Places.{HasPlace}
use Rattle.mp_source.specs.Source.{IsFirstRule, OfSource}
use Rattle.mp_source.proofs.Placed.{node_placed, item_within, place_is}
use Rattle.mp_source.proofs.Standing.{place_of_node}

-- a refusal that names a rule of this family at a place names the first broken rule, where each such rule and place
-- does
verdict : (T : Type 0) (text : List ℕ) (P : ℕ → Place → Type 0)
    → ((k : ℕ) (at : Place) → P k at → IsFirstRule text k at)
    → (e : Refusal) → RefusesAt E e P → IsJudged {T = T} (OfSource text) (Err e)
verdict T text P first refusals.NoMemory h = tt
verdict T text P first (refusals.Broken b) h = by_spot b.spot refl h.1
  where
    by_spot : (s : Spot) → b.spot ≡ s → SpotIs s (P b.rule.number) → OfSource text (Some b)
    by_spot (At at) is holds = (
      b.rule.number,
      at,
      first b.rule.number at holds,
      λ i.
          record { rule = record { family = h.0 i; number = b.rule.number }; spot = is i },
    )
    by_spot (Offset o) is holds = absurd holds
    by_spot (Named n) is holds = absurd holds
    by_spot Nowhere is holds = absurd holds

pub of_text : (T : Type 0) (text : List ℕ) (e : Refusal) → RefusesText text e → IsJudged {T = T} (OfSource text) (Err e)
of_text T text e h = verdict T text _ (λ k at first. record { place = first.0; first = inl first.1 }) e h

stands_within : (f : Forms) → IsSound f → (n : ℕ) (c : Class) → StandsFor f n c → n < length f.nodes
stands_within f sound n c (root r rs is) =
    let size : length f.roots ≡ suc (length rs) = ap length is in
    subst (λ xs. slice_index xs 0 < length f.nodes) is (sound.roots 0 (omega (arith, size)))
stands_within f sound n c (item m j _ d _ l outer there shape class) = (sound.behind m j n there).1

pub of_forms : (T : Type 0) (text : List ℕ) (f : Forms) → Spells text f → IsSound f → (e : Refusal)
    → RefusesAt E e (IsFirstOfForms f)
    → IsJudged {T = T} (OfSource text) (Err e)
of_forms T text f spells sound e h =
    verdict T text _ (λ k at first. record { place = place k at first; first = inr (inl (f, spells, first)) }) e h
  where
    at_node : (n : ℕ) (at : Place) → n < length f.nodes → at ≡ (node f n).place → at ≡ place_at text at.offset
    at_node n at lt is = place_is text (node f n).place.offset at (is ∙ node_placed text f n spells lt)

    tenth : (at : Place) → E10 f at → at ≡ place_at text at.offset
    tenth at (inl (n, (c, stands, none), is)) = at_node n at (stands_within f sound n c stands) is
    tenth at (inr (inl (none, is))) = place_is text (length text) at (is ∙ spells.end)
    tenth at (inr (inr (a, b, rs, roots, is))) =
        let size : length f.roots ≡ suc (suc (length rs)) = ap length roots in
        at_node b at (subst (λ xs. slice_index xs 1 < length f.nodes) roots (sound.roots 1 (omega (arith, size)))) is

    eleventh : (at : Place) → E11 f at → at ≡ place_at text at.offset
    eleventh at (r, n, v, rs, roots, layout, width, kind, wrong, is) =
        let size : length f.roots ≡ suc (length rs) = ap length roots in
        let top = subst (λ xs. slice_index xs 0 < length f.nodes) roots (sound.roots 0 (omega (arith, size))) in
        at_node n at (subst (λ m. m < length f.nodes) (sym width) (item_within f r 2 sound top)) is

    place : (k : ℕ) (at : Place) → IsFirstOfForms f k at → at ≡ place_at text at.offset
    place k at (inl (is, first)) = tenth at first.0
    place k at (inr (is, first, none)) = eleventh at first

pub of_program : (T : Type 0) (text : List ℕ) (f : Forms) (p : Program) → Spells text f → IsSound f → IsShape f p
    → ((q : Program) (k : ℕ) (at : Place) → Breaks q k at → HasPlace q at) → (e : Refusal) → RefusesProgram p e
    → IsJudged {T = T} (OfSource text) (Err e)
of_program T text f p spells sound shape placed e h =
    verdict T text _
    (λ k at first.
    record {
      place = place k at first;
      first = inr (inr (p, record { forms = f; spelled = spells; shape = shape }, first));
    }) e h
  where
    place : (k : ℕ) (at : Place) → IsFirstOfProgram p k at → at ≡ place_at text at.offset
    place k at first =
        let found = place_of_node f p sound shape at (placed p k at first.broken) in
        place_is text (node f found.0).place.offset at (found.2 ∙ node_placed text f found.0 spells found.1)
