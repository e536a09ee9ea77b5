-- What is made of a number breaks no rule.
use Rattle.std.proofs.Common.{◌≡◌, ℕ, ◌≤◌, Bool, List, [], ◌∷◌, sym, ◌∙◌, ap, subst, map, length, codes, arith, Option}
use Rattle.std.specs.Prelude.{filter}
use Rattle.std.proofs.lemmas.List.{length-map}
use Rattle.std.proofs.lemmas.Simd.{map-map}
use Rattle.mp_base.specs.declared.pad.Pad.{Pad}
use Rattle.mp_base.specs.declared.pad.Pads.{Pads}
use Rattle.mp_base.specs.Refuses.{SpotIs, RefusesAt}
use Rattle.mp_base.specs.declared.refusal.Broken.{Broken}
use Rattle.mp_base.specs.declared.refusal.Family.TheVariants.{S}
use Rattle.mp_base.specs.declared.refusal.Place.{Place}
use Rattle.mp_base.specs.declared.refusal.Refusal.TheVariants as refusals
use Rattle.mp_base.specs.declared.refusal.Spot.{Spot}
use Rattle.mp_base.specs.declared.refusal.Spot.TheVariants.{At, Offset, Named, Nowhere}
use Rattle.mp_program.specs.declared.program.Def.{Def}
use Rattle.mp_program.specs.declared.program.Program.{Program}
use Rattle.mp_program.specs.declared.program.What.{What}
use Rattle.mp_program.specs.Names.{is_input, is_output}
use Rattle.mp_program.specs.Pads.{ArePadsOf, Face, face, pad_width, pads_that, input_pads, output_pads}
use Rattle.stimulus.specs.declared.given.Stimulus.{Stimulus}
use Rattle.stimulus.specs.Reading.{IsStimulus, IsFirst}
use Rattle.mp_source.specs.Source.{IsSource}
use Rattle.program_maker.specs.Texts.{source_text}
use Rattle.made_program.specs.Made.{IsMade, defs_of}
use Rattle.made_stimulus.specs.Clocks.{AreMadeInputs}

abbrev pub OneSource : Type 0
OneSource = (text : List ℕ) (p q : Program) → IsSource text p → IsSource text q → p ≡ q

abbrev pub MadeSources : Type 0
MadeSources = (seed : ℕ) → (p : Program) × IsSource (source_text seed) p × IsMade p

-- the program that is read is a made one
pub read_is_made : OneSource → MadeSources → (seed : ℕ) (p : Program) → IsSource (source_text seed) p → IsMade p
read_is_made one made seed p is =
    let m = made seed in
    subst IsMade (one (source_text seed) m.0 p m.1 is) m.2

module _ (p : Program) (m : IsMade p) where
  -- the faces of the pads of a kind
  faces : (is_wanted : What → Bool) → pads_that is_wanted p
      ≡ map (λ (x : Def). let f : Face = (x.name, pad_width 16 x.what) in f)
      (filter (λ (x : Def). is_wanted x.what) (defs_of m.at))
  faces is_wanted =
      ap (λ w. map (λ (x : Def). let f : Face = (x.name, pad_width w x.what) in f)
      (filter (λ (x : Def). is_wanted x.what) p.defs)) m.width
      ∙ ap (λ (ds : List Def). map (λ (x : Def). let f : Face = (x.name, pad_width 16 x.what) in f)
      (filter (λ (x : Def). is_wanted x.what) ds)) m.defs

  pub input_faces : input_pads p ≡ (codes "reset", 0) ∷ (codes "a", 16) ∷ (codes "b", 16) ∷ []
  input_faces = faces is_input

  pub output_faces : output_pads p ≡ (codes "q", 16) ∷ []
  output_faces = faces is_output

pub made_inputs : (p : Program) (pads : Pads) → IsMade p → ArePadsOf p pads → AreMadeInputs pads.inputs
made_inputs p pads m are =
    let e = are.inputs ∙ input_faces p m in
    record {
      names = sym (map-map (λ (f : Face). f.0) face pads.inputs) ∙ ap (map (λ (f : Face). f.0)) e;
      widths = sym (map-map (λ (f : Face). f.1) face pads.inputs) ∙ ap (map (λ (f : Face). f.1)) e;
    }

pub few_inputs : (pads : Pads) → AreMadeInputs pads.inputs → length pads.inputs ≤ 256
few_inputs pads are =
    let e : length pads.inputs ≡ 3 = sym (length-map pads.inputs (λ (p : Pad). p.width)) ∙ ap length are.widths in
    omega (arith, e)

-- ---- refusals that never come

at_place : (spot : Spot) (P : Place → Type 0) → SpotIs spot P → (at : Place) × P at
at_place (At at) P h = (at, h)
at_place (Offset o) P h = absurd h
at_place (Named n) P h = absurd h
at_place Nowhere P h = absurd h

abbrev pub WholeOrFirst : Type 0
WholeOrFirst = (text : List ℕ) (known : Option Pads) (s : Stimulus) (k : ℕ) (at : Place) → IsStimulus text known s
    → IsFirst text known k at → ⊥

pub no_first : WholeOrFirst → (text : List ℕ) (known : Option Pads) (s : Stimulus) (b : Broken)
    → IsStimulus text known s
    → RefusesAt S (refusals.Broken b) (IsFirst text known) → ⊥
no_first whole text known s b is refuses =
    let first = at_place b.spot (IsFirst text known (b.rule).number) refuses.1 in
    whole text known s (b.rule).number first.0 is first.1
