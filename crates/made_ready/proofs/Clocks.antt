-- The settled clocks of a made program are all but the first.
use Rattle.std.proofs.Common.{◌≡◌, ℕ, List, [], ◌∷◌, true, sym, ap, ◌∙◌, inl, inr, arith}
use Rattle.std.proofs.Common.{◌≤◌, length, map, Option, Some}
use Rattle.std.specs.Prelude.{◌||◌, nat_lt, slice_index_or}
use Rattle.std.specs.List.{list_any}
use Rattle.std.proofs.lemmas.List.{length-map}
use Rattle.mp_base.specs.declared.pad.Pads.{Pads}
use Rattle.mp_program.specs.declared.program.Def.{Def}
use Rattle.mp_program.specs.declared.program.Program.{Program}
use Rattle.mp_program.specs.Names.{is_stored}
use Rattle.mp_program.specs.Pads.{ArePadsOf, face}
use Rattle.mp_program.specs.Step.{resets}
use Rattle.mp_program.specs.Trace.{stores, IsSettled}
use Rattle.mp_program.proofs.Faces.{kept_pads}
use Rattle.stimulus.specs.declared.given.Given.{Given}
use Rattle.stimulus.specs.declared.given.Stimulus.{Stimulus}
use Rattle.stimulus.specs.Inputs.{inputs_at, inputs_of}
use Rattle.stimulus.specs.Reading.{IsStimulus}
use Rattle.mp_source.specs.Source.{IsSource}
use Rattle.program_maker.specs.Texts.{source_text, stimulus_text}
use Rattle.made_program.specs.Made.{IsMade}
use Rattle.made_program.proofs.Lists.{clash}
use Rattle.settled_sum.specs.Laws.{SettlesBehindFirst}
use Rattle.made_stimulus.specs.Clocks.{AreMadeInputs, made_clocks}
use Rattle.made_ready.proofs.Reading.{OneSource, MadeSources, read_is_made, input_faces, output_faces, made_inputs}
use Rattle.made_ready.proofs.Reading.{few_inputs}

module _ (p : Program) (m : IsMade p) where
  stored : stores p ≡ true
  stored =
      ap (λ (ds : List Def). list_any (λ (x : Def). is_stored x.what) ds || nat_lt 0 (length p.processes)) m.defs

  first_is_unsettled : (inputs : List (List ℕ)) → IsSettled p inputs 0 → ⊥
  first_is_unsettled inputs (inl none) = clash (stores p) stored none
  first_is_unsettled inputs (inr before) = absurd (omega (arith, before.1))

  three_inputs : (pads : Pads) → ArePadsOf p pads → length pads.inputs ≡ 3
  three_inputs pads padded =
      sym (length-map pads.inputs face) ∙ ap length (padded.inputs ∙ input_faces p m)

  pub one_output : (pads : Pads) → ArePadsOf p pads → length pads.outputs ≡ 1
  one_output pads padded =
      sym (length-map pads.outputs face) ∙ ap length (padded.outputs ∙ output_faces p m)

  module _ (seed : ℕ) (given : Stimulus) (padded : ArePadsOf p given.pads)
      (clocks : given.clocks ≡ made_clocks seed) where
    first_inputs : slice_index_or (inputs_of given) 0 [] ≡ 1 ∷ 0 ∷ 0 ∷ []
    first_inputs =
        ap (λ (n : ℕ). slice_index_or (map (inputs_at n) given.clocks) 0 []) (three_inputs given.pads padded)
        ∙ ap (λ (cs : List (List Given)). slice_index_or (map (inputs_at 3) cs) 0 []) clocks

    first_resets : resets p.defs (slice_index_or (inputs_of given) 0 []) ≡ true
    first_resets =
        ap (resets p.defs) first_inputs ∙ ap (λ (ds : List Def). resets ds (1 ∷ 0 ∷ 0 ∷ [])) m.defs

    -- all clocks but the first are settled
    pub settles : SettlesBehindFirst p (inputs_of given)
    settles = record { first = first_is_unsettled (inputs_of given); later = λ k. inr (0, omega arith, first_resets) }

pub many_clocks : (seed : ℕ) (given : Stimulus) → given.clocks ≡ made_clocks seed → length given.clocks ≡ 65
many_clocks seed given is = ap length is

-- ---- what is read of a number

abbrev pub MadeStimuli : Type 0
MadeStimuli =
    (seed : ℕ) (pads : Pads) → AreMadeInputs pads.inputs
    → (s : Stimulus) × IsStimulus (stimulus_text seed) (Some pads) s × (s.clocks ≡ made_clocks seed)

abbrev pub OneClocks : Type 0
OneClocks =
    (text : List ℕ) (known : Option Pads) (s t : Stimulus) → IsStimulus text known s → IsStimulus text known t
    → s.clocks ≡ t.clocks

-- the program and the stimulus of a number's texts
pub record IsReadyFor (p : Program) (given : Stimulus) : Type 0 where
  pub padded : ArePadsOf p given.pads
  pub few_inputs : length (given.pads).inputs ≤ 256
  pub one_output : length (given.pads).outputs ≡ 1
  pub clocks : length given.clocks ≡ 65
  pub settled : SettlesBehindFirst p (inputs_of given)

pub ready_for : OneSource → MadeSources → MadeStimuli → OneClocks → (seed : ℕ) (p : Program) (pads : Pads)
    (given : Stimulus) → IsSource (source_text seed) p → ArePadsOf p pads
    → IsStimulus (stimulus_text seed) (Some pads) given → IsReadyFor p given
ready_for one_source sources stimuli one_clocks seed p pads given is known read =
    let m = read_is_made one_source sources seed p is in
    let padded = kept_pads p pads given.pads known read.inputs read.outputs in
    let made = stimuli seed pads (made_inputs p pads m known) in
    let clocks = one_clocks (stimulus_text seed) (Some pads) given made.0 read made.1 ∙ made.2 in
    record {
      padded = padded;
      few_inputs = few_inputs given.pads (made_inputs p given.pads m padded);
      one_output = one_output p m given.pads padded;
      clocks = many_clocks seed given clocks;
      settled = settles p m seed given padded clocks;
    }
