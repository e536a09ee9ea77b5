-- The circuit of a chip follows its program along a stimulus.
use Rattle.std.proofs.Common.{◌≡◌, ℕ, List, [], ◌∷◌, length, refl, sym, subst, ◌∙◌, None, arith}
use Rattle.std.specs.Prelude.{All}
use Rattle.mp_base.specs.declared.value.Trit.{Trit}
use Rattle.mp_base.specs.declared.value.Trit.TheVariants.{X}
use Rattle.mp_base.specs.declared.pad.Pads.{Pads}
use Rattle.mp_program.specs.declared.program.Program.{Program}
use Rattle.mp_program.specs.State.{zero_state}
use Rattle.mp_program.specs.Pads.{ArePadsOf}
use Rattle.mp_program.proofs.Lengths.{length_trace}
use Rattle.switch_net.specs.declared.network.Network.{Network}
use Rattle.switch_net.specs.Breaks.{HasPads}
use Rattle.stimulus.specs.declared.given.Stimulus.{Stimulus}
use Rattle.stimulus.specs.Inputs.{inputs_of}
use Rattle.mp_base.specs.PadBits.{Fit}
use Rattle.transcript.specs.Transcript.{RunsAlong}
use Rattle.transcript.proofs.Inputs.{clocks_fit}
use Rattle.mask_net.specs.Masks.{IsNetOf, OfMask}
use Rattle.mask_net.specs.Laws.{OneNetwork, SoundWithPads}
use Rattle.headline.specs.Headline.{IsChipOf, Follows}
use Rattle.sim_run.specs.Transcript.{NetworkSteps}
use Rattle.sim_run.proofs.Circuits.{circuit_trace}
use Rattle.replay_run.specs.Replay.{IsReplay}
use Rattle.replay_run.specs.Laws.{OnePads, FollowsProgram}

runs_many : (net : Network) (pads : Pads) (before after : ℕ → Trit) (inputs : List (List ℕ))
    (shown : List (List (List Trit))) → RunsAlong (NetworkSteps net pads) before inputs shown after
    → length shown ≡ length inputs
runs_many net pads before after [] [] runs = refl
runs_many net pads before after [] (o ∷ os) runs = absurd runs
runs_many net pads before after (i ∷ is) [] runs = absurd runs
runs_many net pads before after (i ∷ is) (o ∷ os) runs =
    let e = runs_many net pads runs.0 after is os runs.2 in omega (arith, e)

module _ (one_network : OneNetwork) (sound : SoundWithPads) (one_pads : OnePads) (p : Program) (bytes : List ℕ)
    (chip : IsChipOf p bytes) where
  drawn_of_chip : IsNetOf bytes chip.network
  drawn_of_chip =
      let d = chip.draws in
      sound bytes d.shapes d.labels chip.network chip.pads (record {
        commands = d.commands;
        cif = record { read = d.read; well_formed = d.well_formed };
        drawn = d.drawn;
        drawable = d.drawable;
      }) d.mask

  pub draws : OfMask bytes None
  draws = (chip.network, drawn_of_chip)

  -- what holds of the chip's network and pads holds of these
  pub again : (P : Network → Pads → Type 0) (net : Network) (pads : Pads) → ArePadsOf p pads → IsNetOf bytes net
      → P chip.network chip.pads → P net pads
  again P net pads are drawn h =
      subst (λ n. P n pads) (one_network bytes chip.network net drawn_of_chip drawn)
      (subst (P chip.network) (one_pads p chip.pads pads chip.are_pads are) h)

  pub padded : (net : Network) (pads : Pads) → ArePadsOf p pads → IsNetOf bytes net → HasPads net pads
  padded net pads are drawn = again HasPads net pads are drawn ((chip.draws).mask).has_pads

  pub follows : (net : Network) (given : Stimulus) (text : List ℕ) → ArePadsOf p given.pads → IsNetOf bytes net
      → (replay : IsReplay net given text) → FollowsProgram p given (replay.transcript).shown
  follows net given text are drawn replay =
      let pads = given.pads in
      let inputs = inputs_of given in
      let shown = (replay.transcript).shown in
      let runs = (replay.transcript).runs in
      let fit : All (Fit pads.inputs) inputs = clocks_fit pads.inputs given.clocks 0 given.fits in
      let f : Follows p pads net inputs =
      again (λ n ps. (is : List (List ℕ)) → All (Fit ps.inputs) is → Follows p ps n is) net pads are drawn chip.follows
      inputs fit in
      let many : length shown ≡ length inputs = runs_many net pads (λ node. X) replay.end inputs shown runs in
      record {
        outputs = f.outputs;
        trace = f.program;
        as_many = many ∙ sym (length_trace p (zero_state p) inputs f.outputs f.program);
        agrees = λ k lt settled.
            f.agrees (λ node. X) replay.end shown (circuit_trace net pads (λ node. X) replay.end inputs shown runs) k
            (omega (arith, lt, many)) settled;
      }
