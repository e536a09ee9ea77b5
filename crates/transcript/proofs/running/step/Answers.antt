use Rattle.std.proofs.Common.{◌∙◌, ℕ, List, [], length, get_or, sym, subst}
use Rattle.mp_base.specs.declared.pad.Pads.{Pads}
use Rattle.stimulus.specs.Bits.{trits_of}
use Rattle.mp_base.specs.PadBits.{Fit}
use Rattle.transcript.proofs.Inputs.{given_fits, values_are}
use Rattle.transcript.proofs.running.step.Goals as goal

pub clock-requires-clause-fit : goal.clock-requires-clause-fit
clock-requires-clause-fit g c =
    let s = c.args.given.now in
    let P : Pads → Type 0 = λ pads. Fit pads.inputs c.inputs.new.into in
    let Q : List ℕ → Type 0 = λ values. Fit (s.pads).inputs values in
    let are = values_are (get_or s.clocks c.args.clock []) (length (s.pads).inputs) c.inputs.new.into
    (c.inputs.ensures.len ∙ c.requires.room.inputs) c.inputs.ensures.values in
    subst P (sym c.requires.pads)
    (subst Q (sym are) (given_fits (s.pads).inputs s.clocks c.args.clock s.fits c.requires.clock))

pub returns-clause-printed : goal.returns-clause-printed
returns-clause-printed g c =
    let s = c.args.given.now in
    let words = c.clock.new.outputs in
    let P : Pads → Type 0 =
    λ pads. g.D.Device.steps c.args.device.now c.inputs.new.into (trits_of pads.outputs words) c.clock.new.self in
    let Q : List ℕ → Type 0 =
    λ values. g.D.Device.steps c.args.device.now values (trits_of (s.pads).outputs words) c.clock.new.self in
    let are = values_are (get_or s.clocks c.args.clock []) (length (s.pads).inputs) c.inputs.new.into
    (c.inputs.ensures.len ∙ c.requires.room.inputs) c.inputs.ensures.values in
    record {
      shown = trits_of (s.pads).outputs words;
      steps = subst Q are (subst P c.requires.pads c.clock.ensures.steps);
      taken = c.line.ensures.taken;
    }
