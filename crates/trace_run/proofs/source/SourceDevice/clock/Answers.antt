use Rattle.std.proofs.Common.{◌≡◌, ◌∙◌, ℕ, ◌<◌, List, length, get_or, refl, sym, ap, subst}
use Rattle.mp_base.specs.declared.pad.Pad.{Pad}
use Rattle.mp_program.specs.declared.program.Program.{Program}
use Rattle.mp_program.specs.Pads.{input_pads, FitsPads}
use Rattle.mp_program.specs.Trace.{IsClock}
use Rattle.stimulus.specs.Bits.{trits_of}
use Rattle.mp_base.specs.PadBits.{value_bits, Fit}
use Rattle.stimulus.specs.Fitting.{bound_at}
use Rattle.trace_run.specs.Source.{Sourcing, SourceSteps}
use Rattle.trace_run.proofs.Inputs.{inputs_fit, outputs_fit, many_outputs, clock_fits}
use Rattle.trace_run.proofs.source.SourceDevice.clock.Goals as goal

pub clock-requires-clause-inputs : goal.clock-requires-clause-inputs
clock-requires-clause-inputs c =
    let was = c.self.invariant in
    let F : Sourcing → Type 0 = λ s. Fit (s.pads).inputs c.args.inputs.now in
    let P : Program → Type 0 = λ p. FitsPads (input_pads p) c.args.inputs.now in
    subst P (sym was.program)
    (inputs_fit c.self.inside.checked.now.program c.self.inside.pads.now c.args.inputs.now was.padded
    (subst F (sym c.self.view_is) c.requires.fit))

pub fill_words-requires-clause-outputs : goal.fill_words-requires-clause-outputs
fill_words-requires-clause-outputs c =
    let p = c.self.inside.checked.now.program in
    let pads = c.self.inside.pads.now in
    let was = c.self.invariant in
    let F : Sourcing → Type 0 = λ s. Fit (s.pads).inputs c.args.inputs.now in
    let R : Program → Type 0 =
    λ q. IsClock q c.self.inside.machine.state c.args.inputs.now c.clock.new.outputs c.clock.new.self.state in
    let fit =
    clock_fits p pads c.self.inside.machine.state c.clock.new.self.state c.args.inputs.now c.clock.new.outputs
    c.clocks_fit.ensures.fit
    was.state was.fits was.padded (subst F (sym c.self.view_is) c.requires.fit)
    (subst R was.program c.clock.ensures.clock) in
    ap length c.as_slice-2.ensures ∙ fit.0.size ∙ sym (many_outputs p pads was.padded)
    ∙ ap length (sym c.as_slice.ensures)

pub fill_words-requires-clause-fits : goal.fill_words-requires-clause-fits
fill_words-requires-clause-fits c =
    let p = c.self.inside.checked.now.program in
    let pads = c.self.inside.pads.now in
    let was = c.self.invariant in
    let F : Sourcing → Type 0 = λ s. Fit (s.pads).inputs c.args.inputs.now in
    let R : Program → Type 0 =
    λ q. IsClock q c.self.inside.machine.state c.args.inputs.now c.clock.new.outputs c.clock.new.self.state in
    let fit =
    clock_fits p pads c.self.inside.machine.state c.clock.new.self.state c.args.inputs.now c.clock.new.outputs
    c.clocks_fit.ensures.fit
    was.state was.fits was.padded (subst F (sym c.self.view_is) c.requires.fit)
    (subst R was.program c.clock.ensures.clock) in
    let A : List Pad → Type 0 = λ ps. (k : ℕ) → k < length ps → get_or c.as_slice-2.result.now k 0 < bound_at ps k in
    let B : List ℕ → Type 0 = λ os. (k : ℕ) → k < length pads.outputs → get_or os k 0 < bound_at pads.outputs k in
    subst A (sym c.as_slice.ensures)
    (subst B (sym c.as_slice-2.ensures) (outputs_fit p pads c.clock.new.outputs was.padded fit.0))

pub invariant_of-self : goal.invariant_of-self
invariant_of-self c =
    let p = c.self.inside.checked.now.program in
    let pads = c.self.inside.pads.now in
    let st = c.self.inside.machine.state in
    let was = c.self.invariant in
    let F : Sourcing → Type 0 = λ s. Fit (s.pads).inputs c.args.inputs.now in
    let R : Program → Type 0 = λ q. IsClock q st c.args.inputs.now c.clock.new.outputs c.clock.new.self.state in
    let clock = subst R was.program c.clock.ensures.clock in
    let fit = clock_fits p pads st c.clock.new.self.state c.args.inputs.now c.clock.new.outputs c.clocks_fit.ensures.fit
    was.state was.fits was.padded (subst F (sym c.self.view_is) c.requires.fit) clock in
    record {
      program = c.clock.ensures.program ∙ was.program;
      state = c.clocks_fit.ensures.last st c.clock.new.self.state c.args.inputs.now c.clock.new.outputs was.state clock;
      fits = fit.1;
      padded = was.padded;
      room = fit.0.size ∙ sym (many_outputs p pads was.padded);
    }

pub returns-clause-steps : goal.returns-clause-steps
returns-clause-steps c =
    let p = c.self.inside.checked.now.program in
    let pads = c.self.inside.pads.now in
    let st = c.self.inside.machine.state in
    let words = c.fill_words.new.words in
    let R : Program → Type 0 = λ q. IsClock q st c.args.inputs.now c.clock.new.outputs c.clock.new.self.state in
    let S : Sourcing → Type 0 = λ s. SourceSteps s c.args.inputs.now (trits_of (s.pads).outputs words)
    (record { program = p; pads = pads; state = c.clock.new.self.state }) in
    let bits : trits_of pads.outputs words ≡ value_bits pads.outputs c.clock.new.outputs =
    ap (λ ps. trits_of ps words) (sym c.as_slice.ensures) ∙ c.fill_words.ensures.bits
    ∙ ap (λ ps. value_bits ps c.as_slice-2.result.now) c.as_slice.ensures
    ∙ ap (value_bits pads.outputs) c.as_slice-2.ensures in
    subst S c.self.view_is (record {
      program = refl;
      pads = refl;
      clock =
          record {
            outputs = c.clock.new.outputs;
            clock = subst R c.self.invariant.program c.clock.ensures.clock;
            bits = bits;
          };
    })
