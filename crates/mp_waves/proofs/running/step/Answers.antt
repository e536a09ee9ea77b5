use Rattle.std.proofs.Common.{◌≡◌, ◌+◌, ◌++◌, ◌∙◌, [], length, get_or, sym, ap, subst, map, arith, rules}
use Rattle.std.proofs.lemmas.Grind.{common_steps}
use Rattle.mp_base.specs.PadBits.{Fit}
use Rattle.mp_program.specs.declared.program.Program.{Program}
use Rattle.mp_program.specs.Pads.{input_pads, FitsPads}
use Rattle.mp_program.specs.State.{Seat}
use Rattle.mp_program.specs.Trace.{IsClock}
use Rattle.transcript.proofs.Inputs.{given_fits, values_are}
use Rattle.mp_waves.proofs.Fitting.{inputs_fit}
use Rattle.wave_text.specs.Waves.{state_text, values_text}
use Rattle.mp_waves.specs.Running.{given_at, IsRun}
use Rattle.mp_waves.specs.Running.IsRun.{clock}
use Rattle.mp_waves.proofs.running.step.Goals as goal

pub clock-requires-clause-inputs : goal.clock-requires-clause-inputs
clock-requires-clause-inputs c =
    let s = c.args.given.now in
    let p = c.args.program.now in
    let values = c.inputs.new.into in
    let long : length values ≡ length (s.pads).inputs =
    first_of (
      search rules,
      grind (arith, common_steps),
      omega (arith, c.inputs.ensures.len, ap length c.from_vec-values.ensures, c.in_ok-vec.ensures.len, c.len.ensures),
    ) in
    let are : values ≡ given_at s c.args.clock =
    values_are (get_or s.clocks c.args.clock []) (length (s.pads).inputs) values long c.inputs.ensures.values in
    let fit : Fit (s.pads).inputs values =
    subst (Fit (s.pads).inputs) (sym are) (given_fits (s.pads).inputs s.clocks c.args.clock s.fits c.requires.clock) in
    subst (λ (q : Program). FitsPads (input_pads q) values) (sym c.requires.program)
    (inputs_fit p s.pads values c.requires.padded fit)

pub returns-clause-run : goal.returns-clause-run
returns-clause-run c =
    let s = c.args.given.now in
    let p = c.args.program.now in
    let k = c.args.clock in
    let st = c.args.machine.now.state in
    let values = c.inputs.new.into in
    let shown = c.clock.new.outputs in
    let next = c.clock.new.self.state in
    let long : length values ≡ length (s.pads).inputs =
    first_of (
      search rules,
      grind (arith, common_steps),
      omega (arith, c.inputs.ensures.len, ap length c.from_vec-values.ensures, c.in_ok-vec.ensures.len, c.len.ensures),
    ) in
    let are : values ≡ given_at s k =
    values_are (get_or s.clocks k []) (length (s.pads).inputs) values long c.inputs.ensures.values in
    let clocked : IsClock p st (given_at s k) shown next =
    subst (λ v. IsClock p st v shown next) are
    (subst (λ (q : Program). IsClock q st values shown next) c.requires.program c.clock.ensures.clock) in
    let before = c.args.text.now.items ++ state_text p k st.stored (map (λ (t : Seat). t.place) st.seats) in
    let begun = c.push_state.new.text.items in
    let text : c.push_values.new.text.items ≡ before ++ values_text k (given_at s k) shown =
    c.in_ok-push_values.ensures
    ∙ ap (λ v. begun ++ values_text k v c.as_slice-2.result.now) (c.as_slice.ensures ∙ are)
    ∙ ap (λ v. begun ++ values_text k (given_at s k) v) c.as_slice-2.ensures
    ∙ ap (λ t. t ++ values_text k (given_at s k) shown) c.in_ok-push_state.ensures in
    subst (IsRun p s (k + 1) next) (sym text) (clock c.requires.run clocked)
