use Rattle.std.proofs.Common.{◌≡◌, ℕ, ◌+◌, ◌<◌, List, true, length, take, get_or, sym, ◌∙◌, ap, subst, arith}
use Rattle.std.proofs.lemmas.List.{get_or_default, length-set}
use Rattle.mp_base.specs.declared.pad.Pad.{Pad}
use Rattle.stimulus.specs.declared.given.Given.{Given}
use Rattle.stimulus.specs.Fitting.{is_fitting_clock, value_given}
use Rattle.stimulus.proofs.Giving.{clock_at, input_at, written}
use Rattle.stimulus.proofs.given.Stimulus.inputs.Goals as goal

pub set-requires : goal.set-requires
set-requires c =
    let inputs : List Pad = c.args.self.now.pads.inputs in
    let gs : List Given = c.as_slice-given-items.result.now in
    let none : Given = record { input = 0; value = 0 } in
    let g : Given = get_or gs c.loop-given.given-index none in
    let fit : is_fitting_clock inputs gs ≡ true =
    ap (is_fitting_clock inputs) (c.as_slice-given-items.ensures ∙ c.at.ensures)
    ∙ clock_at inputs c.args.self.now.clocks c.args.clock c.at.result.now c.args.self.now.fits c.requires.clock in
    let within : g.input < length inputs =
    input_at inputs gs c.loop-given.given-index g fit c.loop-given-test.true
    (get_or_default gs c.loop-given.given-index none g c.loop-given-test.true) in
    omega (arith, within, c.loop-given.invariant.len, c.requires.places)

pub loop-given-preserved : goal.loop-given-preserved
loop-given-preserved c =
    let inputs : List Pad = c.args.self.now.pads.inputs in
    let gs : List Given = c.as_slice-given-items.result.now in
    let none : Given = record { input = 0; value = 0 } in
    let g : Given = get_or gs c.loop-given.given-index none in
    let is = get_or_default gs c.loop-given.given-index none g c.loop-given-test.true in
    let fit : is_fitting_clock inputs gs ≡ true =
    ap (is_fitting_clock inputs) (c.as_slice-given-items.ensures ∙ c.at.ensures)
    ∙ clock_at inputs c.args.self.now.clocks c.args.clock c.at.result.now c.args.self.now.fits c.requires.clock in
    let within : g.input < length inputs =
    input_at inputs gs c.loop-given.given-index g fit c.loop-given-test.true is in
    let room : g.input < length c.loop-given.into =
    omega (arith, within, c.loop-given.invariant.len, c.requires.places) in
    let P : List ℕ → Type 0 = λ ys. (i : ℕ) → i < length ys
    → get_or ys i 0 ≡ value_given (take (c.loop-given.given-index + 1) gs) i in
    record {
      len = ap length c.set.ensures ∙ length-set c.loop-given.into g.input g.value ∙ c.loop-given.invariant.len;
      values =
          subst P (sym c.set.ensures)
          (written c.loop-given.into inputs gs c.loop-given.given-index g fit c.loop-given-test.true is room
          c.loop-given.invariant.values);
    }
