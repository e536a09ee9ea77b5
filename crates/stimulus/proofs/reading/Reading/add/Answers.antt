use Rattle.std.proofs.Common.{Option, Some, ◌∙◌, ap, subst}
use Rattle.std.specs.Prelude.{MatchOption}
use Rattle.std.specs.Option.{option_copied}
use Rattle.std.proofs.lemmas.Bool.{iff_false}
use Rattle.stimulus_lines.specs.declared.form.Form.{Form}
use Rattle.stimulus_lines.specs.declared.form.Form.TheVariants.{Input, Output, Clock}
use Rattle.stimulus_lines.specs.Forms.{IsForm}
use Rattle.stimulus.proofs.Adding.{first_fault, fault_weaker}
use Rattle.stimulus.proofs.reading.Reading.add.Goals as goal

pub returns-in-Some-Input-clause-err : goal.returns-in-Some-Input-clause-err
returns-in-Some-Input-clause-err c =
    let P : Option Form
    → Type 0 = λ found. MatchOption found ((f : Form) → IsForm c.args.line.now f → ⊥) (IsForm c.args.line.now) in
    let found : P c.in_ok-read_form.field-0 = c.in_ok-read_form.ensures in
    let is : IsForm c.args.line.now (Input c.in-Some-Input.pad) =
    subst P (c.in-Some-Input.is ∙ ap Some c.in-Some-Input.field-0-is) found in
    fault_weaker _ _ _
    (λ k at. first_fault (option_copied c.args.known) c.args.self.now c.args.line.now (Input c.in-Some-Input.pad) k at
    (iff_false c.is_full.ensures c.if-is_full.false) is) c.add_input.ensures.err

pub returns-in-Some-Output-clause-err : goal.returns-in-Some-Output-clause-err
returns-in-Some-Output-clause-err c =
    let P : Option Form
    → Type 0 = λ found. MatchOption found ((f : Form) → IsForm c.args.line.now f → ⊥) (IsForm c.args.line.now) in
    let found : P c.in_ok-read_form.field-0 = c.in_ok-read_form.ensures in
    let is : IsForm c.args.line.now (Output c.in-Some-Output.pad) =
    subst P (c.in-Some-Output.is ∙ ap Some c.in-Some-Output.field-0-is) found in
    fault_weaker _ _ _
    (λ k at. first_fault (option_copied c.args.known) c.args.self.now c.args.line.now
    (Output c.in-Some-Output.pad) k at (iff_false c.is_full.ensures c.if-is_full.false) is) c.add_output.ensures.err

pub returns-in-Some-Clock-clause-err : goal.returns-in-Some-Clock-clause-err
returns-in-Some-Clock-clause-err c =
    let P : Option Form
    → Type 0 = λ found. MatchOption found ((f : Form) → IsForm c.args.line.now f → ⊥) (IsForm c.args.line.now) in
    let found : P c.in_ok-read_form.field-0 = c.in_ok-read_form.ensures in
    let is : IsForm c.args.line.now (Clock c.in-Some-Clock.words) =
    subst P (c.in-Some-Clock.is ∙ ap Some c.in-Some-Clock.field-0-is) found in
    fault_weaker _ _ _
    (λ k at. first_fault (option_copied c.args.known) c.args.self.now c.args.line.now
    (Clock c.in-Some-Clock.words) k at (iff_false c.is_full.ensures c.if-is_full.false) is) c.add_clock.ensures.err
