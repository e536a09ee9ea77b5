use Rattle.mp_base.specs.declared.refusal.Family.TheVariants.{E}
use Rattle.mp_base.specs.Refuses.{RefusesAt}
use Rattle.form_reader.specs.Sound.{IsSound}
use Rattle.form_reader.specs.Spelling.{Spells}
use Rattle.form_reader.specs.Rules.{RefusesFirst as RefusesText}
use Rattle.mp_syntax.specs.Shape.{IsShape, IsFirst as IsFirstOfForms}
use Rattle.mp_written.specs.Expansion.{IsExpansion}
use Rattle.written_rules.specs.Breaking.{IsUnbroken, RefusesFirst as RefusesProgram}
use Rattle.mp_checker.specs.Checking.{CheckedProgram}
use Rattle.mp_source.proofs.Judged.{of_text, of_forms, of_program}
use Rattle.mp_source.proofs.judge.check_source.Goals as goal

pub returns-in-Err-clause-judged : goal.returns-in-Err-clause-judged
returns-in-Err-clause-judged c =
    let first : RefusesText c.args.text.now c.in-Err.refusal = c.in-Err.ensures.judged in
    of_text CheckedProgram c.args.text.now c.in-Err.refusal first

pub returns-in-Err-parse-clause-judged : goal.returns-in-Err-parse-clause-judged
returns-in-Err-parse-clause-judged c =
    let spells : Spells c.args.text.now c.in-Ok.forms = c.in-Ok.ensures.spelled in
    let sound : IsSound c.in-Ok.forms = c.in-Ok.ensures.sound in
    let first : RefusesAt E c.in-Err-parse.refusal (IsFirstOfForms c.in-Ok.forms) = c.in-Err-parse.ensures.judged in
    of_forms CheckedProgram c.args.text.now c.in-Ok.forms spells sound c.in-Err-parse.refusal first

pub returns-in-Ok-check-clause-source : goal.returns-in-Ok-check-clause-source
returns-in-Ok-check-clause-source c =
    let spells : Spells c.args.text.now c.in-Ok.forms = c.in-Ok.ensures.spelled in
    let shape : IsShape c.in-Ok.forms c.in-Ok-parse.program = c.in-Ok-parse.ensures.shape in
    let kept : IsUnbroken c.in-Ok-parse.program = c.in-Ok-check.ensures.judged in
    let expansion : IsExpansion c.in-Ok-parse.program c.in-Ok-check.checked.program = c.in-Ok-check.ensures.expanded in
    record {
      written = c.in-Ok-parse.program;
      spells = record { forms = c.in-Ok.forms; spelled = spells; shape = shape };
      kept = kept;
      expansion = expansion;
      unbroken = c.rules_are_kept.ensures c.in-Ok-parse.program c.in-Ok-check.checked.program kept expansion;
    }

pub returns-in-Ok-check-clause-judged : goal.returns-in-Ok-check-clause-judged
returns-in-Ok-check-clause-judged c = (c.in-Ok-check.checked.program, returns-in-Ok-check-clause-source c)

pub returns-clause-judged : goal.returns-clause-judged
returns-clause-judged c =
    let spells : Spells c.args.text.now c.in-Ok.forms = c.in-Ok.ensures.spelled in
    let sound : IsSound c.in-Ok.forms = c.in-Ok.ensures.sound in
    let shape : IsShape c.in-Ok.forms c.in-Ok-parse.program = c.in-Ok-parse.ensures.shape in
    let first : RefusesProgram c.in-Ok-parse.program c.in-Err-check.refusal = c.in-Err-check.ensures.judged in
    of_program CheckedProgram c.args.text.now c.in-Ok.forms c.in-Ok-parse.program spells sound shape
    c.broken_at_a_place.ensures c.in-Err-check.refusal first
