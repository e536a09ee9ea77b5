use Rattle.std.proofs.Common.{refl, [], None}
use Rattle.outside.proofs.Told.{keeps_same}
use Rattle.outcome.specs.declared.halt.Halt.TheVariants.{NoMemory}
use Rattle.outcome.proofs.EndsLemmas.{leaves_halted, leaves_done, leaves_cut}
use Rattle.outcome.proofs.Causes.{without_memory, print_failed}
use Rattle.outcome.proofs.Silence.{quiet_same, quiet_cut}
use Rattle.stages.specs.Stages.{second}
use Rattle.trace_command.specs.Traced.{Traces}
use Rattle.trace_command.proofs.Shown.{may_show}
use Rattle.trace_command.proofs.command.show.Goals as goal

pub returns-in_err-tracer-clause-causes : goal.returns-in_err-tracer-clause-causes
returns-in_err-tracer-clause-causes g c = λ rest.
    without_memory c.from_residual.result _ _ _ c.from_residual.ensures.1 refl refl refl

pub returns-in_err-printed-clause-causes : goal.returns-in_err-printed-clause-causes
returns-in_err-printed-clause-causes g c = λ rest.
    print_failed c.from_residual-in_err-printed.result _ _ _ c.from_residual-in_err-printed.ensures.1 refl refl
    c.in_err-printed.ensures.cause.later c.in_err-printed.ensures.cause.failed

pub returns-clause-causes : goal.returns-clause-causes
returns-clause-causes g c = λ rest. (refl, refl, c.in_ok-printed.ensures.cause.ok)

pub returns-in_err-tracer-clause-content : goal.returns-in_err-tracer-clause-content
returns-in_err-tracer-clause-content g c = λ rest.
    let made = c.args.made.now in
    leaves_halted (second None (Traces made.checked.program made.stimulus)) NoMemory c.from_residual.result _ _
    rest.reads rest.reads c.from_residual.ensures.1 (keeps_same rest.files) refl refl

pub returns-in_err-printed-clause-content : goal.returns-in_err-printed-clause-content
returns-in_err-printed-clause-content g c = λ rest.
    let program = c.args.made.now.checked.program in
    let given = c.args.made.now.stimulus in
    let opened = c.in_ok-tracer.ensures in
    let prints = c.in_err-printed.ensures.printed in
    leaves_cut (second None (Traces program given)) [] prints.text c.in_err-printed.field-0.0
    c.from_residual-in_err-printed.result _ _ rest.files c.from_residual-in_err-printed.ensures.1 (record {
      later = c.in_err-printed.ensures.cause.later;
      failed = c.in_err-printed.ensures.cause.failed;
      writes = refl;
    })
    (keeps_same rest.files)
    (may_show program given prints.text (record {
      none = refl;
      end = prints.end;
      transcript = rw (opened.program, opened.given, opened.zero) at prints.transcript;
    }) rest.files)
    (keeps_same rest.files) prints.taken

pub returns-clause-content : goal.returns-clause-content
returns-clause-content g c = λ rest.
    let program = c.args.made.now.checked.program in
    let given = c.args.made.now.stimulus in
    let opened = c.in_ok-tracer.ensures in
    let prints = c.in_ok-printed.ensures.printed in
    leaves_done (second None (Traces program given)) [] prints.text c.in_ok-printed.field-0 c.in_ok-printed.field-0 _ _
    rest.files (keeps_same rest.files)
    (may_show program given prints.text (record {
      none = refl;
      end = prints.end;
      transcript = rw (opened.program, opened.given, opened.zero) at prints.transcript;
    }) rest.files)
    (keeps_same rest.files) prints.taken

pub returns-in_err-tracer-clause-silent : goal.returns-in_err-tracer-clause-silent
returns-in_err-tracer-clause-silent g c = quiet_same c.from_residual.result _

pub returns-in_err-printed-clause-silent : goal.returns-in_err-printed-clause-silent
returns-in_err-printed-clause-silent g c =
    quiet_cut c.from_residual-in_err-printed.result _ _ c.from_residual-in_err-printed.ensures.1

pub returns-clause-silent : goal.returns-clause-silent
returns-clause-silent g c = tt
