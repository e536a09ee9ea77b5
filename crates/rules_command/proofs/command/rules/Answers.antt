use Rattle.std.proofs.Common.{refl, []}
use Rattle.rules_command.specs.Work.{work}
use Rattle.outside.proofs.Told.{keeps_same}
use Rattle.outcome.proofs.EndsLemmas.{leaves_halted, leaves_done, leaves_cut}
use Rattle.outcome.proofs.Causes.{print_failed}
use Rattle.outcome.proofs.Silence.{quiet_same, quiet_cut}
use Rattle.rules_command.proofs.command.rules.Goals as goal

pub returns-in_err-text-clause-content : goal.returns-in_err-text-clause-content
returns-in_err-text-clause-content g c =
    leaves_halted (work c.args.cif.now) c.in_err-text.field-0.0 c.from_residual.result _ _ _ _
    c.from_residual.ensures.1 c.in_err-text.ensures.held refl c.in_err-text.ensures.reason

pub returns-in_err-write_all-clause-content : goal.returns-in_err-write_all-clause-content
returns-in_err-write_all-clause-content g c =
    let told = c.in_ok-text.ensures in
    leaves_cut (work c.args.cif.now) [] c.in_ok-text.text.items c.in_err-write_all.field-0.0
    c.from_residual-in_err-write_all.result _ _ (g.D.Depot.held c.prepare.new.depot)
    c.from_residual-in_err-write_all.ensures.1 (record {
      later = c.in_err-write_all.ensures.cause.later;
      failed = c.in_err-write_all.ensures.cause.failed;
      writes = told.writes;
    }) told.held (
      told.reason.1,
      told.shows,
    ) (keeps_same (g.D.Depot.held c.prepare.new.depot))
    (rw c.deref.ensures.value at c.in_err-write_all.ensures.taken)

pub returns-clause-content : goal.returns-clause-content
returns-clause-content g c =
    let told = c.in_ok-text.ensures in
    leaves_done (work c.args.cif.now) [] c.in_ok-text.text.items c.in_ok-write_all.field-0 tt _ _
    (g.D.Depot.held c.prepare.new.depot)
    told.held (told.reason.1, told.shows) (keeps_same (g.D.Depot.held c.prepare.new.depot))
    (rw c.deref.ensures.value at c.in_ok-write_all.ensures.taken)

pub returns-in_err-text-clause-silent : goal.returns-in_err-text-clause-silent
returns-in_err-text-clause-silent g c = quiet_same c.from_residual.result _

pub returns-in_err-write_all-clause-silent : goal.returns-in_err-write_all-clause-silent
returns-in_err-write_all-clause-silent g c = quiet_cut c.from_residual-in_err-write_all.result _ _
    c.from_residual-in_err-write_all.ensures.1

pub returns-in_err-write_all-clause-causes : goal.returns-in_err-write_all-clause-causes
returns-in_err-write_all-clause-causes g c =
    print_failed c.from_residual-in_err-write_all.result _ _ _ c.from_residual-in_err-write_all.ensures.1
    c.in_ok-text.ensures.reason.0 c.in_ok-text.ensures.writes c.in_err-write_all.ensures.cause.later
    c.in_err-write_all.ensures.cause.failed
