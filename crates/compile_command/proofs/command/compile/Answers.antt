use Rattle.std.proofs.Common.{refl, [], ◌∙◌}
use Rattle.compile_command.specs.Work.{work}
use Rattle.outcome.proofs.EndsLemmas.{leaves_halted, leaves_done, leaves_stored_in_part, nothing_printed}
use Rattle.outcome.proofs.Causes.{store_failed}
use Rattle.outcome.proofs.Silence.{quiet_same}
use Rattle.compile_command.proofs.command.compile.Goals as goal

pub returns-in_err-chip-clause-content : goal.returns-in_err-chip-clause-content
returns-in_err-chip-clause-content g c =
    leaves_halted (work c.args.source.now c.args.cif.now) c.in_err-chip.field-0.0 c.from_residual.result _ _ _ _
    c.from_residual.ensures.1 c.in_err-chip.ensures.held refl c.in_err-chip.ensures.reason

pub returns-in_err-store-clause-content : goal.returns-in_err-store-clause-content
returns-in_err-store-clause-content g c =
    leaves_stored_in_part (work c.args.source.now c.args.cif.now) c.in_ok-chip.chip.items []
    c.from_residual-in_err-store.result _ _ (g.D.Depot.held c.prepare.new.depot)
    c.from_residual-in_err-store.ensures.1 (record {
      later = rw c.in_ok-chip.ensures.writes at c.in_err-store.ensures.cause.later;
      failed = rw c.in_ok-chip.ensures.writes at c.in_err-store.ensures.cause.failed;
      prints = refl;
      text = refl;
    }) c.in_ok-chip.ensures.held (
      c.in_ok-chip.ensures.reason.1,
      c.in_ok-chip.ensures.shows,
    )
    (rw c.deref.ensures.value at c.in_err-store.ensures.cut)

pub returns-clause-content : goal.returns-clause-content
returns-clause-content g c =
    leaves_done (work c.args.source.now c.args.cif.now) c.in_ok-chip.chip.items []
    tt tt _ _ (g.D.Depot.held c.prepare.new.depot)
    c.in_ok-chip.ensures.held (
      c.in_ok-chip.ensures.reason.1,
      c.in_ok-chip.ensures.shows,
    ) (rw c.deref.ensures.value at c.in_ok-store.ensures.stored) (nothing_printed _)

pub returns-in_err-chip-clause-silent : goal.returns-in_err-chip-clause-silent
returns-in_err-chip-clause-silent g c = quiet_same c.from_residual.result _

pub returns-in_err-store-clause-silent : goal.returns-in_err-store-clause-silent
returns-in_err-store-clause-silent g c = quiet_same c.from_residual-in_err-store.result _

pub returns-in_err-store-clause-causes : goal.returns-in_err-store-clause-causes
returns-in_err-store-clause-causes g c =
    store_failed c.from_residual-in_err-store.result _ _ _ c.from_residual-in_err-store.ensures.1
    (c.in_err-store.ensures.reads ∙ c.in_ok-chip.ensures.reason.0)
    (rw c.in_ok-chip.ensures.writes at c.in_err-store.ensures.cause.later)
    (rw c.in_ok-chip.ensures.writes at c.in_err-store.ensures.cause.failed) refl refl
