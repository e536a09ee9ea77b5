use Rattle.std.proofs.Common.{List, Option, subst, sym, ap, ◌∙◌}
use Rattle.std.specs.Prelude.{All}
use Rattle.rtl_form.specs.declared.rtl.Cell as cells
use Rattle.task_schedule.specs.declared.task.Task.TheVariants.{Cell}
use Rattle.bit_gates.specs.declared.rails.Rails.{Rails}
use Rattle.bit_gates.specs.Cells.{IsTransferNamed, transfers_to}
use Rattle.control_nor.specs.Tasks.{IsTaskReady}
use Rattle.control_nor.proofs.tasks.lower_task.Goals as goal
use Rattle.mp_base.proofs.Entries.{entry, one_entry, within}

pub lower_cell-requires-clause-named : goal.lower_cell-requires-clause-named
lower_cell-requires-clause-named c word =
    let r : IsTaskReady c.args.rtl.now c.args.bits.now (Cell c.in-Cell.index) c.args.net.now =
    subst (λ t. IsTaskReady c.args.rtl.now c.args.bits.now t c.args.net.now) c.in-Cell.is c.requires.ready in
    let same = one_entry c.args.rtl.now.cells c.in-Cell.index r.0 c.at-cell.result.now r.1
    (entry c.args.rtl.now.cells c.in-Cell.index (within c.args.rtl.now.cells c.in-Cell.index r.1) c.at-cell.ensures)
    in
    subst (λ (es : List (Option Rails)). All (IsTransferNamed es)
    (transfers_to c.args.rtl.now.transfers c.in-Cell.index))
    (sym c.as_slice-in-Cell.ensures) (r.2 (ap (λ (x : cells.Cell). x.word) same ∙ word)).0
