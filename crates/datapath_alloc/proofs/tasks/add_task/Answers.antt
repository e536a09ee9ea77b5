use Rattle.std.proofs.Common.{◌+◌, ◌*◌, ◌∙◌, Some, suc, length, refl, ap, subst, sym, arith}
use Rattle.std.proofs.lemmas.Result.{on_ok_weaker}
use Rattle.rtl_form.specs.declared.rtl.RtlExpr.TheVariants.{Apply, Number}
use Rattle.rtl_form.specs.declared.rtl.RtlExpr.TheVariants as exprs
use Rattle.rtl_form.specs.declared.rtl.Cell as cells
use Rattle.mp_base.specs.Entries.{IsAt}
use Rattle.mp_base.proofs.Entries.{entry, one_entry, within}
use Rattle.task_schedule.specs.declared.task.Task.TheVariants.{Cell, Expr}
use Rattle.path_values.specs.Allocated.{transfers_to}
use Rattle.datapath_making.specs.Steps.{IsDrivenMade, IsNumberMade, IsStep, read_cell}
use Rattle.datapath_making.specs.WellMade.{IsWellMade}
use Rattle.datapath_alloc.specs.Progress.{IsMadeTo}
use Rattle.datapath_alloc.specs.Noting.{IsSharing}
use Rattle.datapath_alloc.proofs.Idle.{bit_cell_done, read_done, truth_done}
use Rattle.datapath_alloc.proofs.Marks.{rebased}
use Rattle.datapath_alloc.proofs.Operating.{answer_keeps, answered, asked}
use Rattle.datapath_alloc.proofs.Reaching.{cell_reads, free_cell, free_word, transfers_reached}
use Rattle.datapath_sharing.proofs.Results.{done_two}
use Rattle.datapath_alloc.proofs.Rounds.{room, room_task}
use Rattle.datapath_alloc.proofs.Noting.{cell_on, nothing_on, shared_on}
use Rattle.datapath_sharing.proofs.Sharing.{all_last, read_stays, stays_same}
use Rattle.datapath_alloc.proofs.TaskSteps.{driven_done, driven_pays, number_done}
use Rattle.datapath_alloc.proofs.tasks.add_task.Goals as goal

pub at-requires : goal.at-requires
at-requires c =
    let m = c.args.making.now in
    let is = c.task_at.ensures ∙ ap Some c.in-Expr.is in
    c.requires.made.given.lowered.placed.schedule.only c.args.index (Expr c.in-Expr.expr) is

pub add_number-requires-clause-room : goal.add_number-requires-clause-room
add_number-requires-clause-room c =
    let m = c.args.making.now in
    room c.args.rtl.now m.control m.names m (length c.args.rtl.now.cells) c.args.index 0 1 (omega arith) (omega arith)
    (omega arith) c.requires.made

pub add_number-requires-clause-free : goal.add_number-requires-clause-free
add_number-requires-clause-free c =
    let m = c.args.making.now in
    let p = c.requires.made in
    let is = c.task_at.ensures ∙ ap Some c.in-Expr.is in
    free_word c.args.rtl.now m.control m.names p.given.sound p.given.lowered m c.args.index c.in-Expr.expr is p.begun
    p.exprs

pub read_cell-requires-clause-expr : goal.read_cell-requires-clause-expr
read_cell-requires-clause-expr c =
    let m = c.args.making.now in
    let is = c.task_at.ensures ∙ ap Some c.in-Expr.is in
    let l = c.requires.made.given.lowered.placed.schedule.only c.args.index (Expr c.in-Expr.expr) is in
    let n = c.requires.made.begun.word_count in
    omega (arith, l, n)

pub read_cell-requires-clause-cell : goal.read_cell-requires-clause-cell
read_cell-requires-clause-cell c =
    let m = c.args.making.now in
    let is = c.task_at.ensures ∙ ap Some c.in-Expr.is in
    let l = c.requires.made.given.lowered.placed.schedule.only c.args.index (Expr c.in-Expr.expr) is in
    let at : IsAt c.args.rtl.now.exprs c.in-Expr.expr (exprs.Cell c.in-Cell-at.cell)
    = subst (IsAt c.args.rtl.now.exprs c.in-Expr.expr) c.in-Cell-at.is
    (entry c.args.rtl.now.exprs c.in-Expr.expr l c.at.ensures) in
    let fits = c.requires.made.given.sound.exprs c.in-Expr.expr (exprs.Cell c.in-Cell-at.cell) at in
    let n = c.requires.made.begun.cell_count in
    omega (arith, fits, n)

pub add_operator-requires-clause-asked : goal.add_operator-requires-clause-asked
add_operator-requires-clause-asked c =
    let m = c.args.making.now in
    let p = c.requires.made in
    let is = c.task_at.ensures ∙ ap Some c.in-Expr.is in
    let l = p.given.lowered.placed.schedule.only c.args.index (Expr c.in-Expr.expr) is in
    let at : IsAt c.args.rtl.now.exprs c.in-Expr.expr
    (Apply c.in-Apply.op c.in-Apply.index c.as_slice.result.now)
    = subst (IsAt c.args.rtl.now.exprs c.in-Expr.expr)
    (c.in-Apply.is ∙ ap (Apply c.in-Apply.op c.in-Apply.index) (sym c.as_slice.ensures))
    (entry c.args.rtl.now.exprs c.in-Expr.expr l c.at.ensures) in
    asked c.args.rtl.now m.control m.names m c.args.index p c.in-Expr.expr c.in-Apply.op c.in-Apply.index
    c.as_slice.result.now is at c.requires.marked.slices c.requires.marked.control

pub at-requires-in-Cell : goal.at-requires-in-Cell
at-requires-in-Cell c =
    let m = c.args.making.now in
    let is = c.task_at.ensures ∙ ap Some c.in-Cell.is in
    within c.args.rtl.now.cells c.in-Cell.cell
    (c.requires.made.given.lowered.placed.schedule.only c.args.index (Cell c.in-Cell.cell) is).1

pub add_driven-requires-clause-room : goal.add_driven-requires-clause-room
add_driven-requires-clause-room c =
    let m = c.args.making.now in
    let p = c.requires.made in
    let is = c.task_at.ensures ∙ ap Some c.in-Cell.is in
    let d = p.given.lowered.placed.schedule.only c.args.index (Cell c.in-Cell.cell) is in
    let same = one_entry c.args.rtl.now.cells c.in-Cell.cell c.at-in-Cell.result.now d.0
    (entry c.args.rtl.now.cells c.in-Cell.cell
    (within c.args.rtl.now.cells c.in-Cell.cell d.1) c.at-in-Cell.ensures) d.1 in
    let e = driven_pays c.args.rtl.now c.in-Cell.cell d.0 d.1
    (ap (λ (x : cells.Cell). x.word) (sym same) ∙ c.if-at.true) d.2 in
    room_task c.args.rtl.now m.control m.names m c.args.index
    (2 + 4 * length (transfers_to c.args.rtl.now c.in-Cell.cell)) (Cell c.in-Cell.cell) is (omega (arith, e)) p

pub add_driven-requires-clause-free : goal.add_driven-requires-clause-free
add_driven-requires-clause-free c =
    let m = c.args.making.now in
    let p = c.requires.made in
    let is = c.task_at.ensures ∙ ap Some c.in-Cell.is in
    let d = p.given.lowered.placed.schedule.only c.args.index (Cell c.in-Cell.cell) is in
    free_cell c.args.rtl.now m.control m.names p.given.sound p.given.lowered m (length c.args.rtl.now.cells)
    c.args.index 0 c.in-Cell.cell d.0 is d.1 d.2 p.begun p.cells

pub add_driven-requires-clause-transfers : goal.add_driven-requires-clause-transfers
add_driven-requires-clause-transfers c =
    let m = c.args.making.now in
    let p = c.requires.made in
    let is = c.task_at.ensures ∙ ap Some c.in-Cell.is in
    let d = p.given.lowered.placed.schedule.only c.args.index (Cell c.in-Cell.cell) is in
    transfers_reached c.args.rtl.now m.control m.names p.given.sound p.given.lowered m c.args.index c.in-Cell.cell
    c.at-in-Cell.result.now (let l = c.requires.task in omega (arith, l)) c.requires.marked.control p.begun p.exprs
    (entry c.args.rtl.now.cells c.in-Cell.cell
    (within c.args.rtl.now.cells c.in-Cell.cell d.1) c.at-in-Cell.ensures) c.if-at.true
    (cell_reads c.args.rtl.now m.control m.names p.given.sound p.given.lowered c.args.index c.in-Cell.cell is)

pub returns-in-Number-clause-made : goal.returns-in-Number-clause-made
returns-in-Number-clause-made c =
    let m = c.args.making.now in
    let new = c.add_number.new.making in
    let p = c.requires.made in
    let is = c.task_at.ensures ∙ ap Some c.in-Expr.is in
    let l = p.given.lowered.placed.schedule.only c.args.index (Expr c.in-Expr.expr) is in
    let at : IsAt c.args.rtl.now.exprs c.in-Expr.expr (Number c.in-Number.bits)
    = subst (IsAt c.args.rtl.now.exprs c.in-Expr.expr) c.in-Number.is
    (entry c.args.rtl.now.exprs c.in-Expr.expr l c.at.ensures) in
    done_two (IsStep 1 0 m new) (IsNumberMade c.in-Expr.expr c.in-Number.bits m new)
    (IsMadeTo c.args.rtl.now (length c.args.rtl.now.cells) (suc c.args.index) 0 new) c.add_number.result
    (λ step made. rebased c.args.rtl.now m.control m.names (length c.args.rtl.now.cells) (suc c.args.index) 0 new
    (number_done c.args.rtl.now m.control m.names m new c.args.index p c.in-Expr.expr c.in-Number.bits is at step made))
    c.add_number.ensures.step c.add_number.ensures.number

pub returns-in-Truth-clause-made : goal.returns-in-Truth-clause-made
returns-in-Truth-clause-made c =
    let m = c.args.making.now in
    let p = c.requires.made in
    let is = c.task_at.ensures ∙ ap Some c.in-Expr.is in
    let l = p.given.lowered.placed.schedule.only c.args.index (Expr c.in-Expr.expr) is in
    let at : IsAt c.args.rtl.now.exprs c.in-Expr.expr (exprs.Truth c.in-Truth.field-0)
    = subst (IsAt c.args.rtl.now.exprs c.in-Expr.expr) c.in-Truth.is
    (entry c.args.rtl.now.exprs c.in-Expr.expr l c.at.ensures) in
    truth_done c.args.rtl.now m.control m.names m c.args.index p c.in-Expr.expr c.in-Truth.field-0 is at

pub returns-in-Cell-at-clause-made : goal.returns-in-Cell-at-clause-made
returns-in-Cell-at-clause-made c =
    let m = c.args.making.now in
    let p = c.requires.made in
    let is = c.task_at.ensures ∙ ap Some c.in-Expr.is in
    let l = p.given.lowered.placed.schedule.only c.args.index (Expr c.in-Expr.expr) is in
    let at : IsAt c.args.rtl.now.exprs c.in-Expr.expr (exprs.Cell c.in-Cell-at.cell)
    = subst (IsAt c.args.rtl.now.exprs c.in-Expr.expr) c.in-Cell-at.is
    (entry c.args.rtl.now.exprs c.in-Expr.expr l c.at.ensures) in
    subst (IsMadeTo c.args.rtl.now (length c.args.rtl.now.cells) (suc c.args.index) 0) (sym c.read_cell.ensures.read)
    (read_done c.args.rtl.now m.control m.names m c.args.index p c.in-Expr.expr c.in-Cell-at.cell is at
    (subst IsWellMade c.read_cell.ensures.read c.read_cell.ensures.made))

pub returns-in-Apply-clause-made : goal.returns-in-Apply-clause-made
returns-in-Apply-clause-made c =
    let m = c.args.making.now in
    let new = c.add_operator.new.making in
    let p = c.requires.made in
    let is = c.task_at.ensures ∙ ap Some c.in-Expr.is in
    let l = p.given.lowered.placed.schedule.only c.args.index (Expr c.in-Expr.expr) is in
    let at : IsAt c.args.rtl.now.exprs c.in-Expr.expr
    (Apply c.in-Apply.op c.in-Apply.index c.as_slice.result.now)
    = subst (IsAt c.args.rtl.now.exprs c.in-Expr.expr)
    (c.in-Apply.is ∙ ap (Apply c.in-Apply.op c.in-Apply.index) (sym c.as_slice.ensures))
    (entry c.args.rtl.now.exprs c.in-Expr.expr l c.at.ensures) in
    on_ok_weaker
    c.add_operator.result
    (λ h. rebased c.args.rtl.now m.control m.names (length c.args.rtl.now.cells) (suc c.args.index) 0 new
    (answered c.args.rtl.now m.control m.names m c.args.index p c.in-Expr.expr c.in-Apply.op c.in-Apply.index
    c.as_slice.result.now is at new h))
    c.add_operator.ensures.answered

pub returns-in-Apply-clause-marks : goal.returns-in-Apply-clause-marks
returns-in-Apply-clause-marks c =
    let m = c.args.making.now in
    let new = c.add_operator.new.making in
    on_ok_weaker
    c.add_operator.result
    (answer_keeps c.in-Expr.expr c.in-Apply.op c.in-Apply.index c.as_slice.result.now m new)
    c.add_operator.ensures.answered

pub returns-then-at-clause-made : goal.returns-then-at-clause-made
returns-then-at-clause-made c =
    let m = c.args.making.now in
    let new = c.add_driven.new.making in
    let p = c.requires.made in
    let is = c.task_at.ensures ∙ ap Some c.in-Cell.is in
    let d = p.given.lowered.placed.schedule.only c.args.index (Cell c.in-Cell.cell) is in
    done_two (IsStep (2 + 4 * length (transfers_to c.args.rtl.now c.in-Cell.cell))
    (length (transfers_to c.args.rtl.now c.in-Cell.cell)) m new)
    (IsDrivenMade c.args.rtl.now c.in-Cell.cell m new)
    (IsMadeTo c.args.rtl.now (length c.args.rtl.now.cells) (suc c.args.index) 0 new) c.add_driven.result
    (λ step made. rebased c.args.rtl.now m.control m.names (length c.args.rtl.now.cells) (suc c.args.index) 0 new
    (driven_done c.args.rtl.now m.control m.names m new c.args.index p c.in-Cell.cell c.at-in-Cell.result.now is
    (entry c.args.rtl.now.cells c.in-Cell.cell
    (within c.args.rtl.now.cells c.in-Cell.cell d.1) c.at-in-Cell.ensures) c.if-at.true step made))
    c.add_driven.ensures.step c.add_driven.ensures.driven

pub returns-else-at-clause-made : goal.returns-else-at-clause-made
returns-else-at-clause-made c =
    let m = c.args.making.now in
    let p = c.requires.made in
    let is = c.task_at.ensures ∙ ap Some c.in-Cell.is in
    let d = p.given.lowered.placed.schedule.only c.args.index (Cell c.in-Cell.cell) is in
    bit_cell_done c.args.rtl.now m.control m.names m c.args.index p c.in-Cell.cell c.at-in-Cell.result.now is
    (entry c.args.rtl.now.cells c.in-Cell.cell
    (within c.args.rtl.now.cells c.in-Cell.cell d.1) c.at-in-Cell.ensures) c.if-at.false

-- ---- what is shared

pub returns-in-Number-clause-sharing : goal.returns-in-Number-clause-sharing
returns-in-Number-clause-sharing c =
    let m = c.args.making.now in
    let new = c.add_number.new.making in
    let b = c.args.built.now in
    let now = c.add_number.new.built in
    let r = c.args.rtl.now in
    let is = c.task_at.ensures ∙ ap Some c.in-Expr.is in
    let l = c.requires.made.given.lowered.placed.schedule.only c.args.index (Expr c.in-Expr.expr) is in
    let at : IsAt r.exprs c.in-Expr.expr (Number c.in-Number.bits)
    = subst (IsAt r.exprs c.in-Expr.expr) c.in-Number.is (entry r.exprs c.in-Expr.expr l c.at.ensures) in
    on_ok_weaker
    c.add_number.result
    (shared_on r c.args.index b m c.requires.sharing now new c.in-Expr.expr (Number c.in-Number.bits) is at)
    c.add_number.ensures.shared

pub returns-in-Truth-clause-sharing : goal.returns-in-Truth-clause-sharing
returns-in-Truth-clause-sharing c =
    let m = c.args.making.now in
    let r = c.args.rtl.now in
    let is = c.task_at.ensures ∙ ap Some c.in-Expr.is in
    let l = c.requires.made.given.lowered.placed.schedule.only c.args.index (Expr c.in-Expr.expr) is in
    let at : IsAt r.exprs c.in-Expr.expr (exprs.Truth c.in-Truth.field-0)
    = subst (IsAt r.exprs c.in-Expr.expr) c.in-Truth.is (entry r.exprs c.in-Expr.expr l c.at.ensures) in
    nothing_on r c.args.index c.args.built.now m c.requires.sharing m c.in-Expr.expr (exprs.Truth c.in-Truth.field-0)
    is at (stays_same m m refl refl refl) refl tt

pub returns-in-Cell-at-clause-sharing : goal.returns-in-Cell-at-clause-sharing
returns-in-Cell-at-clause-sharing c =
    let m = c.args.making.now in
    let r = c.args.rtl.now in
    let b = c.args.built.now in
    let p = c.requires.made in
    let is = c.task_at.ensures ∙ ap Some c.in-Expr.is in
    let l = p.given.lowered.placed.schedule.only c.args.index (Expr c.in-Expr.expr) is in
    let at : IsAt r.exprs c.in-Expr.expr (exprs.Cell c.in-Cell-at.cell)
    = subst (IsAt r.exprs c.in-Expr.expr) c.in-Cell-at.is (entry r.exprs c.in-Expr.expr l c.at.ensures) in
    let free = free_word r m.control m.names p.given.sound p.given.lowered m c.args.index c.in-Expr.expr is p.begun
    p.exprs in
    subst (IsSharing r (suc c.args.index) b) (sym c.read_cell.ensures.read)
    (nothing_on r c.args.index b m c.requires.sharing (read_cell c.in-Expr.expr c.in-Cell-at.cell m) c.in-Expr.expr
    (exprs.Cell c.in-Cell-at.cell) is at (read_stays c.in-Expr.expr c.in-Cell-at.cell m free) refl tt)

pub returns-in-Apply-clause-sharing : goal.returns-in-Apply-clause-sharing
returns-in-Apply-clause-sharing c =
    let m = c.args.making.now in
    let new = c.add_operator.new.making in
    let b = c.args.built.now in
    let now = c.add_operator.new.built in
    let r = c.args.rtl.now in
    let e = c.in-Expr.expr in
    let is = c.task_at.ensures ∙ ap Some c.in-Expr.is in
    let l = c.requires.made.given.lowered.placed.schedule.only c.args.index (Expr e) is in
    let at : IsAt r.exprs e (Apply c.in-Apply.op c.in-Apply.index c.as_slice.result.now)
    = subst (IsAt r.exprs e)
    (c.in-Apply.is ∙ ap (Apply c.in-Apply.op c.in-Apply.index) (sym c.as_slice.ensures))
    (entry r.exprs e l c.at.ensures) in
    on_ok_weaker
    c.add_operator.result
    (shared_on r c.args.index b m c.requires.sharing now new e
    (Apply c.in-Apply.op c.in-Apply.index c.as_slice.result.now) is at)
    c.add_operator.ensures.shared

pub returns-then-at-clause-sharing : goal.returns-then-at-clause-sharing
returns-then-at-clause-sharing c =
    let m = c.args.making.now in
    let new = c.add_driven.new.making in
    let r = c.args.rtl.now in
    let b = c.args.built.now in
    let is = c.task_at.ensures ∙ ap Some c.in-Cell.is in
    done_two (IsStep (2 + 4 * length (transfers_to r c.in-Cell.cell)) (length (transfers_to r c.in-Cell.cell)) m new)
    (IsDrivenMade r c.in-Cell.cell m new) (IsSharing r (suc c.args.index) b new) c.add_driven.result
    (λ step made. cell_on r c.args.index b m c.requires.sharing new c.in-Cell.cell is
    (stays_same m new step.grows.names made.words made.lifts) (all_last m new step.grows b c.requires.sharing.built))
    c.add_driven.ensures.step c.add_driven.ensures.driven

pub returns-else-at-clause-sharing : goal.returns-else-at-clause-sharing
returns-else-at-clause-sharing c =
    let m = c.args.making.now in
    let is = c.task_at.ensures ∙ ap Some c.in-Cell.is in
    cell_on c.args.rtl.now c.args.index c.args.built.now m c.requires.sharing m c.in-Cell.cell is
    (stays_same m m refl refl refl) c.requires.sharing.built
