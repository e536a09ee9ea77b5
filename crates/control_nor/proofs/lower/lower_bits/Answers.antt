use Rattle.std.proofs.Common.{◌∙◌, List, Option, None, length, map, replicate, ap}
use Rattle.task_schedule.specs.declared.task.Task.TheVariants.{Cell}
use Rattle.bit_gates.specs.declared.rails.Rails.{Rails}
use Rattle.bit_gates.specs.Rails.{net_of}
use Rattle.control_nor.proofs.Begins.{begun, reset_named, waiting}
use Rattle.control_nor.proofs.Costs.{few_cells}
use Rattle.control_nor.proofs.Lowered.{lowered}
use Rattle.control_nor.proofs.Rounds.{as_begun, as_done, as_lowered, room_first, room_next, room_tasks}
use Rattle.control_nor.proofs.lower.lower_bits.Goals as goal

pub lower_all_first-requires-clause-room : goal.lower_all_first-requires-clause-room
lower_all_first-requires-clause-room c =
    room_first c.args.rtl.now c.args.net.now c.requires.room c.requires.inputs_room

pub lower_tasks-requires-clause-begun : goal.lower_tasks-requires-clause-begun
lower_tasks-requires-clause-begun c =
    as_begun c.args.rtl.now c.lower_all_first.new.net c.in_ok-cells.field-0.cells c.in_ok-exprs.exprs
    (c.in_ok-exprs.ensures ∙ ap (λ n. replicate n None) c.len.ensures)
    (begun c.args.rtl.now c.requires.sound c.args.net.now c.lower_all_first.new.net c.in_ok-cells.field-0.cells
    c.in_ok-cells.field-0.pads
    c.in_ok-cells.ensures)

pub lower_tasks-requires-clause-room : goal.lower_tasks-requires-clause-room
lower_tasks-requires-clause-room c =
    room_tasks c.args.rtl.now c.args.net.now c.requires.room c.requires.inputs_room c.lower_all_first.new.net
    c.in_ok-cells.field-0.cells c.in_ok-cells.field-0.pads c.in_ok-cells.ensures c.in_ok-exprs.exprs
    (c.in_ok-exprs.ensures ∙ ap (λ n. replicate n None) c.len.ensures)

pub lower_next_values-requires-clause-few : goal.lower_next_values-requires-clause-few
lower_next_values-requires-clause-few c = few_cells c.args.rtl.now c.requires.small

pub lower_next_values-requires-clause-waiting : goal.lower_next_values-requires-clause-waiting
lower_next_values-requires-clause-waiting c =
    waiting c.args.rtl.now c.requires.sound c.args.net.now c.lower_all_first.new.net c.in_ok-cells.field-0.cells
    c.in_ok-cells.field-0.pads c.in_ok-cells.ensures c.in_ok-tasks.tasks c.in_ok-tasks.ensures c.lower_tasks.new.net
    c.lower_tasks.new.bits c.in_ok-ends.ends
    (as_done c.args.rtl.now c.in_ok-tasks.tasks c.as_slice.result.now c.lower_all_first.new.net c.lower_tasks.new.net
    c.in_ok-cells.field-0.cells c.in_ok-exprs.exprs c.lower_tasks.new.bits c.in_ok-ends.ends c.as_slice.ensures
    (c.in_ok-exprs.ensures ∙ ap (λ n. replicate n None) c.len.ensures) c.in_ok-ends.ensures)

pub lower_next_values-requires-clause-below : goal.lower_next_values-requires-clause-below
lower_next_values-requires-clause-below c k rails h = c.in_ok-ends.ensures.progress.below (Cell k) rails h

pub lower_next_values-requires-clause-reset : goal.lower_next_values-requires-clause-reset
lower_next_values-requires-clause-reset c index e =
    reset_named c.args.rtl.now c.requires.sound c.args.net.now c.lower_all_first.new.net c.in_ok-cells.field-0.cells
    c.in_ok-cells.field-0.pads c.in_ok-cells.ensures c.in_ok-tasks.tasks c.in_ok-tasks.ensures c.lower_tasks.new.net
    c.lower_tasks.new.bits c.in_ok-ends.ends
    (as_done c.args.rtl.now c.in_ok-tasks.tasks c.as_slice.result.now c.lower_all_first.new.net c.lower_tasks.new.net
    c.in_ok-cells.field-0.cells c.in_ok-exprs.exprs c.lower_tasks.new.bits c.in_ok-ends.ends c.as_slice.ensures
    (c.in_ok-exprs.ensures ∙ ap (λ n. replicate n None) c.len.ensures) c.in_ok-ends.ensures) index e

pub lower_next_values-requires-clause-room : goal.lower_next_values-requires-clause-room
lower_next_values-requires-clause-room c =
    room_next c.args.rtl.now c.args.net.now c.requires.room c.requires.inputs_room c.lower_all_first.new.net
    c.in_ok-cells.field-0.cells c.in_ok-cells.field-0.pads c.in_ok-cells.ensures c.in_ok-tasks.tasks
    c.lower_tasks.new.net
    c.lower_tasks.new.bits c.in_ok-ends.ends
    (as_done c.args.rtl.now c.in_ok-tasks.tasks c.as_slice.result.now c.lower_all_first.new.net c.lower_tasks.new.net
    c.in_ok-cells.field-0.cells c.in_ok-exprs.exprs c.lower_tasks.new.bits c.in_ok-ends.ends c.as_slice.ensures
    (c.in_ok-exprs.ensures ∙ ap (λ n. replicate n None) c.len.ensures) c.in_ok-ends.ensures)

pub returns : goal.returns
returns c =
    as_lowered c.args.rtl.now c.args.net.now c.lower_next_values.new.net c.in_ok-cells-2.cells c.in_ok-exprs-2.exprs
    (map net_of c.lower_tasks.new.bits.cells) (map net_of c.lower_tasks.new.bits.exprs) c.in_ok-cells.field-0.pads
    c.in_ok-tasks.tasks
    c.len-start.result (length c.lower_all_first.new.net) c.in_ok-ends.ends
    (c.in_ok-cells-2.ensures ∙ ap (λ (xs : List (Option Rails)). map net_of xs) c.as_slice-2.ensures)
    (c.in_ok-exprs-2.ensures ∙ ap (λ (xs : List (Option Rails)). map net_of xs) c.as_slice-3.ensures)
    c.len-start.ensures.len
    (lowered c.args.rtl.now c.requires.sound c.args.net.now c.lower_all_first.new.net c.lower_tasks.new.net
    c.lower_next_values.new.net
    c.in_ok-cells.field-0.cells c.in_ok-cells.field-0.pads c.in_ok-cells.ensures c.in_ok-tasks.tasks
    c.in_ok-tasks.ensures
    c.lower_tasks.new.bits c.in_ok-ends.ends
    (as_done c.args.rtl.now c.in_ok-tasks.tasks c.as_slice.result.now c.lower_all_first.new.net c.lower_tasks.new.net
    c.in_ok-cells.field-0.cells c.in_ok-exprs.exprs c.lower_tasks.new.bits c.in_ok-ends.ends c.as_slice.ensures
    (c.in_ok-exprs.ensures ∙ ap (λ n. replicate n None) c.len.ensures) c.in_ok-ends.ensures)
    c.in_ok-lower_next_values.ensures)
