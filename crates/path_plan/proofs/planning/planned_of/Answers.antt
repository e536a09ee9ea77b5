use Rattle.std.proofs.Common.{◌+◌, ◌≤◌, length, subst, sym}
use Rattle.mp_base.specs.declared.pad.Pads.{Pads}
use Rattle.rtl_form.specs.Cost as price
use Rattle.path_plan.proofs.PadCells.{pads_cost}
use Rattle.path_plan.proofs.Plans.{bounded, measured, small_plan}
use Rattle.path_plan.proofs.planning.planned_of.Goals as goal

pub chip_of-requires-clause-led : goal.chip_of-requires-clause-led
chip_of-requires-clause-led c = c.requires.laid.led

pub chip_of-requires-clause-light : goal.chip_of-requires-clause-light
chip_of-requires-clause-light c = record {
  cost = price.cost c.args.rtl.now;
  light = c.requires.light;
  within = c.requires.path.within;
  narrow = c.requires.path.narrow;
  pads = subst (λ (ps : Pads). length ps.inputs + length ps.outputs ≤ price.cost c.args.rtl.now) (sym c.requires.path.pads)
      (pads_cost c.args.rtl.now c.requires.sound);
}

pub returns-clause-planned : goal.returns-clause-planned
returns-clause-planned c =
    small_plan c.args.rtl.now c.args.path.now c.requires.path c.len-control.ensures.shape c.len-slices.ensures.shape
    c.args.fabric c.conditions.ensures.met c.args.groups c.requires.laid c.segments_in_order.ensures c.in_ok-chip.chip
    c.in_ok-chip.ensures.chip c.requires.sound c.paths_are_planned.ensures c.rectangles_are_few.ensures
    c.labels_are_few.ensures c.framed_chips_are_kept.ensures.few

pub returns-clause-measured : goal.returns-clause-measured
returns-clause-measured c =
    measured c.args.rtl.now c.args.path.now c.requires.path c.len-control.ensures.shape c.len-slices.ensures.shape
    c.args.fabric c.conditions.ensures.met c.args.groups c.requires.laid c.segments_in_order.ensures c.in_ok-chip.chip
    c.in_ok-chip.ensures.chip c.requires.sound c.sliced_is_small.ensures c.sliced_has_groups.ensures
    c.ends_are_marked.ensures c.columns_are_used.ensures c.framed_chips_are_kept.ensures.held c.columns-columns.result
    c.rows_of-rows.result c.columns-columns.ensures c.rows_of-rows.ensures

pub returns-clause-bounded : goal.returns-clause-bounded
returns-clause-bounded c =
    bounded c.args.rtl.now c.args.path.now c.requires.path c.len-control.ensures.shape c.len-slices.ensures.shape
    c.args.fabric c.conditions.ensures.met c.args.groups c.requires.laid c.segments_in_order.ensures c.in_ok-chip.chip
    c.in_ok-chip.ensures.chip c.requires.sound c.sliced_is_small.ensures c.framed_chips_are_kept.ensures.held
    c.framed_chips_are_kept.ensures.clean c.framed_chips_are_kept.ensures.sized c.paths_are_ratioed.ensures
