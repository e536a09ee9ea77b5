use Rattle.std.proofs.Common.{◌≡◌, ℕ, List, length, subst, sym}
use Rattle.fabric.specs.declared.chip.ChipLabel.{ChipLabel}
use Rattle.padded_labels.specs.Padded.{IsPadded, ports_at}
use Rattle.pad_order.specs.Ordered.{AreParted}
use Rattle.path_plan.proofs.Moving as moving
use Rattle.path_plan.proofs.chips.chip_of.Goals as goal

pub corners_of-requires : goal.corners_of-requires
corners_of-requires c = record {
  segments = moving.segments_counted c.args.path.now c.args.fabric c.requires.led
      (c.segments_in_order.ensures c.args.path.now (c.requires.led).bare (c.requires.led).sliced);
}

pub padded-requires-clause-long : goal.padded-requires-clause-long
padded-requires-clause-long c =
    let corners = c.in_ok-corners.corners in
    let long = moving.as_long c.args.path.now c.len-control.ensures.shape c.len-slices.ensures.shape c.args.fabric
    c.requires.led c.conditions.ensures.met c.requires.light c.segments_in_order.ensures c.sliced_is_small.ensures
    corners.labels corners.heights c.in_ok-corners.ensures.there c.in_ok-corners.ensures.high
    c.in_ok-corners.ensures.named in
    subst (λ (ls : List ChipLabel). length c.as_slice-2.result.now ≡ length ls) (sym c.as_slice.ensures)
    (subst (λ (hs : List ℕ). length hs ≡ length corners.labels) (sym c.as_slice-2.ensures) long)

pub padded-requires-clause-parted : goal.padded-requires-clause-parted
padded-requires-clause-parted c =
    let corners = c.in_ok-corners.corners in
    let parted = moving.parted c.args.path.now c.len-control.ensures.shape c.len-slices.ensures.shape c.args.fabric
    c.requires.led c.conditions.ensures.met c.requires.light c.segments_in_order.ensures c.sliced_is_small.ensures
    corners.labels corners.heights c.in_ok-corners.ensures.there c.in_ok-corners.ensures.high
    c.in_ok-corners.ensures.named c.corners_are_padded.ensures.parted in
    subst (λ (ls : List ChipLabel). AreParted (ports_at ls c.as_slice-2.result.now)) (sym c.as_slice.ensures)
    (subst (λ (hs : List ℕ). AreParted (ports_at corners.labels hs)) (sym c.as_slice-2.ensures) parted)

pub returns-clause-chip : goal.returns-clause-chip
returns-clause-chip c =
    let corners = c.in_ok-corners.corners in
    let padding = c.in_ok-padding.padding in
    let padded : IsPadded corners.labels corners.heights padding =
    subst (λ (ls : List ChipLabel). IsPadded ls corners.heights padding) c.as_slice.ensures
    (subst (λ (hs : List ℕ). IsPadded c.as_slice.result.now hs padding) c.as_slice-2.ensures c.in_ok-padding.ensures) in
    let switched = c.in_ok-_network.ensures in
    moving.chip_for c.args.path.now c.len-control.ensures.shape c.len-slices.ensures.shape c.args.fabric c.requires.led
    c.conditions.ensures.met c.requires.light c.segments_in_order.ensures c.sliced_is_small.ensures corners.labels
    corners.heights c.in_ok-corners.ensures.there c.in_ok-corners.ensures.high c.in_ok-corners.ensures.named padding
    padded c.corners_are_padded.ensures.carried c.sliced_chips_draw.ensures c.unders_add_nothing.ensures
    c.things_are_few.ensures c.labels_stand.ensures c.labels_fit.ensures c.fabrics_are_few.ensures c.fabric_lays.ensures
    c.pads_are_glued.ensures.drawn c.pads_are_glued.ensures.glued c.pads_keep_layouts.ensures
    (c.chip_labels_differ.ensures (c.args.path.now).pads) switched.0 c.in_ok-_network._network switched.1

pub returns-clause-emittable : goal.returns-clause-emittable
returns-clause-emittable c =
    let corners = c.in_ok-corners.corners in
    let padding = c.in_ok-padding.padding in
    let padded : IsPadded corners.labels corners.heights padding =
    subst (λ (ls : List ChipLabel). IsPadded ls corners.heights padding) c.as_slice.ensures
    (subst (λ (hs : List ℕ). IsPadded c.as_slice.result.now hs padding) c.as_slice-2.ensures c.in_ok-padding.ensures) in
    moving.emittable c.args.path.now c.len-control.ensures.shape c.len-slices.ensures.shape c.args.fabric c.requires.led
    c.conditions.ensures.met c.requires.light c.segments_in_order.ensures c.sliced_is_small.ensures corners.labels
    corners.heights c.in_ok-corners.ensures.there c.in_ok-corners.ensures.high c.in_ok-corners.ensures.named padding
    padded c.corners_are_padded.ensures.carried c.framed_chips_are_kept.ensures.emittable
