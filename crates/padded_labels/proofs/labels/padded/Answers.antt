use Rattle.std.proofs.Common.{List, ◌≡◌, ◌∷◌, All, sym, subst, ap, ◌∙◌}
use Rattle.std.specs.List.{AllZip}
use Rattle.pad_frame.specs.declared.frames.PadSpot.{PadSpot}
use Rattle.pad_order.specs.declared.ports.Port.{Port}
use Rattle.pad_order.specs.Ordered.{AreParted, IsFrameOf}
use Rattle.chip_pads.specs.Ports.{bridge}
use Rattle.padded_labels.specs.Padded.{IsAtSpot, IsEvenSpot}
use Rattle.padded_labels.proofs.Moved.{padded_is, spots_even}
use Rattle.padded_labels.proofs.labels.padded.Goals as goal

pub frame_ports-requires : goal.frame_ports-requires
frame_ports-requires c = subst AreParted (sym (c.as_slice.ensures ∙ c.in_ok-ports.ensures)) c.requires.parted

pub labels_on-requires : goal.labels_on-requires
labels_on-requires c =
    let fr = subst (λ (ps : List Port). IsFrameOf ps c.in_ok-framed.framed) (c.as_slice.ensures ∙ c.in_ok-ports.ensures)
    c.in_ok-framed.ensures in
    subst (All IsEvenSpot) (sym c.as_slice-2.ensures)
    (spots_even c.args.labels.now c.args.heights.now c.requires.long c.in_ok-framed.framed fr)

pub returns : goal.returns
returns c =
    let fr = subst (λ (ps : List Port). IsFrameOf ps c.in_ok-framed.framed) (c.as_slice.ensures ∙ c.in_ok-ports.ensures)
    c.in_ok-framed.ensures in
    let at = subst (λ (ss : List PadSpot). AllZip IsAtSpot ss c.in_ok-labels.labels) c.as_slice-2.ensures
    c.in_ok-labels.ensures in
    padded_is c.args.labels.now c.args.heights.now c.requires.long c.in_ok-framed.framed fr _
    (c.in_ok-extra.ensures ∙ ap (λ z. bridge ∷ z) c.as_slice-3.ensures) at
