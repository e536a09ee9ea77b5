-- The chip of a path: its labels, first in the corners of nets and then on pads.
use Rattle.std.proofs.Common.{◌≡◌, ◌≢◌, ℕ, ◌+◌, ◌*◌, ◌≤◌, List, length, map, refl, sym, ◌∙◌, ap, subst, arith}
use Rattle.std.specs.Prelude.{All, AllPairs}
use Rattle.std.specs.List.{AllZip}
use Rattle.std.proofs.lemmas.List.{length-map}
use Rattle.switch_net.specs.declared.limits.TheConstants.{MOST_NODES_AND_CHANNELS}
use Rattle.switch_net.specs.declared.network.Network.{Network}
use Rattle.switch_net.specs.Pads.{chip_labels}
use Rattle.nor_net.specs.Shape.{IsNet}
use Rattle.fabric.specs.declared.chip.Chip.{Chip}
use Rattle.fabric.specs.declared.chip.ChipLabel.{ChipLabel}
use Rattle.fabric.specs.declared.thing.Segment.{Segment}
use Rattle.fabric.specs.Counted.{thing_count}
use Rattle.fabric.specs.Plan.{Plan, IsFabric, bands}
use Rattle.fabric.specs.Shape.{base}
use Rattle.fabric.specs.Switches.{AreSwitches, Net}
use Rattle.fabric_extent.specs.Bounds.{IsSmall}
use Rattle.path_form.specs.declared.path.DataPath.{DataPath}
use Rattle.pad_order.specs.Ordered.{AreParted}
use Rattle.chip_pads.specs.Ports.{PadsAreDrawn, PadsAreGlued}
use Rattle.chip_pads.specs.Unders.{UndersAddNothing}
use Rattle.padded_labels.specs.declared.labels.Padding.{Padding}
use Rattle.padded_labels.specs.Padded.{IsPadded, ports_at}
use Rattle.padded_chips.specs.Padding.{PadsKeepLayouts}
use Rattle.framed_chips.specs.Cornered.{CornersAreCarried, CornersAreParted}
use Rattle.framed_chips.specs.Framed.{FramedAreEmittable}
use Rattle.slice_form.specs.Whole.{path_of}
use Rattle.slice_chip.specs.Drawn.{SlicedChipsDraw}
use Rattle.slice_chip.specs.Order.{AreInOrder, SegmentsInOrder}
use Rattle.slice_chip.specs.Sizes.{SlicedIsSmall, ThingsAreFew}
use Rattle.slice_chip.specs.Unders.{IsLed, unders}
use Rattle.chip_laws.specs.Fabrics.{FabricLays}
use Rattle.chip_laws.specs.Labels.{LabelsStand}
use Rattle.chip_laws.specs.Laws.{names_of}
use Rattle.chip_laws.specs.Sound.{FabricsAreFew, LabelsFit}
use Rattle.cif_emit.specs.Emittable.{IsEmittable, chip_rects, farthest}
use Rattle.path_labels.specs.Labels.{IsAtPoint, height_at, label_points, segments_of}
use Rattle.path_plan.specs.Paths.{IsChipFor, IsLight}
use Rattle.path_plan.proofs.Bytes.{IsPlainName, labels_plain}
use Rattle.path_plan.proofs.Counts.{are_unders, things_counted}
use Rattle.path_plan.proofs.Extents.{small_still}
use Rattle.path_plan.proofs.Padding as padding
use Rattle.path_plan.proofs.Points.{same_segments}
use Rattle.path_plan.proofs.Ported.{bare_lawful}
use Rattle.path_plan.proofs.Sizes.{labels_are_few}
use Rattle.path_plan.proofs.Standing.{laid_out}
use Rattle.path_plan.proofs.Writing.{high_few, plainly_named, things_fit, wide_few}

pub segments_counted : (p : DataPath) (f : Plan) (is_led : IsLed p f) → AreInOrder p is_led.bare is_led.sliced
    → length f.segments ≡ segments_of p
segments_counted p f is_led order =
    ap (λ (ss : List Segment). length ss) (same_segments p f is_led order) ∙ order.count

module _ (p : DataPath) (control_net : IsNet p.control) (slice_net : IsNet p.slices.net) (f : Plan)
    (is_led : IsLed p f) (lawful : IsFabric f) (light : IsLight p) (ordered : SegmentsInOrder)
    (is_small : SlicedIsSmall)
  where
    abbrev order : AreInOrder p is_led.bare is_led.sliced
    order = ordered p is_led.bare is_led.sliced

    small : IsSmall light.cost p.width f
    small =
        subst (IsSmall light.cost p.width) (sym is_led.is)
        (small_still is_led.bare (unders (path_of p) (is_led.sliced).control (is_led.sliced).slices) light.cost p.width
        (is_small light.cost p is_led.bare light.within light.narrow is_led.sliced))

    wide : 20 * f.columns ≤ farthest
    wide = wide_few light.cost p.width f light.light p.whole.width.1 small

    high : base f (bands f) ≤ farthest
    high = high_few light.cost p.width f light.light p.whole.width.1 small

    module _ (labels : List ChipLabel) (heights : List ℕ) (there : AllZip (IsAtPoint p f) (label_points p) labels)
        (ports : heights ≡ map (height_at p f) (label_points p)) (named : names_of labels ≡ chip_labels p.pads)
      where
        pub as_long : length heights ≡ length labels
        as_long = padding.as_long p control_net slice_net f is_led lawful order labels heights there ports named

        pub parted : CornersAreParted → AreParted (ports_at labels heights)
        parted law =
            padding.parted p control_net slice_net f is_led lawful order labels heights there ports named law light
            labels_are_few high

        module _ (padding_of : Padding) (padded : IsPadded labels heights padding_of) (carry : CornersAreCarried) where
          abbrev chip : Chip
          chip = record { fabric = f; extra = padding_of.extra; labels = padding_of.labels }

          new_named : names_of padding_of.labels ≡ chip_labels p.pads
          new_named =
              padding.new_named p control_net slice_net f is_led lawful order labels heights there ports named
              padding_of padded carry

          pub chip_for : SlicedChipsDraw → UndersAddNothing → ThingsAreFew → LabelsStand → LabelsFit → FabricsAreFew
              → FabricLays → PadsAreDrawn → PadsAreGlued → PadsKeepLayouts → AllPairs ◌≢◌ (chip_labels p.pads)
              → (number : Net → ℕ) (network : Network) → AreSwitches f number network → IsChipFor p f chip
          chip_for draw nothing things stand fit few lays drawn glued keep differ number network switched =
              let bare_switched = nothing is_led.bare
              (unders (path_of p) (is_led.sliced).control (is_led.sliced).slices)
              (are_unders p (is_led.sliced).control (is_led.sliced).slices) number network
              (subst (λ f. AreSwitches f number network) is_led.is switched) in
              let path = draw p control_net slice_net is_led.bare is_led.sliced
              (bare_lawful p control_net slice_net f is_led lawful order) number network bare_switched in
              let count : thing_count f + 2 ≤ MOST_NODES_AND_CHANNELS =
              things_fit light.cost p.width (thing_count f + 2) light.light p.whole.width.1
              (things_counted p f is_led light.cost light.within light.pads things) in
              record {
                fabric = refl;
                framed = padding.framed p control_net slice_net f is_led lawful order labels heights there ports named
                    padding_of padded carry chip refl refl refl;
                named = new_named;
                network = network;
                place = path.0;
                laid_out = λ rtl same.
                    padding.laid_out_padded p control_net slice_net f is_led lawful order labels heights there ports
                    named padding_of padded carry drawn glued keep differ network path.0 rtl
                    (laid_out p f is_led lawful order number network switched path.0 path.1 stand labels there fit few
                    lays count named differ rtl same);
              }

          pub emittable : FramedAreEmittable → IsEmittable (chip_rects chip) chip.labels
          emittable law =
              law chip lawful
              (padding.framed p control_net slice_net f is_led lawful order labels heights there ports named padding_of
              padded carry chip refl refl refl) wide high
              (let l = length-map padding_of.labels (λ (l : ChipLabel). l.name) in
              let e = ap (λ (ns : List (List ℕ)). length ns) new_named in
              let m = labels_are_few p.pads in
              let a = light.pads in let b = light.light in omega (arith, l, e, m, a, b))
              (plainly_named padding_of.labels (subst (All IsPlainName) (sym new_named) (labels_plain p.pads)))
