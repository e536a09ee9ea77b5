-- The labels of a path's chip are moved from the corners of nets to pads.
use Rattle.std.proofs.Common.{◌≡◌, ◌≢◌, ℕ, ◌+◌, ◌<◌, ◌≤◌, ◌^◌, List, [], ◌∷◌, ◌++◌, length, get_or, map, refl, sym}
use Rattle.std.proofs.Common.{◌∙◌, ap, subst, arith}
use Rattle.std.specs.Prelude.{All, AllPairs}
use Rattle.std.specs.List.{AllZip}
use Rattle.std.proofs.lemmas.List.{get_or-map, length-map}
use Rattle.std.proofs.lemmas.List.Elements.{All-contains}
use Rattle.std.proofs.lemmas.Option.{slice_get-get_or}
use Rattle.mp_base.proofs.Zips.{zip_length}
use Rattle.lam_geom.specs.declared.rect.Rect.{Rect}
use Rattle.switch_net.specs.declared.network.Network.{Network}
use Rattle.switch_net.specs.Pads.{chip_labels}
use Rattle.nor_net.specs.Shape.{IsNet}
use Rattle.drawing.specs.Draws.{Point}
use Rattle.fabric.specs.declared.chip.Chip.{Chip}
use Rattle.fabric.specs.declared.chip.ChipLabel.{ChipLabel}
use Rattle.fabric.specs.Plan.{Plan, IsFabric, IsSegment, bands}
use Rattle.fabric.specs.Shape.{base, shape}
use Rattle.fabric.specs.Switches.{Net}
use Rattle.fabric.specs.Switches.Net.{segment, line, ground, power}
use Rattle.fabric.proofs.Bases.{bases_rise}
use Rattle.metal_pieces.specs.Pieces.{all_of}
use Rattle.rtl_form.specs.declared.rtl.Rtl.{Rtl}
use Rattle.path_form.specs.declared.path.DataPath.{DataPath}
use Rattle.pad_frame.specs.declared.frames.PadWish.{PadWish}
use Rattle.pad_order.specs.Ordered.{AreParted}
use Rattle.chip_pads.specs.Heights.{HasPort, port_low}
use Rattle.chip_pads.specs.Ports.{ArePorts, PadsAreDrawn, PadsAreGlued, pieces_of}
use Rattle.padded_labels.specs.declared.labels.Padding.{Padding}
use Rattle.padded_labels.specs.Padded.{IsPadded, ports_at}
use Rattle.padded_chips.specs.Padding.{IsCarried, PadsKeepLayouts}
use Rattle.framed_chips.specs.Cornered.{AreCornered, CornersAreCarried, CornersAreParted}
use Rattle.framed_chips.specs.Framed.{IsFramed, IsOnSomePad}
use Rattle.slice_chip.specs.Order.{AreInOrder}
use Rattle.slice_chip.specs.Unders.{IsLed}
use Rattle.chip_laws.specs.Labels.{IsInCorner}
use Rattle.chip_laws.specs.Laws.{names_of}
use Rattle.path_chips.specs.Planned.{IsPathLaidOut}
use Rattle.cif_emit.specs.Emittable.{farthest}
use Rattle.path_labels.specs.Labels.{IsAtPoint, height_at, label_points}
use Rattle.path_plan.specs.Paths.{IsLight}
use Rattle.path_plan.specs.Sizes.{LabelsAreFew}
use Rattle.path_plan.proofs.Ported.{cornered}

-- moved labels keep their names
names_kept : (rects : List Rect) (pieces : List (List Rect)) (new old : List ChipLabel)
    → AllZip (IsCarried rects pieces) new old → names_of new ≡ names_of old
names_kept rects pieces [] [] z = refl
names_kept rects pieces [] (l ∷ ls) z = absurd z
names_kept rects pieces (l ∷ ls) [] z = absurd z
names_kept rects pieces (x ∷ xs) (y ∷ ys) z =
    let n = z.0.name in let rest = names_kept rects pieces xs ys z.1 in λ i. n i ∷ rest i

-- a port lies below the top of the fabric
pub port_below : (f : Plan) → IsFabric f → (n : Net) → HasPort f n → port_low f n + 4 ≤ base f (bands f)
port_below f w (segment s) h =
    let i = All-contains (IsSegment f) f.segments s w.segments h.0 in
    let r = bases_rise f s.band (bands f) i.band in
    let b = i.below in omega (arith, r, b)
port_below f w (line l) h = absurd h
port_below f w ground h = let r = bases_rise f 0 (bands f) w.bands in omega (arith, r)
port_below f w power h = let r = bases_rise f 0 (bands f) w.bands in omega (arith, r)

module _ (p : DataPath) (control_net : IsNet p.control) (slice_net : IsNet p.slices.net) (f : Plan)
    (is_led : IsLed p f) (lawful : IsFabric f) (order : AreInOrder p is_led.bare is_led.sliced)
    (labels : List ChipLabel) (heights : List ℕ) (there : AllZip (IsAtPoint p f) (label_points p) labels)
    (high : heights ≡ map (height_at p f) (label_points p)) (named : names_of labels ≡ chip_labels p.pads)
  where
    corners : AreCornered f labels heights
    corners = cornered p control_net slice_net f is_led lawful order labels heights there high

    labels_counted : length labels ≡ length (chip_labels p.pads)
    labels_counted =
        sym (length-map labels (λ (l : ChipLabel). l.name)) ∙ ap (λ (ns : List (List ℕ)). length ns) named

    pub as_long : length heights ≡ length labels
    as_long =
        ap (λ (hs : List ℕ). length hs) corners.high ∙ length-map corners.nets (port_low f)
        ∙ zip_length (IsInCorner f) corners.nets labels corners.corners

    heights_low : base f (bands f) ≤ farthest → All (λ h. h ≤ 2 ^ 30) heights
    heights_low top =
        subst (All (λ h. h ≤ 2 ^ 30)) (sym corners.high)
        (λ i d h.
        let l = length-map corners.nets (port_low f) in
        let lt : i < length corners.nets = omega (arith, h, l) in
        let n = get_or corners.nets i ground in
        let b = port_below f lawful n (corners.ported i ground lt) in
        let e = get_or-map (port_low f) corners.nets i ground d lt in
        omega (arith, b, e, top))

    pub parted : CornersAreParted → IsLight p → LabelsAreFew → base f (bands f) ≤ farthest
        → AreParted (ports_at labels heights)
    parted law light few top =
        law f lawful labels heights corners
        (let a = labels_counted in let b = few p.pads in let c = light.pads in let d = light.light in
        omega (arith, a, b, c, d))
        (heights_low top)

    module _ (padding : Padding) (padded : IsPadded labels heights padding) (law : CornersAreCarried) where
      abbrev pub wishes : List PadWish
      wishes = padded.wishes

      pub are_ports : ArePorts f wishes
      are_ports = (law f lawful labels heights corners padding padded).0

      carried : AllZip (IsCarried (shape f) (pieces_of wishes)) padding.labels labels
      carried = (law f lawful labels heights corners padding padded).1

      on_pads : All (IsOnSomePad wishes) padding.labels
      on_pads i d h =
          let lt : i < length labels = (let l = padded.long in omega (arith, h, l)) in
          let m = padded.moved i (get_or padding.labels i d) (get_or labels i d) (slice_get-get_or padding.labels i d h)
          (slice_get-get_or labels i d lt) in
          (m.pad, m.there, record { layer = m.layer; x = m.x; y = m.y })

      pub new_named : names_of padding.labels ≡ chip_labels p.pads
      new_named = names_kept (shape f) (pieces_of wishes) padding.labels labels carried ∙ named

      pub all_drawn : PadsAreDrawn → shape f ++ padding.extra ≡ shape f ++ all_of (pieces_of wishes)
      all_drawn drawn =
          ap (λ (rs : List Rect). shape f ++ rs)
          (padded.extra ∙ drawn wishes padded.frame padded.drawn are_ports.some)

      pub framed : (chip : Chip) → chip.fabric ≡ f → chip.extra ≡ padding.extra → chip.labels ≡ padding.labels
          → IsFramed chip
      framed chip of_fabric of_extra of_labels = record {
        wishes = wishes;
        frame = padded.frame;
        drawn = padded.drawn;
        ports = subst (λ f. ArePorts f wishes) (sym of_fabric) are_ports;
        extra = of_extra ∙ padded.extra;
        as_many = padded.as_many ∙ sym padded.long ∙ ap (λ (ls : List ChipLabel). length ls) (sym of_labels);
        on_pads = subst (All (IsOnSomePad wishes)) (sym of_labels) on_pads;
      }

      pub laid_out_padded : PadsAreDrawn → PadsAreGlued → PadsKeepLayouts → AllPairs ◌≢◌ (chip_labels p.pads)
          → (network : Network) (place : Point → ℕ) (rtl : Rtl)
          → IsPathLaidOut rtl p network place (shape f) labels
          → IsPathLaidOut rtl p network place (shape f ++ padding.extra) padding.labels
      laid_out_padded drawn glued keep differ network place rtl laid =
          subst (λ rs. IsPathLaidOut rtl p network place rs padding.labels) (sym (all_drawn drawn))
          (keep rtl p network place (shape f) (pieces_of wishes) padding.labels labels laid
          (glued f lawful wishes padded.frame padded.drawn are_ports) carried
          (subst (AllPairs ◌≢◌) (sym new_named) differ))
