-- The chip of a path that stands for transfers is a small plan of them, and bounded.
use Rattle.std.proofs.Common.{◌≡◌, ◌⊎◌, inl, inr, ◌+◌, ◌*◌, ◌≤◌, ℕ, suc, List, ◌∷◌, length, sym, ◌∙◌, ap, subst}
use Rattle.std.proofs.Common.{arith}
use Rattle.std.specs.Prelude.{Contains, max, replicate, sum, sum_by}
use Rattle.std.proofs.lemmas.List.{length-map}
use Rattle.lam_geom.specs.Extent.{IsAtMost}
use Rattle.lam_geom.specs.Squares.{covered}
use Rattle.mp_base.specs.declared.pad.Pads.{Pads}
use Rattle.switch_net.specs.Pads.{chip_labels}
use Rattle.nor_net.specs.Shape.{IsNet}
use Rattle.fabric.specs.declared.chip.Chip.{Chip}
use Rattle.fabric.specs.declared.chip.ChipLabel.{ChipLabel}
use Rattle.fabric.specs.declared.thing.Mark.{Mark}
use Rattle.fabric.specs.declared.thing.Segment.{Segment}
use Rattle.fabric.specs.Counted.{rectangle_count}
use Rattle.fabric.specs.Plan.{Plan, IsFabric}
use Rattle.fabric.specs.Switches.Net.{segment}
use Rattle.fabric_extent.specs.Bounds.{IsSmall}
use Rattle.track_assign.specs.declared.packing.Tracks.{Tracks}
use Rattle.rtl_form.specs.declared.rtl.Rtl.{Rtl}
use Rattle.rtl_form.specs.Cost.{cost}
use Rattle.rtl_form.specs.Sound.{IsSound}
use Rattle.path_form.specs.declared.path.DataPath.{DataPath}
use Rattle.chip_pads.specs.Heights.{HasPort}
use Rattle.framed_chips.specs.Framed.{FramedAreClean, FramedAreFew, FramedAreHeld, FramedAreSized}
use Rattle.slice_form.specs.Whole.{path_of}
use Rattle.slice_chip.specs.Columns.{ColumnsAreUsed, IsUsed}
use Rattle.slice_chip.specs.Ends.{EndsAreMarked, IsMarkedAt}
use Rattle.slice_chip.specs.Groups.{AreGroups, SlicedHasGroups}
use Rattle.slice_chip.specs.Order.{AreInOrder, SegmentsInOrder}
use Rattle.slice_chip.specs.Sizes.{RectanglesAreFew, SlicedIsSmall}
use Rattle.slice_chip.specs.Sliced.{IsSliced}
use Rattle.slice_chip.specs.Unders.{IsLed, unders}
use Rattle.cif_emit.specs.Emittable.{chip_rects}
use Rattle.compile_laws.specs.Laws.{IsBounded, IsSmallPlan, most_high, most_rects, most_wide, pad_count}
use Rattle.path_chips.specs.Planned.{PathsArePlanned}
use Rattle.path_chips.specs.Ratioed.{PathsAreRatioed}
use Rattle.path_plan.specs.Paths.{AreLaid, IsChipFor, IsPathFor}
use Rattle.path_plan.specs.Plans.{IsMeasured}
use Rattle.path_plan.specs.Sizes.{LabelsAreFew}
use Rattle.path_plan.proofs.Counts.{rectangles_counted}
use Rattle.path_plan.proofs.Extents.{extent_by_cost, extent_by_rows, groups_still, marked_still, small_still}
use Rattle.path_plan.proofs.Extents.{used_still}
use Rattle.path_plan.proofs.PadCells.{pads_cost}
use Rattle.path_plan.proofs.Points.{same_segments}
use Rattle.path_plan.proofs.Ported.{bare_lawful, west_port}
use Rattle.path_plan.proofs.Sizes.{all_rows}

module _ (r : Rtl) (p : DataPath) (stands : IsPathFor r p) (control : IsNet p.control) (slices : IsNet p.slices.net)
    (f : Plan) (lawful : IsFabric f) (groups : List Tracks) (laid : AreLaid p f groups) (ordered : SegmentsInOrder)
  where
    abbrev same_pads : p.pads ≡ r.pads
    same_pads = stands.pads

    abbrev is_led : IsLed p f
    is_led = laid.led

    abbrev bare : Plan
    bare = is_led.bare

    abbrev sliced : IsSliced p bare
    sliced = is_led.sliced

    abbrev more : List Mark
    more = unders (path_of p) sliced.control sliced.slices

    abbrev order : AreInOrder p bare sliced
    order = ordered p bare sliced

    -- ---- what holds of the fabric

    width_is : p.width ≡ r.width
    width_is = stands.width

    groups_good : SlicedHasGroups → AreGroups f groups
    groups_good law =
        subst (AreGroups f) (sym laid.groups_are)
        (subst (λ f. AreGroups f (sliced.control ∷ replicate p.width sliced.slices)) (sym is_led.is)
        (groups_still bare more (sliced.control ∷ replicate p.width sliced.slices) (law p bare sliced)))

    groups_alike : groups ≡ sliced.control ∷ replicate r.width sliced.slices
    groups_alike = laid.groups_are ∙ ap (λ w. sliced.control ∷ replicate w sliced.slices) width_is

    rows_sum : sum f.rows ≡ sum_by (λ (t : Tracks). t.rows) groups + suc r.width
    rows_sum =
        ap (λ (f : Plan). sum f.rows) is_led.is ∙ ap (λ (f : Plan). sum f.rows) sliced.is
        ∙ all_rows p.width sliced.control sliced.slices
        ∙ (λ i. sum_by (λ (t : Tracks). t.rows) (sym laid.groups_are i) + suc (width_is i))

    small : SlicedIsSmall → IsSmall (cost r) p.width f
    small law =
        subst (IsSmall (cost r) p.width) (sym is_led.is)
        (small_still bare more (cost r) p.width (law (cost r) p bare stands.within stands.narrow sliced))

    bare_is : IsFabric bare
    bare_is = bare_lawful p control slices f is_led lawful order

    columns_used : IsSound r → ColumnsAreUsed → IsUsed f
    columns_used sound law =
        subst IsUsed (sym is_led.is)
        (used_still bare more
        (law p control slices (let one = sound.width.0 in omega (arith, one, width_is)) bare sliced bare_is))

    abbrev Ends : Plan → Segment → Type 0
    Ends f s = (IsMarkedAt f s s.first ⊎ HasPort f (segment s)) × IsMarkedAt f s s.last

    marked : (s : Segment) (c : ℕ) → IsMarkedAt bare s c → IsMarkedAt f s c
    marked s c m = subst (λ f. IsMarkedAt f s c) (sym is_led.is) (marked_still bare more s c m)

    segment_ends : EndsAreMarked → (s : Segment) → Contains f.segments s → Ends f s
    segment_ends law s c =
        let e = law p control slices bare sliced bare_is s
        (subst (λ ss. Contains ss s) (same_segments p f is_led order) c) in (
          elim e.0 [
            | inl m ↦ inl (marked s s.first m)
            | inr w ↦ inr (west_port p control slices f is_led lawful order s c w)
          ],
          marked s s.last e.1,
        )

    -- ---- the plan

    module _ (chip : Chip) (chip_for : IsChipFor p f chip) (sound : IsSound r) where
      pads_few : length (p.pads).inputs + length (p.pads).outputs ≤ cost r
      pads_few =
          subst (λ (ps : Pads). length ps.inputs + length ps.outputs ≤ cost r) (sym same_pads) (pads_cost r sound)

      abbrev chip_lawful : IsFabric chip.fabric
      chip_lawful = subst IsFabric (sym chip_for.fabric) lawful

      -- as many labels as the pads have bits, and five
      labels_counted : length chip.labels ≡ length (chip_labels p.pads)
      labels_counted =
          sym (length-map chip.labels (λ (l : ChipLabel). l.name))
          ∙ ap (λ (ns : List (List ℕ)). length ns) chip_for.named

      pub small_plan : PathsArePlanned → RectanglesAreFew → LabelsAreFew → FramedAreFew
          → IsSmallPlan r (chip_rects chip) chip.labels
      small_plan planned rects labels frames =
          record {
            planned = planned r p chip_for.network chip_for.place (chip_rects chip) chip.labels same_pads
                stands.shows control slices
                (chip_for.named ∙ ap chip_labels same_pads) (chip_for.laid_out r same_pads);
            few = few_rects;
            few_labels = few_names;
          }
        where
          few_rects : length (chip_rects chip) ≤ most_rects (cost r) r.width
          few_rects =
              subst (λ w. length (chip_rects chip) ≤ most_rects (cost r) w) width_is
              (let m = rectangles_counted p f is_led (cost r) stands.within pads_few rects in
              let e = ap rectangle_count chip_for.fabric in
              let a = frames chip chip_for.framed in
              let l = labels_counted in
              omega (arith, m, e, a, l))

          few_names : length chip.labels ≤ 64 * cost r + 5
          few_names =
              let same = labels_counted in
              let most = labels p.pads in
              let pads = pads_few in
              omega (arith, same, most, pads)

      small_fabric : SlicedIsSmall → IsSmall (cost r) r.width chip.fabric
      small_fabric law =
          subst (λ f. IsSmall (cost r) r.width f) (sym chip_for.fabric)
          (subst (λ w. IsSmall (cost r) w f) width_is (small law))

      pub measured : SlicedIsSmall → SlicedHasGroups → EndsAreMarked → ColumnsAreUsed → FramedAreHeld → (columns rows : ℕ)
          → columns ≡ f.columns → rows ≡ sum f.rows
          → IsMeasured r (record { chip = chip; columns = columns; rows = rows; groups = groups })
      measured is_small grouped ends used held columns rows columns_are rows_are = record {
        fabric = chip_lawful;
        framed = chip_for.framed;
        extent = extent_told;
        columns = columns_same;
        groups = subst (λ f. AreGroups f groups) (sym chip_for.fabric) (groups_good grouped);
        control = sliced.control;
        slice = sliced.slices;
        alike = groups_alike;
        rows = rows_are ∙ rows_sum;
        narrow = let c = (small is_small).columns in omega (arith, c, columns_are);
        used = subst IsUsed (sym chip_for.fabric) (columns_used sound used);
        ends = subst (λ (f : Plan). (s : Segment) → Contains f.segments s → Ends f s) (sym chip_for.fabric)
            (segment_ends ends);
      }
        where
          columns_same : columns ≡ (chip.fabric).columns
          columns_same = columns_are ∙ ap (λ (f : Plan). f.columns) (sym chip_for.fabric)

          rows_same : rows ≡ sum (chip.fabric).rows
          rows_same = rows_are ∙ ap (λ (f : Plan). sum f.rows) (sym chip_for.fabric)

          extent_told : IsAtMost (covered (chip_rects chip)) (20 * columns + 7 * length chip.labels + 43)
              (max (12 * rows + 36 * suc r.width) (60 * length chip.labels))
          extent_told =
              subst (λ c. IsAtMost (covered (chip_rects chip)) (20 * c + 7 * length chip.labels + 43)
              (max (12 * rows + 36 * suc r.width) (60 * length chip.labels))) (sym columns_same)
              (subst (λ n. IsAtMost (covered (chip_rects chip)) (20 * (chip.fabric).columns + 7 * length chip.labels + 43)
              (max (12 * n + 36 * suc r.width) (60 * length chip.labels))) (sym rows_same)
              (subst (λ b. IsAtMost (covered (chip_rects chip)) (20 * (chip.fabric).columns + 7 * length chip.labels + 43)
              (max (12 * sum (chip.fabric).rows + 36 * b) (60 * length chip.labels))) (small_fabric is_small).count
              (extent_by_rows chip chip_lawful chip_for.framed held)))

      pub bounded : SlicedIsSmall → FramedAreHeld → FramedAreClean → FramedAreSized → PathsAreRatioed
          → IsBounded r (chip_rects chip) chip.labels
      bounded is_small held clean sizes ratio = record {
        extent = subst (λ n. IsAtMost (covered (chip_rects chip)) (most_wide (cost r) n) (most_high (cost r) r.width n))
            (labels_counted ∙ ap (λ (ps : Pads). pad_count ps) same_pads)
            (extent_by_cost chip chip_lawful chip_for.framed held (cost r) r.width (small_fabric is_small));
        sized = sizes chip chip_lawful chip_for.framed;
        clean = clean chip chip_lawful chip_for.framed;
        ratioed = λ flat are n is. ratio r p n chip_for.network chip_for.place same_pads control slices
            ((chip_for.laid_out r same_pads flat are).2 n is);
      }
