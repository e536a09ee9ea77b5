-- What a path's fabric keeps when crossings and pads are added to it.
use Rattle.std.proofs.Common.{◌≡◌, ℕ, ◌+◌, ◌*◌, ◌≤◌, List, [], filter, length, map, sym}
use Rattle.std.proofs.Common.{◌∙◌, ap}
use Rattle.std.proofs.Common.{subst, arith}
use Rattle.std.specs.Prelude.{Contains, ℤ, pos, ◌+ℤ◌, ◌≤ℤ◌, ◌==◌, max, sum, sum_by}
use Rattle.std.proofs.lemmas.Int.{ints}
use Rattle.std.proofs.lemmas.List.{append-nil, take_all}
use Rattle.std.proofs.lemmas.List.Elements.{Contains-append_left}
use Rattle.lam_geom.specs.declared.layer.Layer.{Layer}
use Rattle.lam_geom.specs.Extent.{IsAtMost}
use Rattle.lam_geom.specs.Squares.{covered}
use Rattle.fabric.specs.declared.chip.Chip.{Chip}
use Rattle.fabric.specs.declared.thing.Line.{Line}
use Rattle.fabric.specs.declared.thing.Mark.{Mark}
use Rattle.fabric.specs.declared.thing.Segment.{Segment}
use Rattle.fabric.specs.Plan.{Plan, IsFabric, bands, with_added}
use Rattle.fabric.specs.Shape.{base}
use Rattle.fabric.proofs.Bases.{base_sum}
use Rattle.fabric_extent.specs.Bounds.{IsSmall}
use Rattle.fabric_extent.proofs.Sides.{height_small}
use Rattle.track_assign.specs.declared.packing.Tracks.{Tracks}
use Rattle.track_assign.specs.Density.{IsDensity}
use Rattle.slice_chip.specs.Columns.{IsUsed}
use Rattle.slice_chip.specs.Ends.{IsMarkedAt}
use Rattle.slice_chip.specs.Groups.{AreGroups, IsGroup, span_of}
use Rattle.cif_emit.specs.Emittable.{chip_rects}
use Rattle.framed_chips.specs.Framed.{FramedAreHeld, IsFramed}
use Rattle.compile_laws.specs.Laws.{most_high, most_wide}

-- ---- crossings

module _ (f : Plan) (more : List Mark) where
  abbrev whole : Plan
  whole = with_added f [] [] more

  pub small_still : (cost width : ℕ) → IsSmall cost width f → IsSmall cost width whole
  small_still cost width s = record { columns = s.columns; count = s.count; control = s.control; slices = s.slices }

  pub used_still : IsUsed f → IsUsed whole
  used_still u c low high =
      let w = u c low high in
      (w.0, subst (λ (ls : List Line). Contains ls w.0) (sym (append-nil f.lines)) w.1, w.2)

  group_still : (b : ℕ) (tracks : Tracks) → IsGroup f b tracks → IsGroup whole b tracks
  group_still b tracks g = record {
    rows = g.rows;
    density = subst
        (λ (ss : List Segment). IsDensity (map span_of (filter (λ (s : Segment). s.band == b) ss)) tracks.rows
        tracks.column)
        (sym (append-nil f.segments)) g.density;
  }

  pub groups_still : (groups : List Tracks) → AreGroups f groups → AreGroups whole groups
  groups_still groups g =
      record { count = g.count; each = λ b tracks e. group_still b tracks (g.each b tracks e) }

  pub marked_still : (s : Segment) (c : ℕ) → IsMarkedAt f s c → IsMarkedAt whole s c
  marked_still s c m = record {
    the_mark = m.the_mark;
    among = Contains-append_left f.marks more m.the_mark m.among;
    band = m.band;
    row = m.row;
    column = m.column;
  }

-- ---- pads

widened : (covers : Layer → ℤ → ℤ → Type 0) (a b c d : ℕ) → a ≤ c → b ≤ d → IsAtMost covers a b
    → IsAtMost covers c d
widened covers a b c d h k is e extent =
    let w = is e extent in (far e.left e.right a c h w.0, far e.bottom e.top b d k w.1)
  where
    far : (low high : ℤ) (a b : ℕ) → a ≤ b → high ≤ℤ (low +ℤ pos (500 * a)) → high ≤ℤ (low +ℤ pos (500 * b))
    far low high a b h k = omega (arith, ints)

-- the height of all bands, by their rows
height_is : (f : Plan) → base f (bands f) ≡ 12 * sum f.rows + 36 * bands f
height_is f =
    base_sum f (bands f) (omega arith)
    ∙ ap (λ (rs : List ℕ). 12 * sum_by (λ x. x) rs + 36 * bands f) (take_all (bands f) f.rows (omega arith))

module _ (chip : Chip) (lawful : IsFabric chip.fabric) (framed : IsFramed chip) (held : FramedAreHeld) where
  abbrev pads : ℕ
  pads = length chip.labels

  abbrev f : Plan
  f = chip.fabric

  pub extent_by_cost : (cost width : ℕ) → IsSmall cost width f
      → IsAtMost (covered (chip_rects chip)) (most_wide cost pads) (most_high cost width pads)
  extent_by_cost cost width s =
      let c = s.columns in
      let h = height_small cost width f s width (omega arith) in
      let tall : base f (bands f) ≤ most_high cost width pads =
      subst (λ b. base f b ≤ most_high cost width pads) (sym s.count) (omega (arith, h)) in
      widened (covered (chip_rects chip)) (20 * f.columns + 7 * pads + 43) (most_high cost width pads)
      (most_wide cost pads) (most_high cost width pads) (omega (arith, c)) (omega arith)
      (held chip lawful framed (most_high cost width pads) tall (omega arith))

  pub extent_by_rows : IsAtMost (covered (chip_rects chip)) (20 * f.columns + 7 * pads + 43)
      (max (12 * sum f.rows + 36 * bands f) (60 * pads))
  extent_by_rows =
      let e = height_is f in
      held chip lawful framed (max (12 * sum f.rows + 36 * bands f) (60 * pads)) (omega (arith, e)) (omega arith)
