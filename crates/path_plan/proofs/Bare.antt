-- A fabric from which marks are taken away is a fabric still.
use Rattle.std.proofs.Common.{◌≡◌, ◌⊎◌, inl, inr, ℕ, ◌<◌, List, [], ◌++◌, length, get_or, subst}
use Rattle.std.proofs.Common.{arith}
use Rattle.std.specs.Prelude.{All, AllPairs, Contains}
use Rattle.std.proofs.lemmas.List.{append-nil, get_or_append_left, length-append}
use Rattle.tile_cells.specs.declared.tile.Tile.{Tile}
use Rattle.tile_cells.specs.declared.tile.Tile.TheVariants.{TapL, TapR, Tran, PullUp, Under}
use Rattle.fabric.specs.declared.thing.Side.{Side}
use Rattle.fabric.specs.declared.thing.Side.TheVariants.{L, R}
use Rattle.fabric.specs.declared.thing.Segment.{Segment}
use Rattle.fabric.specs.declared.thing.Line.{Line}
use Rattle.fabric.specs.declared.thing.Mark.{Mark}
use Rattle.fabric.specs.Plan.{Plan, IsFabric, IsSegment, IsLine, IsMark, LineAt, SegmentAt, SegmentsApart, LinesApart}
use Rattle.fabric.specs.Plan.{MarksApart, BeginsAt, Stands, rows_of, with_added}

module _ (f : Plan) (more : List Mark) (w : IsFabric (with_added f [] [] more)) where
  abbrev whole : Plan
  whole = with_added f [] [] more

  line_at : (side : Side) (b c : ℕ) → LineAt whole side b c → LineAt f side b c
  line_at side b c h = record {
    line = h.line;
    among = subst (λ (ls : List Line). Contains ls h.line) (append-nil f.lines) h.among;
    passes = h.passes;
  }

  at_edge : (b r : ℕ) → (r ≡ rows_of f b) ⊎ BeginsAt whole b r → (r ≡ rows_of f b) ⊎ BeginsAt f b r
  at_edge b r (inl e) = inl e
  at_edge b r (inr (s, among, band, row, first)) =
      inr (s, subst (λ (ss : List Segment). Contains ss s) (append-nil f.segments) among, band, row, first)

  crossed : (b r c : ℕ) → SegmentAt whole b r c → SegmentAt f b r c
  crossed b r c h = record {
    segment = h.segment;
    among = subst (λ (ss : List Segment). Contains ss h.segment) (append-nil f.segments) h.among;
    crosses = h.crosses;
  }

  in_row : (b r c : ℕ) → (r ≡ 0) ⊎ SegmentAt whole b r c → (r ≡ 0) ⊎ SegmentAt f b r c
  in_row b r c (inl e) = inl e
  in_row b r c (inr h) = inr (crossed b r c h)

  stands : (t : Tile) (b r c : ℕ) → Stands whole t b r c → Stands f t b r c
  stands TapL b r c s = (line_at L b c s.0, in_row b r c s.1)
  stands TapR b r c s = (line_at R b c s.0, in_row b r c s.1)
  stands Tran b r c s = (line_at L b c s.0, line_at R b c s.1, crossed b r c s.2)
  stands PullUp b r c (top, (l, among, passes, last)) =
      (top, (l, subst (λ (ls : List Line). Contains ls l) (append-nil f.lines) among, passes, last))
  stands Under b r c s = (s.0, s.1, at_edge b r s.2)

  is_segment : (s : Segment) → IsSegment whole s → IsSegment f s
  is_segment s h = record {
    band = h.band;
    row = h.row;
    below = h.below;
    first = h.first;
    order = h.order;
    last = h.last;
  }

  is_line : (l : Line) → IsLine whole l → IsLine f l
  is_line l h = record { column = h.column; right = h.right; order = h.order; last = h.last }

  longer : (i : ℕ) → i < length f.marks → i < length (f.marks ++ more)
  longer i h = let l = length-append f.marks more in omega (arith, l, h)

  pub fewer_marks : IsFabric f
  fewer_marks = record {
    columns = w.columns;
    bands = w.bands;
    rows = w.rows;
    segments = λ i d h. is_segment (get_or f.segments i d)
        (subst (All (IsSegment whole)) (append-nil f.segments) w.segments i d h);
    segments_apart = subst (AllPairs SegmentsApart) (append-nil f.segments) w.segments_apart;
    lines = λ i d h. is_line (get_or f.lines i d)
        (subst (All (IsLine whole)) (append-nil f.lines) w.lines i d h);
    lines_apart = subst (AllPairs LinesApart) (append-nil f.lines) w.lines_apart;
    marks = λ i d h. (let m = get_or f.marks i d in
        stands m.tile m.band m.row m.column
        (subst (IsMark whole) (get_or_append_left f.marks more d i h) (w.marks i d (longer i h))));
    marks_apart = λ i j d lt h.
        subst (λ m. MarksApart m (get_or f.marks j d))
        (get_or_append_left f.marks more d i (omega (arith, lt, h)))
        (subst (λ n. MarksApart (get_or (f.marks ++ more) i d) n) (get_or_append_left f.marks more d j h)
        (w.marks_apart i j d lt (longer j h)));
  }
