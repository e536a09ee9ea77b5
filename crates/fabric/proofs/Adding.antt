-- What is added to a fabric keeps its conditions.
use Rattle.std.proofs.Common.{ℕ, ◌≡◌, ◌+◌, ◌<◌, ◌⊎◌, inl, inr, sym, ◌∙◌, subst, subst₂, ap, arith, List, [], ◌∷◌, ◌++◌}
use Rattle.std.proofs.Common.{length, get_or, take, drop, Contains}
use Rattle.std.specs.Prelude.{All, AllPairs}
use Rattle.std.proofs.lemmas.List.{append_assoc, get_or_default, get_or_append_left, get_or-append-add, length-append}
use Rattle.std.proofs.lemmas.List.{length-take, take-append-drop, length_push}
use Rattle.std.proofs.lemmas.List.Elements.{All-push, Contains-append_left}
use Rattle.std.proofs.lemmas.List.Quantifiers.{all_pairs_push}
use Rattle.tile_cells.specs.declared.tile.Tile.{Tile}
use Rattle.tile_cells.specs.declared.tile.Tile.TheVariants.{TapL, TapR, Tran, PullUp, Under}
use Rattle.fabric.specs.declared.thing.Side.{Side}
use Rattle.fabric.specs.declared.thing.Segment.{Segment}
use Rattle.fabric.specs.declared.thing.Line.{Line}
use Rattle.fabric.specs.declared.thing.Mark.{Mark}
use Rattle.fabric.specs.Plan.{Plan, IsFabric, IsSegment, IsLine, IsMark, Stands, SegmentAt, LineAt, SegmentsApart}
use Rattle.fabric.specs.Plan.{LinesApart, MarksApart, with_added}
use Rattle.fabric.specs.Room.{IsRoomy, IsKept}

-- ---- lists
module _ {A : Type 0} (xs ys : List A) where
  -- what holds of each of a list holds of each of its last ones
  last_ones : (P : A → Type 0) → All P (xs ++ ys) → All P ys
  last_ones P each k d h =
      let n = length-append xs ys in
      subst P (get_or-append-add xs ys k d) (each (length xs + k) d (omega arith))

  -- one of the last ones comes after all before it
  pub before : (B : A → A → Type 0) → AllPairs B (xs ++ ys) → (i : ℕ) (e : A) → i < length ys
      → All (λ t. B t (get_or ys i e)) (xs ++ take i ys)
  before B pairs i e h k d l =
      let n = length-append xs ys in
      let m = length-append xs (take i ys) in
      let t = length-take i ys in
      let parts : xs ++ ys ≡ (xs ++ take i ys) ++ drop i ys =
      ap (λ z. xs ++ z) (sym (take-append-drop i ys)) ∙ sym (append_assoc xs (take i ys) (drop i ys)) in
      let left : get_or (xs ++ ys) k e ≡ get_or (xs ++ take i ys) k d =
      ap (λ z. get_or z k e) parts ∙ get_or_append_left (xs ++ take i ys) (drop i ys) e k l
      ∙ get_or_default (xs ++ take i ys) k e d l in
      subst₂ B left (get_or-append-add xs ys i e) (pairs k (length xs + i) e (omega arith) (omega arith))

  -- there is room for one more of the last ones
  pub room_before : (n i : ℕ) → length (xs ++ ys) < n → i < length ys → length (xs ++ take i ys) + 1 < n
  room_before n i h l =
      let a = length-append xs ys in
      let b = length-append xs (take i ys) in
      let t = length-take i ys in
      omega arith

-- ---- plans with the same bands and columns
module _ (f : Plan) (segments : List Segment) (lines : List Line) (marks : List Mark) where
  abbrev pub holding : Plan
  holding = record f { segments = segments; lines = lines; marks = marks }

  pub is_segment : (s : Segment) → IsSegment f s → IsSegment holding s
  is_segment s i =
      record { band = i.band; row = i.row; below = i.below; first = i.first; order = i.order; last = i.last }

  pub is_line : (l : Line) → IsLine f l → IsLine holding l
  is_line l i = record { column = i.column; right = i.right; order = i.order; last = i.last }

  module _ (more : (s : Segment) → Contains f.segments s → Contains segments s)
      (more_lines : (l : Line) → Contains f.lines l → Contains lines l) where
    line_too : (s : Side) (b c : ℕ) → LineAt f s b c → LineAt holding s b c
    line_too s b c h = record { line = h.line; among = more_lines h.line h.among; passes = h.passes }

    segment_too : (b r c : ℕ) → SegmentAt f b r c → SegmentAt holding b r c
    segment_too b r c h =
        record { segment = h.segment; among = more h.segment h.among; crosses = h.crosses }

    tapped_too : (b r c : ℕ) → (r ≡ 0) ⊎ SegmentAt f b r c → (r ≡ 0) ⊎ SegmentAt holding b r c
    tapped_too b r c (inl e) = inl e
    tapped_too b r c (inr h) = inr (segment_too b r c h)

    stands : (t : Tile) (b r c : ℕ) → Stands f t b r c → Stands holding t b r c
    stands TapL b r c (line, tapped) = (line_too _ b c line, tapped_too b r c tapped)
    stands TapR b r c (line, tapped) = (line_too _ b c line, tapped_too b r c tapped)
    stands Tran b r c (left, right, segment) = (line_too _ b c left, line_too _ b c right, segment_too b r c segment)
    stands PullUp b r c (row, (l, among, passes, ends)) = (row, (l, more_lines l among, passes, ends))
    stands Under b r c (column, band, inl row) = (column, band, inl row)
    stands Under b r c (column, band, inr (s, among, own_band, own_row, begins)) =
        (column, band, inr (s, more s among, own_band, own_row, begins))

    pub is_mark : (m : Mark) → IsMark f m → IsMark holding m
    is_mark m h = stands m.tile m.band m.row m.column h

  -- the conditions that speak of bands and columns alone stay
  kept : IsKept f → All (IsSegment holding) segments → AllPairs SegmentsApart segments
      → All (IsLine holding) lines → AllPairs LinesApart lines → All (IsMark holding) marks → AllPairs MarksApart marks
      → length segments < 16_777_216 → length lines < 16_777_216 → length marks < 16_777_216 → IsKept holding
  kept k s sa l la m ma sn ln mn = record {
    met = record {
      columns = k.met.columns;
      bands = k.met.bands;
      rows = k.met.rows;
      segments = s;
      segments_apart = sa;
      lines = l;
      lines_apart = la;
      marks = m;
      marks_apart = ma;
    };
    roomy = record {
      columns_fit = k.roomy.columns_fit;
      bands_fit = k.roomy.bands_fit;
      rows_fit = k.roomy.rows_fit;
      segments_fit = sn;
      lines_fit = ln;
      marks_fit = mn;
    };
  }

fits : {A : Type 0} (xs : List A) (x : A) (n : ℕ) → length xs + 1 < n → length (xs ++ x ∷ []) < n
fits xs x n h = subst (λ z. z < n) (sym (length_push xs x)) h

same : {A : Type 0} (xs : List A) (a : A) → Contains xs a → Contains xs a
same xs a c = c

pushed : {A : Type 0} (xs : List A) (x a : A) → Contains xs a → Contains (xs ++ x ∷ []) a
pushed xs x a c = Contains-append_left xs (x ∷ []) a c

module _ (f : Plan) (k : IsKept f) where
  abbrev met : IsFabric f
  met = k.met

  abbrev roomy : IsRoomy f
  roomy = k.roomy

  kept_segment : (s : Segment) → IsSegment f s → All (λ t. SegmentsApart t s) f.segments
      → length f.segments + 1 < 16_777_216 → IsKept (record f { segments = f.segments ++ s ∷ [] })
  kept_segment s i apart n =
      let more : List Segment = f.segments ++ s ∷ [] in
      let g : Plan = holding f more f.lines f.marks in
      kept f more f.lines f.marks k
      (All-push (IsSegment g) f.segments s
      (λ j d h. is_segment f more f.lines f.marks (get_or f.segments j d) (met.segments j d h))
      (is_segment f more f.lines f.marks s i))
      (all_pairs_push SegmentsApart f.segments s met.segments_apart apart)
      (λ j d h. is_line f more f.lines f.marks (get_or f.lines j d) (met.lines j d h)) met.lines_apart
      (λ j d h. is_mark f more f.lines f.marks (pushed f.segments s) (same f.lines) (get_or f.marks j d)
      (met.marks j d h))
      met.marks_apart (fits f.segments s _ n) roomy.lines_fit roomy.marks_fit

  kept_line : (l : Line) → IsLine f l → All (λ m. LinesApart m l) f.lines
      → length f.lines + 1 < 16_777_216 → IsKept (record f { lines = f.lines ++ l ∷ [] })
  kept_line l i apart n =
      let more : List Line = f.lines ++ l ∷ [] in
      let g : Plan = holding f f.segments more f.marks in
      kept f f.segments more f.marks k
      (λ j d h. is_segment f f.segments more f.marks (get_or f.segments j d) (met.segments j d h)) met.segments_apart
      (All-push (IsLine g) f.lines l
      (λ j d h. is_line f f.segments more f.marks (get_or f.lines j d) (met.lines j d h))
      (is_line f f.segments more f.marks l i))
      (all_pairs_push LinesApart f.lines l met.lines_apart apart)
      (λ j d h. is_mark f f.segments more f.marks (same f.segments) (pushed f.lines l) (get_or f.marks j d)
      (met.marks j d h))
      met.marks_apart roomy.segments_fit (fits f.lines l _ n) roomy.marks_fit

  kept_mark : (m : Mark) → IsMark f m → All (λ n. MarksApart n m) f.marks
      → length f.marks + 1 < 16_777_216 → IsKept (record f { marks = f.marks ++ m ∷ [] })
  kept_mark m i apart n =
      let more : List Mark = f.marks ++ m ∷ [] in
      let g : Plan = holding f f.segments f.lines more in
      let too : (x : Mark) → IsMark f x → IsMark g x =
      λ x h. is_mark f f.segments f.lines more (same f.segments) (same f.lines) x h in
      kept f f.segments f.lines more k
      (λ j d h. is_segment f f.segments f.lines more (get_or f.segments j d) (met.segments j d h)) met.segments_apart
      (λ j d h. is_line f f.segments f.lines more (get_or f.lines j d) (met.lines j d h)) met.lines_apart
      (All-push (IsMark g) f.marks m (λ j d h. too (get_or f.marks j d) (met.marks j d h)) (too m i))
      (all_pairs_push MarksApart f.marks m met.marks_apart apart)
      roomy.segments_fit roomy.lines_fit (fits f.marks m _ n)

-- ---- the same, where the fabric is seen through its fields
pub segment_added : (v f : Plan) → v ≡ f → IsKept f → (s : Segment) → IsSegment v s
    → All (λ t. SegmentsApart t s) v.segments → length v.segments + 1 < 16_777_216
    → (new : List Segment) → new ≡ f.segments ++ s ∷ [] → IsKept (record f { segments = new })
segment_added v f e k s i a n new g =
    subst (λ z. IsKept (record f { segments = z })) (sym g)
    (kept_segment f k s (subst (λ z. IsSegment z s) e i)
    (subst (λ z. All (λ t. SegmentsApart t s) z.segments) e a) (subst (λ z. length z.segments + 1 < 16_777_216) e n))

pub line_added : (v f : Plan) → v ≡ f → IsKept f → (l : Line) → IsLine v l
    → All (λ m. LinesApart m l) v.lines → length v.lines + 1 < 16_777_216
    → (new : List Line) → new ≡ f.lines ++ l ∷ [] → IsKept (record f { lines = new })
line_added v f e k l i a n new g =
    subst (λ z. IsKept (record f { lines = z })) (sym g)
    (kept_line f k l (subst (λ z. IsLine z l) e i)
    (subst (λ z. All (λ m. LinesApart m l) z.lines) e a) (subst (λ z. length z.lines + 1 < 16_777_216) e n))

pub mark_added : (v f : Plan) → v ≡ f → IsKept f → (m : Mark) → IsMark v m
    → All (λ n. MarksApart n m) v.marks → length v.marks + 1 < 16_777_216
    → (new : List Mark) → new ≡ f.marks ++ m ∷ [] → IsKept (record f { marks = new })
mark_added v f e k m i a n new g =
    subst (λ z. IsKept (record f { marks = z })) (sym g)
    (kept_mark f k m (subst (λ z. IsMark z m) e i)
    (subst (λ z. All (λ n. MarksApart n m) z.marks) e a) (subst (λ z. length z.marks + 1 < 16_777_216) e n))

-- ---- whole lists
module _ (f : Plan) (segments : List Segment) (lines : List Line) (marks : List Mark)
    (w : IsFabric (with_added f segments lines marks)) where
  pub added_segments : All (IsSegment f) segments
  added_segments k d h =
      is_segment (with_added f segments lines marks) f.segments f.lines f.marks (get_or segments k d)
      (last_ones f.segments segments (IsSegment (with_added f segments lines marks)) w.segments k d h)

  pub added_lines : All (IsLine f) lines
  added_lines k d h =
      is_line (with_added f segments lines marks) f.segments f.lines f.marks (get_or lines k d)
      (last_ones f.lines lines (IsLine (with_added f segments lines marks)) w.lines k d h)

  pub added_marks : All (IsMark (record f { segments = f.segments ++ segments; lines = f.lines ++ lines })) marks
  added_marks k d h =
      is_mark (with_added f segments lines marks) (f.segments ++ segments) (f.lines ++ lines) f.marks
      (same (f.segments ++ segments)) (same (f.lines ++ lines)) (get_or marks k d)
      (last_ones f.marks marks (IsMark (with_added f segments lines marks)) w.marks k d h)
