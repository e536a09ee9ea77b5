-- A fabric stays one where lines and marks are added that fit; and each call of what adds them one by one is met.
use Rattle.std.proofs.Common.{◌≡◌, inl, inr, ℕ, zero, suc, ◌<◌, List, [], ◌∷◌, ◌++◌, length}
use Rattle.std.proofs.Common.{get_or, take, sym, ◌∙◌, ap, subst, arith, drop, append_assoc}
use Rattle.std.proofs.lemmas.List.{append-nil, take-append-drop}
use Rattle.std.proofs.lemmas.List.Elements.{Contains-append_left}
use Rattle.std.specs.Prelude.{AllPairs, All}
use Rattle.mp_base.proofs.Members.{Member, member_append, append_right}
use Rattle.tile_cells.specs.declared.tile.Tile.{Tile}
use Rattle.tile_cells.specs.declared.tile.Tile.TheVariants.{TapL, TapR, Tran, PullUp, Under}
use Rattle.fabric.specs.declared.thing.Side.{Side}
use Rattle.fabric.specs.declared.thing.Line.{Line}
use Rattle.fabric.specs.declared.thing.Mark.{Mark}
use Rattle.fabric.specs.Plan.{Plan, IsFabric, IsSegment, IsLine, IsMark, Stands, LineAt, SegmentAt, LinesApart}
use Rattle.fabric.specs.Plan.{SegmentsApart, MarksApart}
use Rattle.fabric.specs.Plan.{with_added}
use Rattle.array_form.proofs.Pairs.{each_at, Pairs, pairs_all, pairs_from, pairs_append}
use Rattle.array_form.proofs.Laid.{all_from, all_at}

module _ (f : Plan) (lawful : IsFabric f) (ls : List Line) (ms : List Mark) where
  abbrev g : Plan
  g = with_added f [] ls ms

  no_more : f.segments ++ [] ≡ f.segments
  no_more = append-nil f.segments

  old_line_at : (side : Side) (b c : ℕ) → LineAt f side b c → LineAt g side b c
  old_line_at side b c h =
      record { line = h.line; among = Contains-append_left f.lines ls h.line h.among; passes = h.passes }

  old_segment_at : (b r c : ℕ) → SegmentAt f b r c → SegmentAt g b r c
  old_segment_at b r c h = record {
    segment = h.segment;
    among = Contains-append_left f.segments [] h.segment h.among;
    crosses = h.crosses;
  }

  old_stands : (t : Tile) (b r c : ℕ) → Stands f t b r c → Stands g t b r c
  old_stands TapL b r c s = (old_line_at _ b c s.0, elim s.1 [ inl e ↦ inl e | inr h ↦ inr (old_segment_at b r c h) ])
  old_stands TapR b r c s = (old_line_at _ b c s.0, elim s.1 [ inl e ↦ inl e | inr h ↦ inr (old_segment_at b r c h) ])
  old_stands Tran b r c s = (old_line_at _ b c s.0, old_line_at _ b c s.1, old_segment_at b r c s.2)
  old_stands PullUp b r c (at_top, (l, among, passes, last)) =
      (at_top, (l, Contains-append_left f.lines ls l among, passes, last))
  old_stands Under b r c (at_left, within, place) = (
    at_left,
    within,
    elim place [
      | inl e ↦ inl e
      | inr (s, among, in_band, in_row, first) ↦
          inr (s, Contains-append_left f.segments [] s among, in_band, in_row, first)
    ],
  )

  pub added_is_fabric : ((l : Line) → Member ls l → IsLine f l) → Pairs LinesApart ls
      → ((l m : Line) → Member f.lines l → Member ls m → LinesApart l m)
      → ((m : Mark) → Member ms m → IsMark g m) → Pairs MarksApart ms
      → ((m k : Mark) → Member f.marks m → Member ms k → MarksApart m k) → IsFabric g
  added_is_fabric fits lines_far lines_new stands marks_far marks_new = record {
    columns = lawful.columns;
    bands = lawful.bands;
    rows = lawful.rows;
    segments = subst (All (IsSegment g)) (sym no_more)
        (all_from (IsSegment g) f.segments (λ s m. let i = all_at (IsSegment f) f.segments s lawful.segments m in
        record { band = i.band; row = i.row; below = i.below; first = i.first; order = i.order; last = i.last }));
    segments_apart = subst (AllPairs SegmentsApart) (sym no_more) lawful.segments_apart;
    lines = all_from (IsLine g) (f.lines ++ ls)
        (λ l m. let i : IsLine f l =
        elim (member_append f.lines ls l m)
        [ inl k ↦ all_at (IsLine f) f.lines l lawful.lines k | inr k ↦ fits l k ] in
        record { column = i.column; right = i.right; order = i.order; last = i.last });
    lines_apart =
        pairs_all LinesApart (f.lines ++ ls)
        (pairs_append LinesApart f.lines ls
        (pairs_from LinesApart f.lines lawful.lines_apart) lines_far lines_new);
    marks = all_from (IsMark g) (f.marks ++ ms) (λ m k. elim (member_append f.marks ms m k) [
      | inl i ↦ old_stands m.tile m.band m.row m.column (all_at (IsMark f) f.marks m lawful.marks i)
      | inr i ↦ stands m i
    ]);
    marks_apart =
        pairs_all MarksApart (f.marks ++ ms)
        (pairs_append MarksApart f.marks ms
        (pairs_from MarksApart f.marks lawful.marks_apart) marks_far marks_new);
  }

-- ---- what each call asks: of a list whose pairs are apart, the next is apart from all before it
pairs_cross : {A : Type 0} (P : A → A → Type 0) (xs ys : List A) → Pairs P (xs ++ ys) → (a b : A) → Member xs a
    → Member ys b → P a b
pairs_cross P [] ys h a b m k = absurd m
pairs_cross P (x ∷ xs) ys h a b (inl e) k =
    subst (λ z. P z b) e (each_at (P x) (xs ++ ys) h.0 b (append_right xs ys b k))
pairs_cross P (x ∷ xs) ys h a b (inr m) k = pairs_cross P xs ys h.1 a b m k

in_rest : {A : Type 0} (more : List A) (i : ℕ) (x : A) → i < length more → get_or more i x ≡ x
    → Member (drop i more) x
in_rest [] i x h e = absurd (omega arith)
in_rest (y ∷ ys) zero x h e = inl e
in_rest (y ∷ ys) (suc i) x h e = in_rest ys i x (omega arith) e

pub next_apart : {A : Type 0} (P : A → A → Type 0) (old more : List A) → AllPairs P (old ++ more) → (i : ℕ) (x : A)
    → i < length more → get_or more i x ≡ x → All (λ y. P y x) (old ++ take i more)
next_apart P old more h i x lt e = all_from (λ y. P y x) (old ++ take i more)
    (λ y m. pairs_cross P (old ++ take i more) (drop i more)
    (subst (Pairs P)
    (ap (λ l. old ++ l) (sym (take-append-drop i more)) ∙ sym (append_assoc old (take i more) (drop i more)))
    (pairs_from P (old ++ more) h)) y x m (in_rest more i x lt e))
