-- Where segments, lines and marks lie, for crates above.
use Rattle.std.proofs.Common.{ℕ, ◌≡◌, ◌<◌, ◌≤◌, ◌⊎◌, inl, inr, subst, arith}
use Rattle.std.proofs.Common.{Contains}
use Rattle.std.proofs.lemmas.List.Elements.{All-contains}
use Rattle.tile_cells.specs.declared.tile.Tile.{Tile}
use Rattle.tile_cells.specs.declared.tile.Tile.TheVariants.{TapL, TapR, Tran, PullUp, Under}
use Rattle.fabric.specs.declared.thing.Side.{Side}
use Rattle.fabric.specs.declared.thing.Side.TheVariants.{L, R}
use Rattle.fabric.specs.declared.thing.Segment.{Segment}
use Rattle.fabric.specs.declared.thing.Line.{Line}
use Rattle.fabric.specs.declared.thing.Mark.{Mark}
use Rattle.fabric.specs.Plan.{Plan, bands, rows_of, SegmentAt, Passes, IsFabric, IsSegment, IsLine, IsMark, Stands}
use Rattle.fabric.specs.Shape.{last_column}

-- the row of a tile of a mark
abbrev pub RowOf : Plan → Tile → ℕ → ℕ → Type 0
RowOf f TapL b r = r < rows_of f b
RowOf f TapR b r = r < rows_of f b
RowOf f Tran b r = r < rows_of f b
RowOf f PullUp b r = r ≡ rows_of f b
RowOf f Under b r = (r < rows_of f b) ⊎ (r ≡ rows_of f b)

pub record MarkLies (f : Plan) (t : Tile) (b r c : ℕ) : Type 0 where
  pub band : b < bands f
  pub row : RowOf f t b r
  pub column : c < last_column f

module _ (f : Plan) (w : IsFabric f) where
  pub some_rows : (b : ℕ) → b < bands f → 1 ≤ rows_of f b
  some_rows b h = w.rows b 0 h

  pub segment_lies : (s : Segment) → Contains f.segments s → IsSegment f s
  segment_lies s m = All-contains (IsSegment f) f.segments s w.segments m

  pub line_lies : (l : Line) → Contains f.lines l → IsLine f l
  line_lies l m = All-contains (IsLine f) f.lines l w.lines m

  pub record SegmentLies (b r c : ℕ) : Type 0 where
    pub band : b < bands f
    pub low : 1 ≤ r
    pub row : r < rows_of f b
    pub left : 1 ≤ c
    pub right : c < last_column f

  pub crossing : (b r c : ℕ) → SegmentAt f b r c → SegmentLies b r c
  crossing b r c s =
      let i = segment_lies s.segment s.among in
      let k = s.crosses in
      let e0 = k.band in let e1 = k.row in let e2 = k.first in let e3 = k.last in
      let i0 = i.first in let i1 = i.last in let i2 = i.row in let i3 = i.order in
      let below : r < rows_of f b = subst (λ z. r < rows_of f z) e0
      (subst (λ z. z < rows_of f s.segment.band) e1 i.below) in
      record {
        band = subst (λ z. z < bands f) e0 i.band;
        low = omega arith;
        row = below;
        left = omega arith;
        right = omega arith;
      }

  pub record LineLies (b c : ℕ) : Type 0 where
    pub band : b < bands f
    pub left : 1 ≤ c
    pub right : c < last_column f

  pub passing : (l : Line) (s : Side) (b c : ℕ) → Contains f.lines l → Passes l s b c → LineLies b c
  passing l s b c m p =
      let i = line_lies l m in
      let e0 = p.column in let e1 = p.first in let e2 = p.last in
      let i0 = i.column in let i1 = i.right in let i2 = i.order in let i3 = i.last in
      record { band = omega arith; left = omega arith; right = omega arith }

  row_or_ground : (b r c : ℕ) → b < bands f → (r ≡ 0) ⊎ SegmentAt f b r c → r < rows_of f b
  row_or_ground b r c h (inl e) = let i = some_rows b h in omega arith
  row_or_ground b r c h (inr s) = (crossing b r c s).row

  pub lies : (t : Tile) (b r c : ℕ) → Stands f t b r c → MarkLies f t b r c
  lies TapL b r c h = let l = passing h.0.line L b c h.0.among h.0.passes in
      record { band = l.band; row = row_or_ground b r c l.band h.1; column = l.right }
  lies TapR b r c h = let l = passing h.0.line R b c h.0.among h.0.passes in
      record { band = l.band; row = row_or_ground b r c l.band h.1; column = l.right }
  lies Tran b r c h = let s = crossing b r c h.2 in record { band = s.band; row = s.row; column = s.right }
  lies PullUp b r c (row, (line, among, passes, _)) =
      let l = passing line L b c among passes in record { band = l.band; row = row; column = l.right }
  lies Under b r c (e, h, inl k) = let i = w.columns in record { band = h; row = inr k; column = omega arith }
  lies Under b r c (e, h, inr (s, m, p, q, n)) =
      let i = segment_lies s m in
      let j = w.columns in
      record {
        band = h;
        row = inl (subst (λ z. r < rows_of f z) p (subst (λ z. z < rows_of f s.band) q i.below));
        column = omega arith;
      }

  pub mark_lies : (m : Mark) → Contains f.marks m → MarkLies f m.tile m.band m.row m.column
  mark_lies m h = lies m.tile m.band m.row m.column (All-contains (IsMark f) f.marks m w.marks h)
