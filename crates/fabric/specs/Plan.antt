-- Fabrics, and what may stand in them.
use Rattle.std.specs.Prelude.{ℕ, ◌≡◌, ◌⊎◌, ◌+◌, ◌<◌, ◌≤◌, List, [], ◌++◌, length, get_or, All, AllPairs, Contains}
use Rattle.tile_cells.specs.declared.tile.Tile.{Tile}
use Rattle.tile_cells.specs.declared.tile.Tile.TheVariants.{TapL, TapR, Tran, PullUp, Under}
use Rattle.fabric.specs.declared.thing.Side.{Side}
use Rattle.fabric.specs.declared.thing.Side.TheVariants.{L, R}
use Rattle.fabric.specs.declared.thing.Segment.{Segment}
use Rattle.fabric.specs.declared.thing.Line.{Line}
use Rattle.fabric.specs.declared.thing.Mark.{Mark}

-- a fabric: its columns, the number of signal rows of each band, and what stands in it
pub record Plan : Type 0 where
  pub columns : ℕ
  pub rows : List ℕ
  pub segments : List Segment
  pub lines : List Line
  pub marks : List Mark

abbrev pub bands : Plan → ℕ
bands f = length f.rows

abbrev pub rows_of : Plan → ℕ → ℕ
rows_of f b = get_or f.rows b 0

-- the segment crosses the column in that row
pub record Crosses (s : Segment) (b r c : ℕ) : Type 0 where
  pub band : s.band ≡ b
  pub row : s.row ≡ r
  pub first : s.first ≤ c
  pub last : c ≤ s.last

-- the line passes the signal rows of that band
pub record Passes (l : Line) (side : Side) (b c : ℕ) : Type 0 where
  pub column : l.column ≡ c
  pub at_side : l.side ≡ side
  pub first : l.first_band ≤ b
  pub last : b ≤ l.last_band

-- it passes the pull-up row of that band too: it goes on in the next band
abbrev pub GoesOn : Line → ℕ → Type 0
GoesOn l b = b < l.last_band

pub record SegmentAt (f : Plan) (b r c : ℕ) : Type 0 where
  pub segment : Segment
  pub among : Contains f.segments segment
  pub crosses : Crosses segment b r c

pub record LineAt (f : Plan) (side : Side) (b c : ℕ) : Type 0 where
  pub line : Line
  pub among : Contains f.lines line
  pub passes : Passes line side b c

pub record IsSegment (f : Plan) (s : Segment) : Type 0 where
  pub band : s.band < bands f
  pub row : 1 ≤ s.row
  pub below : s.row < rows_of f s.band
  pub first : 1 ≤ s.first
  pub order : s.first ≤ s.last
  pub last : s.last + 1 < f.columns

pub record IsLine (f : Plan) (l : Line) : Type 0 where
  pub column : 1 ≤ l.column
  pub right : l.column + 1 < f.columns
  pub order : l.first_band ≤ l.last_band
  pub last : l.last_band < bands f

-- two segments of one row have a column between them
abbrev pub SegmentsApart : Segment → Segment → Type 0
SegmentsApart s t = s.band ≡ t.band → s.row ≡ t.row → (s.last + 1 < t.first) ⊎ (t.last + 1 < s.first)

-- two lines of one side of a column share no band
abbrev pub LinesApart : Line → Line → Type 0
LinesApart l m = l.column ≡ m.column → l.side ≡ m.side → (l.last_band < m.first_band) ⊎ (m.last_band < l.first_band)

-- a line on the left side of the column has its last band here
abbrev pub EndsAt : Plan → ℕ → ℕ → Type 0
EndsAt f b c = (l : Line) × Contains f.lines l × Passes l L b c × (l.last_band ≡ b)

-- a segment of the row begins in column 1
abbrev pub BeginsAt : Plan → ℕ → ℕ → Type 0
BeginsAt f b r = (s : Segment) × Contains f.segments s × (s.band ≡ b) × (s.row ≡ r) × (s.first ≡ 1)

-- where a tile may stand: `Stands f tile b r c`
abbrev pub Stands : Plan → Tile → ℕ → ℕ → ℕ → Type 0
Stands f TapL b r c = LineAt f L b c × ((r ≡ 0) ⊎ SegmentAt f b r c)
Stands f TapR b r c = LineAt f R b c × ((r ≡ 0) ⊎ SegmentAt f b r c)
Stands f Tran b r c = LineAt f L b c × LineAt f R b c × SegmentAt f b r c
Stands f PullUp b r c = (r ≡ rows_of f b) × EndsAt f b c
Stands f Under b r c = (c ≡ 0) × (b < bands f) × ((r ≡ rows_of f b) ⊎ BeginsAt f b r)

abbrev pub IsMark : Plan → Mark → Type 0
IsMark f m = Stands f m.tile m.band m.row m.column

-- two marks do not stand at one place
abbrev pub MarksApart : Mark → Mark → Type 0
MarksApart m n = m.band ≡ n.band → m.row ≡ n.row → ¬ (m.column ≡ n.column)

-- the conditions of a fabric
pub record IsFabric (f : Plan) : Type 0 where
  pub columns : 3 ≤ f.columns
  pub bands : 1 ≤ length f.rows
  pub rows : All (λ r. 1 ≤ r) f.rows
  pub segments : All (IsSegment f) f.segments
  pub segments_apart : AllPairs SegmentsApart f.segments
  pub lines : All (IsLine f) f.lines
  pub lines_apart : AllPairs LinesApart f.lines
  pub marks : All (IsMark f) f.marks
  pub marks_apart : AllPairs MarksApart f.marks

-- a fabric in which nothing stands
abbrev pub empty : ℕ → List ℕ → Plan
empty columns rows = record { columns = columns; rows = rows; segments = []; lines = []; marks = [] }

-- a fabric with more in it
abbrev pub with_added : Plan → List Segment → List Line → List Mark → Plan
with_added f segments lines marks = record {
  columns = f.columns;
  rows = f.rows;
  segments = f.segments ++ segments;
  lines = f.lines ++ lines;
  marks = f.marks ++ marks;
}
