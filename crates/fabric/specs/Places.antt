-- Segments and lines in the order of their places.
use Rattle.std.specs.Prelude.{ℕ, ◌≡◌, ◌↔◌, ◌+◌, ◌*◌, ◌<◌, ◌≤◌, List, length, get_or, Contains}
use Rattle.std.specs.List.Sorted.{IsNonDecreasingBy}
use Rattle.fabric.specs.declared.thing.Side.{Side}
use Rattle.fabric.specs.declared.thing.Segment.{Segment}
use Rattle.fabric.specs.declared.thing.Line.{Line}
use Rattle.fabric.specs.declared.places.Entry.{Entry}
use Rattle.fabric.specs.declared.places.Places.{Places}
use Rattle.fabric.specs.Plan.{Plan}
use Rattle.fabric.specs.Room.{limit}
use Rattle.fabric.specs.Shape.{base}
use Rattle.fabric.specs.Drawing.{AreBases}
use Rattle.fabric.specs.Numbers.{side_number}

-- the places of a row follow each other, in the order of their columns: band, row, column
abbrev pub key_in_row : Plan → ℕ → ℕ → ℕ → ℕ
key_in_row f b r c = (base f b + 12 * r) * limit + c

-- the places on one side of a column follow each other, in the order of their bands
abbrev pub key_in_column : Side → ℕ → ℕ → ℕ
key_in_column side c b = (2 * c + side_number side) * limit + b

-- where a segment and a line begin
abbrev pub segment_key : Plan → Segment → ℕ
segment_key f s = key_in_row f s.band s.row s.first

abbrev pub line_key : Line → ℕ
line_key l = key_in_column l.side l.column l.first_band

-- the entry has the key of a thing, and its number in the list
pub record IsEntry {A : Type 0} (key : A → ℕ) (things : List A) (e : Entry) : Type 0 where
  pub thing : A
  pub below : e.number < length things
  pub is : get_or things e.number thing ≡ thing
  pub keyed : e.key ≡ key thing

abbrev pub IsInOrder : List Entry → Type 0
IsInOrder entries = IsNonDecreasingBy (λ (e : Entry). e.key) entries

-- an entry for each thing, in the order of their keys
pub record AreEntries {A : Type 0} (key : A → ℕ) (things : List A) (entries : List Entry) : Type 0 where
  pub each : (e : Entry) → Contains entries e ↔ IsEntry key things e
  pub sorted : IsInOrder entries

-- what is needed to find the segment and the line at a place
pub record ArePlaces (f : Plan) (p : Places) : Type 0 where
  pub bases : AreBases f p.bases
  pub segments : AreEntries (segment_key f) f.segments p.segments.items
  pub lines : AreEntries line_key f.lines p.lines.items

-- the number of the last entry whose key is at most a bound
pub record IsLastUpTo (entries : List Entry) (bound number : ℕ) : Type 0 where
  pub entry : Entry
  pub among : Contains entries entry
  pub numbered : entry.number ≡ number
  pub within : entry.key ≤ bound
  pub last : (e : Entry) → Contains entries e → e.key ≤ bound → e.key ≤ entry.key

-- some entry has a key of at most the bound
abbrev pub HasUpTo : List Entry → ℕ → Type 0
HasUpTo entries bound = (e : Entry) × Contains entries e × (e.key ≤ bound)
