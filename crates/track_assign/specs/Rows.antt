-- Rows as they are filled, by the last columns that they end at.
use Rattle.std.specs.Prelude.{◌≡◌, ◌≢◌, ℕ, suc, ◌+◌, ◌<◌, ◌≤◌, List, [], ◌∷◌, ◌++◌, length, ◌&&◌, nat_le, if◌then◌else◌}
use Rattle.std.specs.Prelude.{slice_index, slice_index_or, slice_set, All}
use Rattle.std.specs.List.{sum_by}
use Rattle.track_assign.specs.declared.packing.Interval.{Interval}
use Rattle.track_assign.specs.declared.rows.Entry.{Entry}

abbrev pub entry_over : ℕ → Entry → ℕ
entry_over column e = if nat_le e.first column && nat_le column e.end then 1 else 0

-- how many of these lie over a column
abbrev pub over : ℕ → List Entry → ℕ
over column entries = sum_by (entry_over column) entries

abbrev pub reaches : ℕ → ℕ → ℕ
reaches column end = if nat_le column end then 1 else 0

-- how many rows end at a column or after it
abbrev pub reaching : ℕ → List ℕ → ℕ
reaching column ends = sum_by (reaches column) ends

-- the row ends before the column, or no row does
pub data IsFreeRow (ends : List ℕ) (first row : ℕ) : Type 0 where
  free : row < length ends → slice_index ends row < first → IsFreeRow ends first row
  none : row ≡ length ends → All (λ end. first ≤ end) ends → IsFreeRow ends first row

-- an interval was put into a row that ended before it, or into a new one
pub data IsPlaced (old : List ℕ) (column : ℕ) (e : Entry) (new : List ℕ) (later row : ℕ) : Type 0 where
  taken : row < length old → slice_index old row < e.first
      → new ≡ slice_set old row e.end → later ≡ column → IsPlaced old column e new later row
  opened : row ≡ length old → All (λ end. e.first ≤ end) old
      → new ≡ old ++ e.end ∷ [] → later ≡ e.first → IsPlaced old column e new later row

-- the intervals are in the order of their first columns, and none is empty
pub record AreAscending (entries : List Entry) : Type 0 where
  pub ascend : (i j : ℕ) (d : Entry) → i ≤ j → j < length entries
      → (slice_index_or entries i d).first ≤ (slice_index_or entries j d).first
  pub some : All (λ e. e.first ≤ e.end) entries

-- no two have one index
abbrev pub AreDistinct : List Entry → Type 0
AreDistinct entries = (i j : ℕ) (d : Entry) → i < j → j < length entries
    → (slice_index_or entries i d).index ≢ (slice_index_or entries j d).index

-- these intervals are in rows that end so; in no row two meet, and as many as there are rows lie over the column
pub record IsPacking (entries : List Entry) (rows ends : List ℕ) (column : ℕ) : Type 0 where
  pub long : length rows ≡ length entries
  pub inside : (i : ℕ) → i < length rows → slice_index rows i < length ends
  pub apart : (i j : ℕ) (d : Entry) → i < j → j < length entries → slice_index rows i ≡ slice_index rows j
      → (slice_index_or entries i d).end < (slice_index_or entries j d).first
  pub most : (c : ℕ) → over c entries ≤ length ends
  pub reached : over column entries ≡ length ends
  pub least : (c : ℕ) → c < column → over c entries < length ends

-- the rows are told at the indices of the intervals
abbrev pub AreAt : List ℕ → List Entry → List ℕ → Type 0
AreAt told entries rows = (i : ℕ) (d : Entry) → i < length entries
    → slice_index told (slice_index_or entries i d).index ≡ slice_index rows i

-- the intervals are packed, with the row of each told at its index
pub record ArePacked (entries : List Entry) (told ends : List ℕ) (column : ℕ) : Type 0 where
  pub rows : List ℕ
  pub packing : IsPacking entries rows ends column
  pub at : AreAt told entries rows

-- an interval, lengthened by one column, with its index
abbrev pub entry : Interval → ℕ → Entry
entry i k = record { first = i.first; end = i.last + 1; index = k }

-- those of intervals, of which the first has this index
abbrev pub entries_from : ℕ → List Interval → List Entry
entries_from k [] = []
entries_from k (i ∷ is) = entry i k ∷ entries_from (suc k) is
