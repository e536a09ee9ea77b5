-- A sweep over the rows.
use Rattle.std.specs.Prelude.{◌≡◌, ◌≢◌, ◌⊎◌, ℕ, ◌<◌, ◌≤◌, min, max, ℤ, pos, negsuc, ◌+ℤ◌, ◌<ℤ◌, ◌≤ℤ◌, List, [], ◌∷◌}
use Rattle.std.specs.Prelude.{◌++◌, All, Contains, Option, Some, None, length, slice_index_or}
use Rattle.lam_geom.specs.declared.layer.Layer.{Layer}
use Rattle.lam_geom.specs.declared.layer.Layer.TheVariants.{ND}
use Rattle.lam_geom.specs.declared.rect.Rect.{Rect}
use Rattle.lam_geom.specs.Squares.{Covers, Touch}
use Rattle.layer_strips.specs.declared.part.Part.{Part}
use Rattle.layer_strips.specs.declared.part.Part.TheVariants.{Body, Top}
use Rattle.layer_strips.specs.declared.event.Step.{Step}
use Rattle.layer_strips.specs.declared.event.Step.TheVariants.{Begin, Ask, Finish}
use Rattle.layer_strips.specs.declared.event.Event.{Event}

abbrev pub first : Part → Rect → ℤ
first Body r = r.y0
first Top r = r.y1

abbrev pub last : Part → Rect → ℤ
last Body r = r.y1 +ℤ negsuc 0
last Top r = r.y1

-- it has squares
pub record IsSolid (r : Rect) : Type 0 where
  pub wide : r.x0 <ℤ r.x1
  pub tall : r.y0 <ℤ r.y1

-- three times in a row
abbrev pub thrice : ℤ → ℤ
thrice z = z +ℤ z +ℤ z

abbrev pub begin : Part → ℕ → Rect → Event
begin part i r = record { time = thrice (first part r); step = Begin; index = i }

abbrev pub ask : ℕ → Rect → Event
ask i r = record { time = thrice r.y0 +ℤ pos 1; step = Ask; index = i }

abbrev pub finish : Part → ℕ → Rect → Event
finish part i r = record { time = thrice (last part r) +ℤ pos 2; step = Finish; index = i }

abbrev pub no_strip : Rect
no_strip = record { layer = ND; x0 = pos 0; y0 = pos 0; x1 = pos 0; y1 = pos 0 }

-- the strip of this number
abbrev pub strip : List Rect → ℕ → Rect
strip strips i = slice_index_or strips i no_strip

-- a number of a strip of the layer
pub record IsOf (layer : Layer) (strips : List Rect) (i : ℕ) : Type 0 where
  pub inside : i < length strips
  pub same : (strip strips i).layer ≡ layer

-- what an event of this step says
abbrev pub IsAt : Layer → Part → List Rect → Step → Event → Type 0
IsAt layer part strips Begin e = IsOf layer strips e.index × (e ≡ begin part e.index (strip strips e.index))
IsAt layer part strips Ask e = e ≡ ask e.index (strip strips e.index)
IsAt layer part strips Finish e = IsOf layer strips e.index × (e ≡ finish part e.index (strip strips e.index))

abbrev pub IsEvent : Layer → Part → List Rect → ℕ → Event → Type 0
IsEvent layer part strips count e = (e.index < count) × IsAt layer part strips e.step e

-- the events of the first strips
pub record AreEvents (layer : Layer) (part : Part) (strips : List Rect) (count : ℕ) (events : List Event) : Type 0 where
  pub each : All (IsEvent layer part strips count) events
  pub asked : (i : ℕ) → i < count → Contains events (ask i (strip strips i))
  pub begun : (i : ℕ) → i < count → (strip strips i).layer ≡ layer → Contains events (begin part i (strip strips i))
  pub finished : (i : ℕ) → i < count → (strip strips i).layer ≡ layer → Contains events (finish part i (strip strips i))

-- the events of one more strip
abbrev pub AddsEvents : Layer → Part → ℕ → Rect → List Event → List Event → Type 0
AddsEvents layer part i r old new =
    (r.layer ≡ layer)
    × (new ≡ ((old ++ ask i r ∷ []) ++ begin part i r ∷ []) ++ finish part i r ∷ []) ⊎ (r.layer ≢ layer)
    × (new ≡ old ++ ask i r ∷ [])

abbrev pub no_event : Event
no_event = record { time = pos 0; step = Begin; index = 0 }

abbrev pub event : List Event → ℕ → Event
event events n = slice_index_or events n no_event

-- all events, in the order of their times
pub record IsSchedule (layer : Layer) (part : Part) (strips : List Rect) (events : List Event) : Type 0 where
  pub whole : AreEvents layer part strips (length strips) events
  pub ascending : (i j : ℕ) → i ≤ j → j < length events → (event events i).time ≤ℤ (event events j).time

-- a square of a layer is in one strip
abbrev pub AreApart : List Rect → Type 0
AreApart strips = (i j : ℕ) (l : Layer) (x y : ℤ) → i < length strips → j < length strips
    → Covers (strip strips i) l x y → Covers (strip strips j) l x y → i ≡ j

-- strips side by side, by where they end
pub record IsRow (strips : List Rect) (row : ℤ → Option ℕ) : Type 0 where
  pub each : (k : ℤ) (i : ℕ) → row k ≡ Some i → (i < length strips) × ((strip strips i).x1 ≡ k)
  pub apart : (k m : ℤ) (i j : ℕ) → row k ≡ Some i → row m ≡ Some j → k <ℤ m → k ≤ℤ (strip strips j).x0

-- the first entry at a place of these
abbrev pub IsNext : (ℤ → Option ℕ) → (ℤ → Type 0) → Option (ℤ × ℕ) → Type 0
IsNext row Is (Some p) = (row p.0 ≡ Some p.1) × Is p.0 × ((k : ℤ) → Is k → k <ℤ p.0 → row k ≡ None)
IsNext row Is None = (k : ℤ) → Is k → row k ≡ None

-- a pair of strips that touch
pub record IsPair (strips : List Rect) (p : ℕ × ℕ) : Type 0 where
  pub order : p.0 < p.1
  pub inside : p.1 < length strips
  pub touch : Touch (strip strips p.0) (strip strips p.1)

-- pairs of strips that touch were added, at most
pub record Grows (strips : List Rect) (old new : List (ℕ × ℕ)) : Type 0 where
  pub kept : (p : ℕ × ℕ) → Contains old p → Contains new p
  pub sound : All (IsPair strips) old → All (IsPair strips) new

-- the pair of the two is there, if they touch
abbrev pub Joins : List Rect → ℕ → ℕ → List (ℕ × ℕ) → Type 0
Joins strips i j pairs = min i j < max i j → Touch (strip strips (min i j)) (strip strips (max i j))
    → Contains pairs (min i j, max i j)

-- so is that of the strip and each of the row
abbrev pub Answers : List Rect → ℕ → (ℤ → Option ℕ) → List (ℕ × ℕ) → Type 0
Answers strips i row pairs = (k : ℤ) (j : ℕ) → row k ≡ Some j → Joins strips i j pairs

-- what an event of this step does
abbrev pub Does : List Rect → Step → ℕ → (ℤ → Option ℕ) → (ℤ → Option ℕ) → List (ℕ × ℕ) → List (ℕ × ℕ) → Type 0
Does strips Begin i old new pairs more =
    (new (strip strips i).x1 ≡ Some i) × ((k : ℤ) → k ≢ (strip strips i).x1 → new k ≡ old k) × (more ≡ pairs)
Does strips Ask i old new pairs more = ((k : ℤ) → new k ≡ old k) × Grows strips pairs more × Answers strips i old more
Does strips Finish i old new pairs more =
    (new (strip strips i).x1 ≡ None) × ((k : ℤ) → k ≢ (strip strips i).x1 → new k ≡ old k) × (more ≡ pairs)

-- the strips of the layer are joined with those whose lowest row is among these rows of theirs
abbrev pub Catches : Layer → Part → List Rect → List (ℕ × ℕ) → Type 0
Catches layer part strips pairs = (i j : ℕ) → IsOf layer strips i → j < length strips
    → first part (strip strips i) ≤ℤ (strip strips j).y0 → (strip strips j).y0 ≤ℤ last part (strip strips i)
    → Joins strips j i pairs

-- the strip has begun before event n, and not finished
pub record IsLive (events : List Event) (n i : ℕ) : Type 0 where
  pub at : ℕ
  pub before : at < n
  pub begins : (event events at).step ≡ Begin
  pub own : (event events at).index ≡ i
  pub lasts : (q : ℕ) → q < n → (event events q).step ≡ Finish → (event events q).index ≢ i

-- what is known before event n
pub record IsSwept (layer : Layer) (part : Part) (strips : List Rect) (events : List Event) (n : ℕ)
    (row : ℤ → Option ℕ) (pairs : List (ℕ × ℕ)) : Type 0 where
  pub found : (k : ℤ) (i : ℕ) → row k ≡ Some i → IsLive events n i × ((strip strips i).x1 ≡ k)
  pub has : (i : ℕ) → IsLive events n i → row (strip strips i).x1 ≡ Some i
  pub caught : (m : ℕ) → m < n → (event events m).step ≡ Ask → (i : ℕ) → IsLive events m i
      → Joins strips (event events m).index i pairs
