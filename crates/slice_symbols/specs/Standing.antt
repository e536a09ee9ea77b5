-- Rectangles by the bands in which they stand.
use Rattle.std.specs.Prelude.{ℕ, ◌≡◌, ◌⊎◌, ◌+◌, ◌*◌, ◌<◌, ◌≤◌, List, length, All, Contains, Some, slice_get}
use Rattle.std.specs.List.Sorted.{IsStrictlySortedBy}
use Rattle.std.specs.Ordering.{nat_cmp, on, then_cmp}
use Rattle.std.specs.declared.cmp.Ordering.{Ordering}
use Rattle.lam_geom.specs.declared.rect.Rect.{Rect}
use Rattle.slice_symbols.specs.declared.bands.Bands.{Bands}
use Rattle.slice_symbols.specs.declared.standing.Standing.{Standing}
use Rattle.slice_symbols.specs.Heights.{IsShift, StandsIn, height_of, raised}
use Rattle.slice_symbols.specs.Ordered.{rect_cmp}

-- the rectangle itself
abbrev pub own : Bands → Standing → Rect
own b s = raised (height_of b s.band) s.first

-- by the rectangle in the first band, and then by band
abbrev pub standing_cmp : Standing → Standing → Ordering
standing_cmp = then_cmp (on (λ s. s.first) rect_cmp) (on (λ s. s.band) nat_cmp)

-- it is one of a band
pub record IsOfBand (b : Bands) (s : Standing) : Type 0 where
  pub band : s.band < b.count
  pub bottom : IsShift s.first.y0
  pub top : IsShift s.first.y1
  pub first : StandsIn b 0 s.first

-- the rectangle stands in none of the bands
abbrev pub StandsInNone : Bands → Rect → Type 0
StandsInNone b r = (k : ℕ) → k < b.count → ¬ StandsIn b k r

-- the rectangle is the own one of a standing one, or one of the rest
abbrev pub IsTold : Bands → List Standing → List Rect → Rect → Type 0
IsTold b standing rest r = Contains rest r ⊎ ((s : Standing) × Contains standing s × (own b s ≡ r))

-- the rectangles are those that stand in bands, and the rest
pub record AreStood (rects : List Rect) (b : Bands) (standing : List Standing) (rest : List Rect) : Type 0 where
  pub each : All (IsTold b standing rest) rects
  pub of_bands : All (IsOfBand b) standing
  pub held : All (λ s. Contains rects (own b s)) standing
  pub among : All (λ r. Contains rects r × StandsInNone b r) rest
  pub few : length standing + length rest ≤ length rects

-- from this place on, those of all bands are the same, in the order of the bands
abbrev pub AreAlike : List Standing → ℕ → ℕ → Rect → Type 0
AreAlike standing at count first =
    (k : ℕ) → k < count → slice_get standing (at + k) ≡ Some (record { first = first; band = k })

-- the rectangle stands alike in each band
abbrev pub IsWhole : Bands → List Standing → Rect → Type 0
IsWhole b standing c = (k : ℕ) → k < b.count → Contains standing (record { first = c; band = k })

-- what is whole is common, and the others are put to the rest
pub record AreParted (b : Bands) (standing : List Standing) (before common rest : List Rect) : Type 0 where
  pub ascending : IsStrictlySortedBy rect_cmp common
  pub whole : (c : Rect) → Contains common c → IsWhole b standing c
  pub kept : (r : Rect) → Contains before r → Contains rest r
  pub placed : (s : Standing) → Contains standing s → Contains common s.first ⊎ Contains rest (own b s)
  pub from : (r : Rect) → Contains rest r
      → Contains before r ⊎ ((s : Standing) × Contains standing s × (¬ IsWhole b standing s.first) × (own b s ≡ r))
  pub counted : length rest + b.count * length common ≡ length before + length standing

-- the rectangles are so many common ones, which stand in each band, and the rest
pub record AreShared (rects : List Rect) (b : Bands) (common rest : List Rect) : Type 0 where
  pub each : All (λ r. Contains rest r ⊎ ((c : Rect) × (k : ℕ) × Contains common c × (k < b.count)
      × (raised (height_of b k) c ≡ r))) rects
  pub alike : All (λ c. (k : ℕ) → k < b.count → Contains rects (raised (height_of b k) c)) common
  pub among : All (Contains rects) rest
  pub few : length rest + b.count * length common ≤ length rects
