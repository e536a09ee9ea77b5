-- The lambda rules of nMOS, at single squares. A lambda is 500 half-units.
use Rattle.std.specs.Prelude.{◌≡◌, ◌⊎◌, ◌↔◌, ℕ, ◌+◌, ◌<◌, ◌≤◌, List, ℤ, pos, neg_ℤ, ◌+ℤ◌, ◌≤ℤ◌, ◌<ℤ◌}
use Rattle.lam_geom.specs.declared.layer.Layer.{Layer}
use Rattle.lam_geom.specs.declared.layer.Layer.TheVariants.{ND, NP, NC, NM, NB}
use Rattle.lam_geom.specs.declared.rect.Rect.{Rect}
use Rattle.lam_geom.specs.Squares.{Square, Adjoin, covered, SameSquares}
use Rattle.lam_geom.specs.Chains.{Chain}

-- the square is one of a block so many half-units a side, from its lower left corner
pub record IsInBlock (a b : ℤ) (side : ℕ) (x y : ℤ) : Type 0 where
  pub left : a ≤ℤ x
  pub right : x <ℤ (a +ℤ pos side)
  pub bottom : b ≤ℤ y
  pub top : y <ℤ (b +ℤ pos side)

-- all squares of the block are covered
abbrev pub IsWhole : (ℤ → ℤ → Type 0) → ℤ → ℤ → ℕ → Type 0
IsWhole on a b side = (x y : ℤ) → IsInBlock a b side x y → on x y

-- width: it is covered, and no wholly covered block of that side holds it
pub record IsNarrow (on : ℤ → ℤ → Type 0) (side : ℕ) (x y : ℤ) : Type 0 where
  pub here : on x y
  pub alone : (a b : ℤ) → IsInBlock a b side x y → ¬ IsWhole on a b side

-- the four directions
pub data Way : Type 0 where
  right : Way
  left : Way
  up : Way
  down : Way

abbrev pub against : Way → Way
against right = left
against left = right
against up = down
against down = up

-- the square so many further in a direction
abbrev pub to_x : Way → ℤ → ℕ → ℤ
to_x right x n = x +ℤ pos n
to_x left x n = x +ℤ neg_ℤ (pos n)
to_x up x n = x
to_x down x n = x

abbrev pub to_y : Way → ℤ → ℕ → ℤ
to_y right y n = y
to_y left y n = y
to_y up y n = y +ℤ pos n
to_y down y n = y +ℤ neg_ℤ (pos n)

abbrev pub At : (ℤ → ℤ → Type 0) → Way → ℤ → ℤ → ℕ → Type 0
At on w x y n = on (to_x w x n) (to_y w y n)

-- spacing: it lies in a run of squares that aren't covered, along a row or a column, which has a covered square at both
-- ends and is shorter than a size. `back` and `ahead` are how far off these are; the run has one square less than
-- both together
pub record IsInGap (on : ℤ → ℤ → Type 0) (w : Way) (size : ℕ) (x y : ℤ) : Type 0 where
  pub back : ℕ
  pub ahead : ℕ
  pub back_end : At on (against w) x y back
  pub ahead_end : At on w x y ahead
  pub back_open : (k : ℕ) → k < back → ¬ At on (against w) x y k
  pub ahead_open : (k : ℕ) → k < ahead → ¬ At on w x y k
  pub open_ : ¬ on x y
  pub short : back + ahead ≤ size

abbrev pub IsTight : (ℤ → ℤ → Type 0) → ℕ → ℤ → ℤ → Type 0
IsTight on size x y = IsInGap on right size x y ⊎ IsInGap on up size x y

-- the first square that way with polysilicon or diffusion has diffusion alone, and fewer than a lambda of squares lie
-- between
pub record IsNear (covers : Layer → ℤ → ℤ → Type 0) (w : Way) (x y : ℤ) : Type 0 where
  pub between : ℕ
  pub few : between < 500
  pub clear : (k : ℕ) → 1 ≤ k → k ≤ between → (¬ At (covers NP) w x y k) × ¬ At (covers ND) w x y k
  pub diffusion : At (covers ND) w x y (between + 1)
  pub bare : ¬ At (covers NP) w x y (between + 1)

pub record IsUnrelated (covers : Layer → ℤ → ℤ → Type 0) (x y : ℤ) : Type 0 where
  pub polysilicon : covers NP x y
  pub bare : ¬ covers ND x y
  pub way : Way
  pub near : IsNear covers way x y

-- the neighbour of a channel that way has neither, or is polysilicon alone that doesn't reach two lambda that way
pub data IsBad (covers : Layer → ℤ → ℤ → Type 0) (w : Way) (x y : ℤ) : Type 0 where
  nothing : ¬ At (covers NP) w x y 1 → ¬ At (covers ND) w x y 1 → IsBad covers w x y
  short : At (covers NP) w x y 1 → ¬ At (covers ND) w x y 1 → (k : ℕ) → 1 ≤ k → k ≤ 1000
      → ¬ At (covers NP) w x y k ⊎ At (covers ND) w x y k → IsBad covers w x y

pub record IsOpenGate (covers : Layer → ℤ → ℤ → Type 0) (x y : ℤ) : Type 0 where
  pub gate : covers NP x y
  pub diffusion : covers ND x y
  pub unburied : ¬ covers NB x y
  pub way : Way
  pub bad : IsBad covers way x y

-- contact cuts, and the region of one: exactly the squares of a block of two lambda
abbrev pub IsCut : (Layer → ℤ → ℤ → Type 0) → Square → Type 0
IsCut covers s = (s.layer ≡ NC) × covers NC s.x s.y

abbrev pub cut_at : ℤ → ℤ → Square
cut_at x y = record { layer = NC; x = x; y = y }

abbrev pub IsSquareCut : (Layer → ℤ → ℤ → Type 0) → ℤ → ℤ → ℤ → ℤ → Type 0
IsSquareCut covers x y a b =
    (p q : ℤ) → IsCut covers (cut_at p q) × Chain (Adjoin (IsCut covers)) (cut_at x y) (cut_at p q)
    ↔ IsInBlock a b 1000 p q

pub record IsOddCut (covers : Layer → ℤ → ℤ → Type 0) (x y : ℤ) : Type 0 where
  pub here : covers NC x y
  pub odd : (a b : ℤ) → ¬ IsSquareCut covers x y a b

-- the block around a cut, a lambda wider on each side, is wholly metal, and wholly polysilicon or wholly diffusion
abbrev pub IsSurrounded : (Layer → ℤ → ℤ → Type 0) → ℤ → ℤ → Type 0
IsSurrounded covers a b =
    let c = a +ℤ neg_ℤ (pos 500) in let d = b +ℤ neg_ℤ (pos 500) in
    IsWhole (covers NM) c d 2000 × (IsWhole (covers NP) c d 2000 ⊎ IsWhole (covers ND) c d 2000)

pub record IsBareCut (covers : Layer → ℤ → ℤ → Type 0) (x y : ℤ) : Type 0 where
  pub here : covers NC x y
  pub a : ℤ
  pub b : ℤ
  pub square : IsSquareCut covers x y a b
  pub bare : ¬ IsSurrounded covers a b

-- the rule of that number is broken at the square
abbrev pub BreaksRule : (Layer → ℤ → ℤ → Type 0) → ℕ → ℤ → ℤ → Type 0
BreaksRule covers k x y =
    (k ≡ 1) × IsNarrow (covers ND) 1000 x y
    ⊎ ((k ≡ 2) × IsNarrow (covers NP) 1000 x y
    ⊎ ((k ≡ 3) × IsNarrow (covers NM) 1500 x y
    ⊎ ((k ≡ 4) × IsTight (covers ND) 1500 x y
    ⊎ ((k ≡ 5) × IsTight (covers NP) 1000 x y
    ⊎ ((k ≡ 6) × IsTight (covers NM) 1500 x y
    ⊎ ((k ≡ 7) × IsUnrelated covers x y
    ⊎ ((k ≡ 8) × IsOpenGate covers x y
    ⊎ ((k ≡ 9) × IsOddCut covers x y
    ⊎ (k ≡ 10) × IsBareCut covers x y))))))))

-- no rule is broken at any square
abbrev pub IsClean : (Layer → ℤ → ℤ → Type 0) → Type 0
IsClean covers = (k : ℕ) (x y : ℤ) → ¬ BreaksRule covers k x y

-- the first broken rule in order of number, at its least square
pub record IsFirstBreach (covers : Layer → ℤ → ℤ → Type 0) (k : ℕ) (x y : ℤ) : Type 0 where
  pub breaks : BreaksRule covers k x y
  pub rule : (j : ℕ) (p q : ℤ) → j < k → ¬ BreaksRule covers j p q
  pub least : (p q : ℤ) → (q <ℤ y) ⊎ (q ≡ y) × (p <ℤ x) → ¬ BreaksRule covers k p q

-- a drawing has at most one first breach
abbrev pub OneBreach : Type 0
OneBreach =
    (shapes : List Rect) (k j : ℕ) (x y p q : ℤ) → IsFirstBreach (covered shapes) k x y
    → IsFirstBreach (covered shapes) j p q → (k ≡ j) × (x ≡ p) × (y ≡ q)

-- drawings that cover the same squares break the same rules at the same squares
abbrev pub SameBreaches : Type 0
SameBreaches =
    (rects shapes : List Rect) → SameSquares (covered rects) (covered shapes)
    → (k : ℕ) (x y : ℤ) → BreaksRule (covered rects) k x y → BreaksRule (covered shapes) k x y
