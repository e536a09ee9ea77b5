-- Where neighbouring squares lie.
use Rattle.std.proofs.Common.{ℕ, suc, ◌≡◌, ◌+◌, ◌<◌, inl, inr, sym, subst, arith}
use Rattle.std.specs.Prelude.{ℤ, pos, ◌+ℤ◌}
use Rattle.std.proofs.lemmas.Int.{ints}
use Rattle.std.proofs.lemmas.Bool.{cases_lt}
use Rattle.fabric.specs.Plan.{Plan, rows_of}
use Rattle.fabric_laws.proofs.Tile.{Slot, At}
use Rattle.fabric.proofs.Bases.{bands_lie}

pub record SameTile (b r c b2 r2 c2 : ℕ) : Type 0 where
  pub band : b ≡ b2
  pub row : r ≡ r2
  pub column : c ≡ c2

-- tiles side by side
pub record RightTile (b r c b2 r2 c2 : ℕ) : Type 0 where
  pub band : b ≡ b2
  pub row : r ≡ r2
  pub column : c2 ≡ c + 1

-- tiles of two rows of one band, the second upon the first
pub record UpperTile (f : Plan) (b r c b2 r2 c2 : ℕ) : Type 0 where
  pub band : b ≡ b2
  pub within : r < rows_of f b
  pub row : r2 ≡ r + 1
  pub column : c ≡ c2

-- a tile of a pull-up row, and the one of the next band upon it
pub record NextBand (f : Plan) (b r c b2 r2 c2 : ℕ) : Type 0 where
  pub last : r ≡ rows_of f b
  pub band : b2 ≡ suc b
  pub row : r2 ≡ 0
  pub column : c ≡ c2

pub move : (P : ℕ → ℕ → ℕ → Type 0) {b r c b2 r2 c2 : ℕ} → SameTile b r c b2 r2 c2 → P b r c → P b2 r2 c2
move P {b} {r} {c} {b2} {r2} {c2} t p = subst (λ z. P z r2 c2) t.band
    (subst (λ z. P b z c2) t.row (subst (λ z. P b r z) t.column p))

pub back : {b r c b2 r2 c2 : ℕ} → SameTile b r c b2 r2 c2 → SameTile b2 r2 c2 b r c
back t = record { band = sym t.band; row = sym t.row; column = sym t.column }

-- a square is at one place of one tile
pub record SamePlace (b r c u v b2 r2 c2 u2 v2 : ℕ) : Type 0 where
  pub tile : SameTile b r c b2 r2 c2
  pub across : u ≡ u2
  pub up : v ≡ v2

pub same_place : (f : Plan) (b r c u v b2 r2 c2 u2 v2 : ℕ) (x y : ℤ) → At f b r c u v x y → At f b2 r2 c2 u2 v2 x y
    → SamePlace b r c u v b2 r2 c2 u2 v2
same_place f b r c u v b2 r2 c2 u2 v2 x y a d =
    let z = bands_lie f b b2 in
    let a0 = a.slot in let a1 = a.at_x in let a2 = a.at_y in let a3 = a.in_x in
    let d0 = d.slot in let d1 = d.at_x in let d2 = d.at_y in let d3 = d.in_x in
    record {
      tile = record { band = omega (arith, ints); row = omega (arith, ints); column = omega (arith, ints) };
      across = omega (arith, ints);
      up = omega (arith, ints);
    }

-- the right neighbour
pub data ToRight (b r c u v b2 r2 c2 u2 v2 : ℕ) : Type 0 where
  inside : SameTile b r c b2 r2 c2 → u2 ≡ u + 1 → v ≡ v2 → ToRight b r c u v b2 r2 c2 u2 v2
  across : RightTile b r c b2 r2 c2 → u ≡ 9999 → u2 ≡ 0 → v ≡ v2 → ToRight b r c u v b2 r2 c2 u2 v2

pub to_right : (f : Plan) (b r c u v b2 r2 c2 u2 v2 : ℕ) (x y z : ℤ) → z ≡ x +ℤ pos 1 → At f b r c u v x y
    → At f b2 r2 c2 u2 v2 z y → ToRight b r c u v b2 r2 c2 u2 v2
to_right f b r c u v b2 r2 c2 u2 v2 x y z e a d =
    let l = bands_lie f b b2 in
    let a0 = a.slot in let a1 = a.at_x in let a2 = a.at_y in let a3 = a.in_x in
    let d0 = d.slot in let d1 = d.at_x in let d2 = d.at_y in let d3 = d.in_x in
    elim (cases_lt u 9999) [
      | inl h ↦ inside (record { band = omega (arith, ints); row = omega (arith, ints); column = omega (arith, ints) })
          (omega (arith, ints)) (omega (arith, ints))
      | inr h ↦ across (record { band = omega (arith, ints); row = omega (arith, ints); column = omega (arith, ints) })
          (omega (arith, ints)) (omega (arith, ints)) (omega (arith, ints))
    ]

-- the upper neighbour
pub data Upward (f : Plan) (b r c u v b2 r2 c2 u2 v2 : ℕ) : Type 0 where
  inside : SameTile b r c b2 r2 c2 → u ≡ u2 → v2 ≡ v + 1 → Upward f b r c u v b2 r2 c2 u2 v2
  upper : UpperTile f b r c b2 r2 c2 → u ≡ u2 → v ≡ 5999 → v2 ≡ 0 → Upward f b r c u v b2 r2 c2 u2 v2
  next : NextBand f b r c b2 r2 c2 → u ≡ u2 → v ≡ 17999 → v2 ≡ 0 → Upward f b r c u v b2 r2 c2 u2 v2

pub upward : (f : Plan) (b r c u v b2 r2 c2 u2 v2 : ℕ) (x y z : ℤ) → z ≡ y +ℤ pos 1 → At f b r c u v x y
    → At f b2 r2 c2 u2 v2 x z → Upward f b r c u v b2 r2 c2 u2 v2
upward f b r c u v b2 r2 c2 u2 v2 x y z e a d = go a.slot
  where
    go : Slot f b r v → Upward f b r c u v b2 r2 c2 u2 v2
    go (inl s) =
        let l = bands_lie f b b2 in
        let s0 = s.0 in let s1 = s.1 in
        let a1 = a.at_x in let a2 = a.at_y in let a3 = a.in_x in
        let d0 = d.slot in let d1 = d.at_x in let d2 = d.at_y in let d3 = d.in_x in
        elim (cases_lt v 5999) [
          | inl h ↦ inside (record {
            band = omega (arith, ints);
            row = omega (arith, ints);
            column = omega (arith, ints);
          }) (omega (arith, ints)) (omega (arith, ints))
          | inr h ↦ upper (record {
            band = omega (arith, ints);
            within = s.0;
            row = omega (arith, ints);
            column = omega (arith, ints);
          }) (omega (arith, ints)) (omega (arith, ints)) (omega (arith, ints))
        ]
    go (inr s) =
        let l = bands_lie f b b2 in
        let m = bands_lie f b2 (suc b) in
        let s0 = s.0 in let s1 = s.1 in
        let a1 = a.at_x in let a2 = a.at_y in let a3 = a.in_x in
        let d0 = d.slot in let d1 = d.at_x in let d2 = d.at_y in let d3 = d.in_x in
        elim (cases_lt v 17999) [
          | inl h ↦ inside (record {
            band = omega (arith, ints);
            row = omega (arith, ints);
            column = omega (arith, ints);
          }) (omega (arith, ints)) (omega (arith, ints))
          | inr h ↦ next (record {
            last = s.0;
            band = omega (arith, ints);
            row = omega (arith, ints);
            column = omega (arith, ints);
          }) (omega (arith, ints)) (omega (arith, ints)) (omega (arith, ints))
        ]
