-- Heights, and where a square lies.
use Rattle.std.proofs.Common.{ℕ, zero, suc, ◌≡◌, ◌+◌, ◌-◌, ◌*◌, ◌/◌, ◌%◌, ◌<◌, ◌≤◌, inl, inr, refl, arith}
use Rattle.std.specs.Prelude.{ℤ, pos, negsuc, ◌≤ℤ◌}
use Rattle.std.proofs.lemmas.Int.{ints}
use Rattle.std.proofs.lemmas.Bool.{cases_lt}
use Rattle.std.proofs.lemmas.Nat.{div-add-mod', mod_below}
use Rattle.fabric.specs.Plan.{Plan, rows_of}
use Rattle.fabric.specs.Shape.{base}
use Rattle.fabric_laws.proofs.Tile.{Slot}

-- a number that isn't below 0 is a natural one
pub natural : (x : ℤ) (a : ℕ) → pos a ≤ℤ x → (n : ℕ) × (x ≡ pos n) × (a ≤ n)
natural (pos n) a h = (n, refl, omega (arith, ints))
natural (negsuc n) a h = absurd (omega (arith, ints))

pub record Divided (n k : ℕ) : Type 0 where
  pub quotient : ℕ
  pub rest : ℕ
  pub is : n ≡ k * quotient + rest
  pub below : rest < k

pub divided : (n k : ℕ) → 0 < k → Divided n k
divided n k h =
    let e = div-add-mod' n k in
    record { quotient = n / k; rest = n % k; is = grind arith; below = mod_below n k h }

pub record Spot (f : Plan) (k n : ℕ) : Type 0 where
  pub b : ℕ
  pub r : ℕ
  pub v : ℕ
  pub band : b < k
  pub slot : Slot f b r v
  pub is : n ≡ 500 * base f b + 6000 * r + v

-- a height below the top of so many bands lies in a row of one of them
pub spot : (f : Plan) (k n : ℕ) → n < 500 * base f k → Spot f k n
spot f zero n h = absurd (omega arith)
spot f (suc k) n h = elim (cases_lt n (500 * base f k)) [
  | inl g ↦ (let s = spot f k n g in let m = s.band in
      record { b = s.b; r = s.r; v = s.v; band = omega arith; slot = s.slot; is = s.is })
  | inr g ↦ elim (cases_lt (n - 500 * base f k) (6000 * rows_of f k)) [
    | inl m ↦ (let d = divided (n - 500 * base f k) 6000 (omega arith) in let e = d.is in let l = d.below in
        record { b = k; r = d.quotient; v = d.rest; band = omega arith; slot = inl (omega arith, l); is = omega arith })
    | inr m ↦ record {
      b = k;
      r = rows_of f k;
      v = n - 500 * base f k - 6000 * rows_of f k;
      band = omega arith;
      slot = inr (refl, omega arith);
      is = omega arith;
    }
  ]
]
