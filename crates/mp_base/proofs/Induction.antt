-- Induction on numbers, up and down, and cases of a test, for all crates above.
use Rattle.std.proofs.Common.{ℕ, ◌<◌, zero, arith, suc, ◌≤◌, ◌+◌, Bool, ◌≡◌, true, false, refl}

-- what holds at k where it holds below k, holds everywhere
pub up_by : (P : ℕ → Type 0) → ((k : ℕ) → ((j : ℕ) → j < k → P j) → P k) → (m k : ℕ) → k < m → P k
up_by P step zero k lt = absurd (omega (arith, lt))
up_by P step (suc m) k lt = step k (λ j jk. up_by P step m j (omega (arith, jk, lt)))

pub upward : (P : ℕ → Type 0) → ((k : ℕ) → ((j : ℕ) → j < k → P j) → P k) → (k : ℕ) → P k
upward P step k = up_by P step (suc k) k (omega arith)

pub down_by : (P : ℕ → Type 0) (n : ℕ) → ((i : ℕ) → i < n → ((j : ℕ) → i < j → j < n → P j) → P i) → (m i : ℕ) → i < n
    → n ≤ i + m → P i
down_by P n step zero i lt le = absurd (omega (arith, lt, le))
down_by P n step (suc m) i lt le = step i lt (λ j ij jn. down_by P n step m j jn (omega (arith, ij, le)))

-- what holds at i where it holds at all greater indices below n, holds at each index below n
pub downward : (P : ℕ → Type 0) (n : ℕ) → ((i : ℕ) → i < n → ((j : ℕ) → i < j → j < n → P j) → P i) → (i : ℕ) → i < n
    → P i
downward P n step i lt = down_by P n step n i lt (omega (arith, lt))

-- by cases on a test, with the case at hand
pub by_test : {A : Type 0} (b : Bool) → (b ≡ true → A) → (b ≡ false → A) → A
by_test true f g = f refl
by_test false f g = g refl
