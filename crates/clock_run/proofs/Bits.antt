-- One more bit of a word.
use Rattle.std.proofs.Common.{◌≡◌, ◌≢◌, ◌∙◌, ℕ, ◌+◌, ◌<◌, ◌≤◌, ◌^◌, ◌%◌, Bool, true, false, cond, eqb, max, min, refl}
use Rattle.std.proofs.Common.{sym, ap, arith}
use Rattle.std.specs.Prelude.{bit_and, bit_or}
use Rattle.std.specs.Int.{bit_at}
use Rattle.std.proofs.Math.Nat.{div-eq_of_lt}
use Rattle.std.proofs.lemmas.Nat.{or_lt, and_le_r, pow_pos, pow_below}
use Rattle.std.proofs.lemmas.Nat.Bits.{bit_at_and, bit_at_or, bit_at-pow_same, bit_at-pow_other, bit_at-zero}
use Rattle.std.proofs.lemmas.Nat.Bits.{same_from_bits}
use Rattle.mp_base.specs.declared.value.Trit.{Trit}
use Rattle.mp_base.specs.declared.value.Trit.TheVariants.{Zero, One, X}
use Rattle.mp_base.specs.PadBits.{trit_of}
use Rattle.clock_run.specs.Words.{is_known, is_one}

-- a bit past a number's width
pub bit_past : (n k : ℕ) → n < 2 ^ k → bit_at n k ≡ 0
bit_past n k h = ap (λ q. q % 2) (div-eq_of_lt h)

abbrev pub trit : ℕ → ℕ → ℕ → Trit
trit known bits k = cond (eqb (bit_at known k) 1) (trit_of (bit_at bits k)) X

abbrev pub flag : Bool → ℕ → ℕ
flag set k = cond set (2 ^ k) 0

flag_other : (set : Bool) (k j : ℕ) → j ≢ k → bit_at (flag set k) j ≡ 0
flag_other true k j d = bit_at-pow_other k j d
flag_other false k j d = bit_at-zero j

flag_same : (set : Bool) (k : ℕ) → bit_at (flag set k) k ≡ cond set 1 0
flag_same true k = bit_at-pow_same k
flag_same false k = bit_at-zero k

flag_below : (set : Bool) (k : ℕ) → flag set k < 2 ^ (k + 1)
flag_below true k = pow_below k (k + 1) (omega arith)
flag_below false k = pow_pos (k + 1)

pub flagged_narrow : (n k : ℕ) (set : Bool) → n < 2 ^ k → bit_or n (flag set k) < 2 ^ (k + 1)
flagged_narrow n k set h =
    or_lt (k + 1) n (flag set k) (let l = pow_below k (k + 1) (omega arith) in omega (arith, h, l)) (flag_below set k)

flagged_other : (n k j : ℕ) (set : Bool) → j < k → bit_at (bit_or n (flag set k)) j ≡ bit_at n j
flagged_other n k j set lt =
    bit_at_or n (flag set k) j ∙ ap (λ x. max (bit_at n j) x) (flag_other set k j (λ e. omega (arith, e, lt)))
    ∙ (omega arith)

flagged_same : (n k : ℕ) (set : Bool) → n < 2 ^ k → bit_at (bit_or n (flag set k)) k ≡ cond set 1 0
flagged_same n k set h =
    bit_at_or n (flag set k) k ∙ ap (λ x. max x (bit_at (flag set k) k)) (bit_past n k h)
    ∙ ap (λ x. max 0 x) (flag_same set k) ∙ least set
  where
    least : (b : Bool) → max 0 (cond b 1 0) ≡ cond b 1 0
    least true = refl
    least false = refl

pub trit_below : (known bits k j : ℕ) (a b : Bool) → j < k
    → trit (bit_or known (flag a k)) (bit_or bits (flag b k)) j ≡ trit known bits j
trit_below known bits k j a b lt =
    ap (λ x. cond (eqb x 1) (trit_of (bit_at (bit_or bits (flag b k)) j)) X) (flagged_other known k j a lt)
    ∙ ap (λ x. cond (eqb (bit_at known j) 1) (trit_of x) X) (flagged_other bits k j b lt)

pub trit_here : (known bits k : ℕ) (value : Trit) → known < 2 ^ k → bits < 2 ^ k
    → trit (bit_or known (flag (is_known value) k)) (bit_or bits (flag (is_one value) k)) k ≡ value
trit_here known bits k value h g =
    ap (λ x. cond (eqb x 1) (trit_of (bit_at (bit_or bits (flag (is_one value) k)) k)) X)
    (flagged_same known k (is_known value) h)
    ∙ ap (λ x. cond (eqb (cond (is_known value) 1 0) 1) (trit_of x) X) (flagged_same bits k (is_one value) g)
    ∙ told value
  where
    told : (v : Trit) → cond (eqb (cond (is_known v) 1 0) 1) (trit_of (cond (is_one v) 1 0)) X ≡ v
    told Zero = refl
    told One = refl
    told X = refl

pub bits_small : (known bits k : ℕ) → bit_and bits known ≡ bits → known < 2 ^ k → bits < 2 ^ k
bits_small known bits k e h = let l : bit_and bits known ≤ known = and_le_r bits known in omega (arith, e, h, l)

flags_fit : (v : Trit) (k i : ℕ) → bit_at (flag (is_one v) k) i ≤ bit_at (flag (is_known v) k) i
flags_fit Zero k i = let e = bit_at-zero i in omega (arith, e)
flags_fit One k i = omega arith
flags_fit X k i = omega arith

pub still_masked : (known bits k : ℕ) (v : Trit) → bit_and bits known ≡ bits
    → bit_and (bit_or bits (flag (is_one v) k)) (bit_or known (flag (is_known v) k)) ≡ bit_or bits (flag (is_one v) k)
still_masked known bits k v e = same_from_bits _ _ (λ i.
    let b = bit_at bits i in
    let f = bit_at (flag (is_known v) k) i in
    let g = bit_at (flag (is_one v) k) i in
    let m : min (bit_at bits i) (bit_at known i) ≡ bit_at bits i =
    sym (bit_at_and bits known i) ∙ ap (λ x. bit_at x i) e in
    let t : g ≤ f = flags_fit v k i in
    bit_at_and (bit_or bits (flag (is_one v) k)) (bit_or known (flag (is_known v) k)) i
    ∙ ap (λ x. min x (bit_at (bit_or known (flag (is_known v) k)) i)) (bit_at_or bits (flag (is_one v) k) i)
    ∙ ap (λ x. min (max b g) x) (bit_at_or known (flag (is_known v) k) i)
    ∙ less (bit_at bits i) (bit_at known i) g f m t
    ∙ sym (bit_at_or bits (flag (is_one v) k) i))
  where
    less : (b k g f : ℕ) → min b k ≡ b → g ≤ f → min (max b g) (max k f) ≡ max b g
    less b k g f m t = omega arith
