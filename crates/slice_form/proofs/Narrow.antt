-- Columns by the cost.
use Rattle.std.proofs.Common.{◌≡◌, ℕ, zero, suc, ◌≤◌, ◌+◌, ◌==◌, Bool, true, false, cond, not, List, [], ◌∷◌, length}
use Rattle.std.proofs.Common.{refl, sym, ◌∙◌, ap, arith, inl, inr}
use Rattle.std.specs.Prelude.{slice_get, ◌||◌, max}
use Rattle.std.specs.List.{list_any, sum_by}
use Rattle.std.proofs.lemmas.Bool.{cases_Bool}
use Rattle.std.proofs.lemmas.List.Sums.{sum_by-cons}
use Rattle.nor_net.specs.declared.net.Part.{Part}
use Rattle.nor_net.specs.declared.net.Part.TheVariants.{Input, Gate, Latch}
use Rattle.array_form.specs.Homes.{count_below, end_of}
use Rattle.array_form.proofs.Listing.{same_from}
use Rattle.slice_form.specs.Path.{Path, Carry, Programmed}
use Rattle.slice_form.specs.Slices.{control_stub, slice_stub, control_columns, slice_columns}
use Rattle.array_form.specs.Place.{part_is, is_input}
use Rattle.slice_form.specs.Slices.{columns_wanted}
use Rattle.slice_form.specs.Narrow.{active, IsNarrow}

abbrev bit : Bool → ℕ
bit t = cond t 1 0

bit_off : (t : Bool) → t ≡ false → bit t ≡ 0
bit_off t e = ap bit e

bit_on : (t : Bool) → t ≡ true → bit t ≡ 1
bit_on t e = ap bit e

bit_or : (a b : Bool) → cond (a || b) 1 0 ≤ cond a 1 0 + cond b 1 0
bit_or true b = omega arith
bit_or false b = omega arith

count_or : (a b : ℕ → Bool) (n : ℕ) → count_below (λ k. a k || b k) n ≤ count_below a n + count_below b n
count_or a b zero = omega arith
count_or a b (suc n) = let i = count_or a b n in let c = bit_or (a n) (b n) in omega arith

count_none : (a : ℕ → Bool) → ((k : ℕ) → a k ≡ false) → (n : ℕ) → count_below a n ≡ 0
count_none a h zero = refl
count_none a h (suc n) = let i = count_none a h n in let c = bit_off (a n) (h n) in omega arith

-- one number is one
count_past : (x n : ℕ) → n ≤ x → count_below (λ k. x == k) n ≡ 0
count_past x zero h = refl
count_past x (suc n) h = elim (cases_Bool (x == n)) [
  | inl e ↦ (let q = same_from x n e in absurd (omega arith))
  | inr e ↦ (let i = count_past x n (omega arith) in let c = bit_off (x == n) e in omega arith)
]

count_one : (x n : ℕ) → count_below (λ k. x == k) n ≤ 1
count_one x zero = omega arith
count_one x (suc n) = elim (cases_Bool (x == n)) [
  | inl e ↦ (let q = same_from x n e in let i = count_past x n (omega arith) in let c = bit_on (x == n) e in
      omega arith)
  | inr e ↦ (let i = count_one x n in let c = bit_off (x == n) e in omega arith)
]

-- at most as many numbers are named as there are things that name them
count_any : {A : Type 0} (at : A → ℕ) (xs : List A) (n : ℕ)
    → count_below (λ k. list_any (λ x. at x == k) xs) n ≤ length xs
count_any at [] n = let c = count_none (λ k. false) (λ k. refl) n in omega arith
count_any at (x ∷ xs) n =
    let i = count_any at xs n in let o = count_one (at x) n in
    let c = count_or (λ k. at x == k) (λ k. list_any (λ y. at y == k) xs) n in omega arith

-- gates and latches
shift : (test : ℕ → Bool) (n : ℕ) → count_below test (suc n) ≡ cond (test 0) 1 0 + count_below (λ k. test (suc k)) n
shift test zero = refl
shift test (suc n) = let i = shift test n in omega arith

count_parts : (parts : List Part) → count_below (λ k. part_is (λ q. not (is_input q)) (slice_get parts k))
    (length parts) ≡ sum_by active parts
count_parts [] = refl
count_parts (q ∷ qs) =
    shift (λ k. part_is (λ r. not (is_input r)) (slice_get (q ∷ qs) k)) (length qs)
    ∙ (ap (λ z. bit (not (is_input q)) + z) (count_parts qs)
    ∙ (ap (λ z. z + sum_by active qs) (head q) ∙ sym (sum_by-cons active q qs)))
  where
    head : (q : Part) → cond (not (is_input q)) 1 0 ≡ active q
    head Input = refl
    head (Gate ins) = refl
    head (Latch ph d) = refl

-- the path wants at most five columns more than its cost: two trunks and three phases
pub narrow : (cost : ℕ) (p : Path) → IsNarrow cost p → columns_wanted p ≤ cost + 5
narrow cost p h =
    let a = count_parts p.control in
    let b = count_none (control_stub p) h.control_used (length p.control) in
    let c = count_or (λ n. part_is (λ q. not (is_input q)) (slice_get p.control n)) (control_stub p)
    (length p.control) in
    let d = count_parts p.slice in
    let e = count_any (λ (x : Carry). x.to) p.chains (length p.slice) in
    let g = count_any (λ (x : Programmed). x.net) p.programs (length p.slice) in
    let k = count_none (slice_stub p) h.slice_used (length p.slice) in
    let o1 = count_or (λ n. part_is (λ q. not (is_input q)) (slice_get p.slice n))
    (λ n. list_any (λ (c : Carry). c.to == n) p.chains ||
    (list_any (λ (g : Programmed). g.net == n) p.programs || slice_stub p n)) (length p.slice) in
    let o2 = count_or (λ n. list_any (λ (c : Carry). c.to == n) p.chains)
    (λ n. list_any (λ (g : Programmed). g.net == n) p.programs || slice_stub p n) (length p.slice) in
    let o3 = count_or (λ n. list_any (λ (g : Programmed). g.net == n) p.programs) (slice_stub p) (length p.slice) in
    let u = h.control in let v = h.slice in
    both (suc (end_of (control_columns p) p.control)) (suc (end_of (slice_columns p) p.slice)) (cost + 5)
    (omega arith) (omega arith)
  where
    both : (x y z : ℕ) → x ≤ z → y ≤ z → max x y ≤ z
    both x y z a b = omega arith
