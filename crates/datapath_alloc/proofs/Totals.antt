-- Sums over indices.
use Rattle.std.proofs.Common.{◌≡◌, ℕ, zero, suc, ◌+◌, ◌<◌, ◌≤◌, inl, inr, List, [], ◌∷◌, Some, cond, eqb, length, refl}
use Rattle.std.proofs.Common.{sym, ◌∙◌, ap, arith}
use Rattle.std.specs.Prelude.{slice_get}
use Rattle.std.specs.List.{sum_by}
use Rattle.std.specs.Option.{option_map_or}
use Rattle.std.proofs.lemmas.Bool.{eq-eqb, ne_eqb, cases_eq}
use Rattle.std.proofs.lemmas.List.Sums.{sum_by-cons}
use Rattle.datapath_alloc.specs.Spending.{total}

-- f, but 0 at i
abbrev pub zeroed : (ℕ → ℕ) → ℕ → ℕ → ℕ
zeroed f i k = cond (eqb k i) 0 (f k)

pub zeroed_at : (f : ℕ → ℕ) (i k : ℕ) → k ≡ i → zeroed f i k ≡ 0
zeroed_at f i k e = ap (λ b. cond b 0 (f k)) (eq-eqb k i e)

pub zeroed_other : (f : ℕ → ℕ) (i k : ℕ) → (k ≡ i → ⊥) → zeroed f i k ≡ f k
zeroed_other f i k ne = ap (λ b. cond b 0 (f k)) (ne_eqb k i ne)

pub total_le : (f g : ℕ → ℕ) (n : ℕ) → ((i : ℕ) → i < n → f i ≤ g i) → total f n ≤ total g n
total_le f g zero h = omega arith
total_le f g (suc n) h =
    let r = total_le f g n (λ i l. h i (omega arith)) in
    let here = h n (omega arith) in
    omega arith

pub total_add : (f g : ℕ → ℕ) (n : ℕ) → total (λ i. f i + g i) n ≡ total f n + total g n
total_add f g zero = omega arith
total_add f g (suc n) = let r = total_add f g n in omega arith

-- one that is 0 where f isn't, and f elsewhere
pub total_zeroed : (f : ℕ → ℕ) (i n : ℕ) → i < n → total f n ≡ total (zeroed f i) n + f i
total_zeroed f i zero l = absurd (omega arith)
total_zeroed f i (suc n) l =
    elim (cases_eq n i) [
      | inl e ↦ let z = zeroed_at f i n e in
          let a = still n (omega arith) in
          let same = ap f e in
          omega arith
      | inr ne ↦ let z = zeroed_other f i n ne in
          let r = total_zeroed f i n (omega arith) in
          omega arith
    ]
  where
    still : (m : ℕ) → m ≤ i → total (zeroed f i) m ≡ total f m
    still zero l = refl
    still (suc m) l =
        let r = still m (omega arith) in
        let z = zeroed_other f i m (λ q. absurd (omega arith)) in
        omega arith

-- things with numbers of their own below n: their sum is at most the whole
pub sum_distinct : {X : Type 0} (code : X → ℕ) (n : ℕ) (xs : List X) (f : ℕ → ℕ)
    → ((k : ℕ) (x : X) → slice_get xs k ≡ Some x → code x < n)
    → ((j k : ℕ) (x y : X) → slice_get xs j ≡ Some x → slice_get xs k ≡ Some y → code x ≡ code y → j ≡ k)
    → sum_by (λ x. f (code x)) xs ≤ total f n
sum_distinct code n [] f below apart = omega arith
sum_distinct {X} code n (x ∷ xs) f below apart =
    let r = sum_distinct code n xs (zeroed f (code x)) (λ k y e. below (suc k) y e)
    (λ j k y z ey ez q. let s = apart (suc j) (suc k) y z ey ez q in omega arith) in
    let whole = total_zeroed f (code x) n (below 0 x refl) in
    let c = sum_by-cons (λ y. f (code y)) x xs in
    let same = others xs (λ k y e q. let s = apart 0 (suc k) x y refl e (sym q) in absurd (omega arith)) in
    omega arith
  where
    others : (ys : List X) → ((k : ℕ) (y : X) → slice_get ys k ≡ Some y → code y ≡ code x → ⊥)
        → sum_by (λ y. zeroed f (code x) (code y)) ys ≡ sum_by (λ y. f (code y)) ys
    others [] h = refl
    others (y ∷ ys) h =
        let r = others ys (λ k z e. h (suc k) z e) in
        let here = zeroed_other f (code x) (code y) (h 0 y refl) in
        let a = sum_by-cons (λ y. zeroed f (code x) (code y)) y ys in
        let b = sum_by-cons (λ y. f (code y)) y ys in
        omega arith

-- from the front
pub total_front : (f : ℕ → ℕ) (n : ℕ) → total f (suc n) ≡ f 0 + total (λ i. f (suc i)) n
total_front f zero = omega arith
total_front f (suc n) = let r = total_front f n in omega arith

-- what f gives for entry i of a list, and 0 past its end
abbrev pub entry_sum : {X : Type 0} → (X → ℕ) → List X → ℕ → ℕ
entry_sum f xs i = option_map_or f (slice_get xs i) 0

pub total_list : {X : Type 0} (f : X → ℕ) (xs : List X) → total (entry_sum f xs) (length xs) ≡ sum_by f xs
total_list f [] = refl
total_list f (x ∷ xs) =
    let r = total_list f xs in
    let a = total_front (entry_sum f (x ∷ xs)) (length xs) in
    let b = sum_by-cons f x xs in
    omega arith

-- two sums one behind the other
pub total_behind : (f : ℕ → ℕ) (m n : ℕ) → total f (m + n) ≡ total f m + total (λ i. f (m + i)) n
total_behind f m zero = ap (total f) (let e : m + 0 ≡ m = omega arith in e) ∙ (omega arith)
total_behind f m (suc n) =
    let r = total_behind f m n in
    let e : m + suc n ≡ suc (m + n) = omega arith in
    let h = ap (total f) e in
    omega arith
