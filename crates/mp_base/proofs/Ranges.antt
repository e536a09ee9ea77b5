-- Lists of numbers in a row, for all crates above.
use Rattle.std.proofs.Common.{[], ℕ, ◌<◌, ◌≡◌, Some, ◌+◌, zero, arith, suc, ap, ◌∙◌, ◌++◌, ◌∷◌, subst}
use Rattle.std.proofs.Common.{sym, List, append_assoc, map, ◌≤◌, refl, ◌*◌, length}
use Rattle.std.specs.Prelude.{slice_get, flat_map}
use Rattle.std.specs.List.{range_with_len, sum_by}
use Rattle.std.proofs.lemmas.Grind.{flat_map-append}
use Rattle.std.proofs.lemmas.List.{append-nil, map-append}
use Rattle.std.proofs.lemmas.List.Sums.{sum_by-append, sum_by-cons}

pub get_range : (a n k : ℕ) → k < n → slice_get (range_with_len a n) k ≡ Some (a + k)
get_range a zero k lt = absurd (omega (arith, lt))
get_range a (suc n) zero lt = ap Some (let e : a ≡ a + 0 = omega arith in e)
get_range a (suc n) (suc k) lt = get_range (a + 1) n k (omega (arith, lt))
    ∙ ap Some (let e : a + 1 + k ≡ a + suc k = omega arith in e)

-- one number more
pub range_more : (a n : ℕ) → range_with_len a (n + 1) ≡ range_with_len a n ++ (a + n) ∷ []
range_more a zero = let e : a ≡ a + 0 = omega arith in ap (λ z. z ∷ []) e
range_more a (suc n) =
    let s : suc n + 1 ≡ suc (n + 1) = omega arith in
    let e : a + 1 + n ≡ a + suc n = omega arith in
    subst (λ z. range_with_len a z ≡ range_with_len a (suc n) ++ (a + suc n) ∷ []) (sym s)
    (ap (λ l. a ∷ l) (range_more (a + 1) n ∙ ap (λ z. range_with_len (a + 1) n ++ z ∷ []) e))

pub flat_range : {B : Type 0} (g : ℕ → List B) (n : ℕ)
    → flat_map g (range_with_len 0 (n + 1)) ≡ flat_map g (range_with_len 0 n) ++ g n
flat_range g n =
    ap (flat_map g) (range_more 0 n)
    ∙ (flat_map-append g (range_with_len 0 n) ((0 + n) ∷ [])
    ∙ ap (λ l. flat_map g (range_with_len 0 n) ++ l)
    (append-nil (g (0 + n)) ∙ ap g (let e : 0 + n ≡ n = omega arith in e)))

-- what is added at number n goes behind what was added below n
pub flat_grown : {B : Type 0} (base : List B) (g : ℕ → List B) (n : ℕ) (items more : List B)
    → items ≡ base ++ flat_map g (range_with_len 0 n) → more ≡ items ++ g n
    → more ≡ base ++ flat_map g (range_with_len 0 (n + 1))
flat_grown base g n items more a b =
    b ∙ (ap (λ l. l ++ g n) a ∙ (append_assoc base (flat_map g (range_with_len 0 n)) (g n)
    ∙ ap (λ l. base ++ l) (sym (flat_range g n))))

pub map_range : {B : Type 0} (g : ℕ → B) (n : ℕ)
    → map g (range_with_len 0 (n + 1)) ≡ map g (range_with_len 0 n) ++ g n ∷ []
map_range g n =
    ap (map g) (range_more 0 n)
    ∙ (map-append g (range_with_len 0 n) ((0 + n) ∷ [])
    ∙ ap (λ z. map g (range_with_len 0 n) ++ g z ∷ []) (let e : 0 + n ≡ n = omega arith in e))

pub map_grown : {B : Type 0} (base : List B) (g : ℕ → B) (n : ℕ) (items more : List B)
    → items ≡ base ++ map g (range_with_len 0 n) → more ≡ items ++ g n ∷ []
    → more ≡ base ++ map g (range_with_len 0 (n + 1))
map_grown base g n items more a b =
    b ∙ (ap (λ l. l ++ g n ∷ []) a ∙ (append_assoc base (map g (range_with_len 0 n)) (g n ∷ [])
    ∙ ap (λ l. base ++ l) (sym (map_range g n))))

pub map_same : {B : Type 0} (f g : ℕ → B) (a n : ℕ) → ((i : ℕ) → a ≤ i → i < a + n → f i ≡ g i)
    → map f (range_with_len a n) ≡ map g (range_with_len a n)
map_same f g a zero h = refl
map_same f g a (suc n) h =
    ap (λ z. z ∷ map f (range_with_len (a + 1) n)) (h a (omega arith) (omega arith))
    ∙ ap (λ l. g a ∷ l) (map_same f g (a + 1) n (λ i lo hi. h i (omega arith) (omega arith)))

-- lists that agree at each number below a count
pub flat_same : {B : Type 0} (f g : ℕ → List B) (a n : ℕ) → ((i : ℕ) → a ≤ i → i < a + n → f i ≡ g i)
    → flat_map f (range_with_len a n) ≡ flat_map g (range_with_len a n)
flat_same f g a zero h = refl
flat_same f g a (suc n) h =
    ap (λ l. l ++ flat_map f (range_with_len (a + 1) n)) (h a (omega arith) (omega arith))
    ∙ ap (λ l. g a ++ l) (flat_same f g (a + 1) n (λ i lo hi. h i (omega arith) (omega arith)))

pub flat_most : {A : Type 0} (size : A → ℕ) (g : ℕ → List A) (most a n : ℕ) → ((i : ℕ) → sum_by size (g i) ≤ most)
    → sum_by size (flat_map g (range_with_len a n)) ≤ n * most
flat_most size g most a zero h = omega arith
flat_most size g most a (suc n) h =
    let i = flat_most size g most (a + 1) n h in
    let s = sum_by-append size (g a) (flat_map g (range_with_len (a + 1) n)) in
    let b = h a in omega (arith, i, s, b)

pub ones : {A : Type 0} (xs : List A) → sum_by (λ (a : A). 1) xs ≡ length xs
ones [] = refl
ones (x ∷ xs) = let i = ones xs in let e = sum_by-cons (λ a. 1) x xs in omega (arith, i, e)

-- at most so many in each of n places
pub flat_count : {A : Type 0} (g : ℕ → List A) (most a n : ℕ) → ((i : ℕ) → length (g i) ≤ most)
    → length (flat_map g (range_with_len a n)) ≤ n * most
flat_count g most a n h =
    let m = flat_most (λ x. 1) g most a n (λ i. (let o = ones (g i) in let b = h i in omega (arith, o, b))) in
    let o = ones (flat_map g (range_with_len a n)) in omega (arith, m, o)

-- one number more
pub range_suc : (a n : ℕ) → range_with_len a (suc n) ≡ range_with_len a n ++ (a + n) ∷ []
range_suc a zero = ap (λ k. k ∷ []) (omega arith)
range_suc a (suc n) =
    ap (λ ks. a ∷ ks) (range_suc (a + 1) n ∙ ap (λ k. range_with_len (a + 1) n ++ k ∷ []) (omega arith))
