-- Sums, and sums of products.
use Rattle.std.proofs.Common.{◌≡◌, ◌∙◌, ℕ, zero, suc, ◌+◌, ◌*◌, ◌<◌, List, [], ◌∷◌, refl, sym, ap, arith}
use Rattle.std.proofs.Common.{get_or, true}
use Rattle.std.specs.Prelude.{map, ◌==◌, if◌then◌else◌}
use Rattle.std.specs.List.{sum_by, flat_map}
use Rattle.std.proofs.lemmas.List.Sums.{sum_by-cons, sum_by-append}
use Rattle.std.proofs.lemmas.Bool.{eq-eqb, eqb-true}
use Rattle.mp_base.proofs.Induction.{by_test}
use Rattle.mp_program.specs.Sound.{AllBetween}
use Rattle.written_counts.specs.Counts.{weighed}

pub sum_flat : {X Y : Type 0} (m : Y → ℕ) (g : X → List Y) (xs : List X)
    → sum_by m (flat_map g xs) ≡ sum_by (λ x. sum_by m (g x)) xs
sum_flat m g [] = refl
sum_flat m g (x ∷ xs) = let rest = sum_flat m g xs in
    omega (arith, rest, sum_by-append m (g x) (flat_map g xs), sum_by-cons (λ y. sum_by m (g y)) x xs)

pub sum_plus : {X : Type 0} (f g : X → ℕ) (xs : List X) → sum_by (λ x. f x + g x) xs ≡ sum_by f xs + sum_by g xs
sum_plus f g [] = refl
sum_plus f g (x ∷ xs) = let rest = sum_plus f g xs in
    omega (arith, rest, sum_by-cons (λ y. f y + g y) x xs, sum_by-cons f x xs, sum_by-cons g x xs)

pub sum_behind : (i n : ℕ) (fs : List ℕ) (g h : ℕ → ℕ) → ((k : ℕ) → i < k → k < n → g k ≡ h k) → AllBetween i n fs
    → sum_by g fs ≡ sum_by h fs
sum_behind i n [] g h same fit = refl
sum_behind i n (f ∷ fs) g h same ((low, high), others) =
    let a = same f low high in let b = sum_behind i n fs g h same others in
    omega (arith, a, b, sum_by-cons g f fs, sum_by-cons h f fs)

-- ---- sums of products

pub weighed_none : (i : ℕ) (ns : List ℕ) → weighed (λ j. 0) i ns ≡ 0
weighed_none i [] = refl
weighed_none i (n ∷ ns) = let rest = weighed_none (suc i) ns in let z : 0 * n ≡ 0 = grind arith in
    omega (arith, rest, z)

pub weighed_plus : (t u : ℕ → ℕ) (i : ℕ) (ns : List ℕ)
    → weighed (λ j. t j + u j) i ns ≡ weighed t i ns + weighed u i ns
weighed_plus t u i [] = refl
weighed_plus t u i (n ∷ ns) =
    let rest = weighed_plus t u (suc i) ns in
    let here : (t i + u i) * n ≡ t i * n + u i * n = grind arith in
    omega (arith, rest, here)

pub weighed_times : (k : ℕ) (t : ℕ → ℕ) (i : ℕ) (ns : List ℕ) → weighed (λ j. k * t j) i ns ≡ k * weighed t i ns
weighed_times k t i [] = let z : k * 0 ≡ 0 = grind arith in sym z
weighed_times k t i (n ∷ ns) =
    let rest = weighed_times k t (suc i) ns in
    let here : (k * t i) * n ≡ k * (t i * n) = grind arith in
    let there : k * (t i * n + weighed t (suc i) ns) ≡ k * (t i * n) + k * weighed t (suc i) ns = grind arith in
    omega (arith, rest, here, there)

-- factors that are the same at each index
pub same_weighed : (t u : ℕ → ℕ) (i : ℕ) (ns : List ℕ) → ((j : ℕ) → t j ≡ u j) → weighed t i ns ≡ weighed u i ns
same_weighed t u i [] same = refl
same_weighed t u i (n ∷ ns) same =
    ap (λ k. k * n + weighed t (suc i) ns) (same i) ∙ ap (λ k. u i * n + k) (same_weighed t u (suc i) ns same)

-- products of sums, of the numbers that each a has
pub weighed_sum : {X : Type 0} (T : X → ℕ → ℕ) (i : ℕ) (ns : List ℕ) (xs : List X)
    → sum_by (λ a. weighed (T a) i ns) xs ≡ weighed (λ j. sum_by (λ a. T a j) xs) i ns
weighed_sum T i ns [] = sym (weighed_none i ns)
weighed_sum T i ns (x ∷ xs) =
    let rest = weighed_sum T i ns xs in
    let split = weighed_plus (T x) (λ j. sum_by (λ a. T a j) xs) i ns in
    let cons = same_weighed (λ j. sum_by (λ a. T a j) (x ∷ xs)) (λ j. T x j + sum_by (λ a. T a j) xs) i ns
    (λ j. sum_by-cons (λ a. T a j) x xs) in
    omega (arith, rest, split, cons, sum_by-cons (λ a. weighed (T a) i ns) x xs)

-- what operands count, of which each counts for itself and for the arguments in it
pub weighed_through : {X : Type 0} (f : ℕ → ℕ) (own : X → ℕ) (T : X → ℕ → ℕ) (ns : List ℕ) (i : ℕ) (xs : List X)
    → weighed f i (map (λ a. own a + weighed (T a) 0 ns) xs)
    ≡ weighed f i (map own xs) + weighed (λ j. weighed f i (map (λ a. T a j) xs)) 0 ns
weighed_through f own T ns i [] =
    let z : weighed (λ j. weighed f i (map (λ a. T a j) [])) 0 ns ≡ 0 = weighed_none 0 ns in
    let l : weighed f i (map (λ a. own a + weighed (T a) 0 ns) []) ≡ 0 = refl in
    let r : weighed f i (map own []) ≡ 0 = refl in
    omega (arith, z, l, r)
weighed_through f own T ns i (x ∷ xs) =
    let rest = weighed_through f own T ns (suc i) xs in
    let here : f i * (own x + weighed (T x) 0 ns) ≡ f i * own x + f i * weighed (T x) 0 ns = grind arith in
    let inside = weighed_times (f i) (T x) 0 ns in
    let split = weighed_plus (λ j. f i * T x j) (λ j. weighed f (suc i) (map (λ a. T a j) xs)) 0 ns in
    omega (arith, rest, here, inside, split)

-- one that occurs once counts as it is
past : (i from : ℕ) (ns : List ℕ) → i < from → weighed (λ k. if k == i then 1 else 0) from ns ≡ 0
past i from [] lt = refl
past i from (n ∷ ns) lt =
    let rest = past i (suc from) ns (omega (arith, lt)) in
    let z : 0 * n ≡ 0 = grind arith in
    by_test (from == i) (λ yes. (let e = eqb-true from i yes in absurd (omega (arith, e, lt))))
    (λ no. ap (λ b. (if b then 1 else 0) * n + weighed (λ k. if k == i then 1 else 0) (suc from) ns) no
    ∙ omega (arith, rest, z))

pub weighed_one : (d from : ℕ) (ns : List ℕ) → weighed (λ k. if k == from + d then 1 else 0) from ns ≡ get_or ns d 0
weighed_one d from [] = none d
  where
    none : (k : ℕ) → 0 ≡ get_or {A = ℕ} [] k 0
    none zero = refl
    none (suc k) = refl
weighed_one zero from (n ∷ ns) =
    let same : (from == from + 0) ≡ true = eq-eqb from (from + 0) (omega arith) in
    let rest = past (from + 0) (suc from) ns (omega arith) in
    let z : 1 * n ≡ n = grind arith in
    ap (λ b. (if b then 1 else 0) * n + weighed (λ k. if k == from + 0 then 1 else 0) (suc from) ns) same
    ∙ omega (arith, rest, z)
weighed_one (suc d) from (n ∷ ns) =
    let rest = weighed_one d (suc from) ns in
    let e : suc from + d ≡ from + suc d = omega arith in
    let there = ap (λ i. weighed (λ k. if k == i then 1 else 0) (suc from) ns) (sym e) in
    let z : 0 * n ≡ 0 = grind arith in
    by_test (from == from + suc d) (λ yes. (let bad = eqb-true from (from + suc d) yes in absurd (omega (arith, bad))))
    (λ no. ap (λ b. (if b then 1 else 0) * n + weighed (λ k. if k == from + suc d then 1 else 0) (suc from) ns) no
    ∙ omega (arith, rest, z, there))

pub sum_map : {X Y : Type 0} (v : Y → ℕ) (f : X → Y) (xs : List X) → sum_by v (map f xs) ≡ sum_by (λ x. v (f x)) xs
sum_map v f [] = refl
sum_map v f (x ∷ xs) = let rest = sum_map v f xs in
    omega (arith, rest, sum_by-cons v (f x) (map f xs), sum_by-cons (λ y. v (f y)) x xs)

pub map_map : {X Y Z : Type 0} (g : Y → Z) (f : X → Y) (xs : List X) → map g (map f xs) ≡ map (λ x. g (f x)) xs
map_map g f [] = refl
map_map g f (x ∷ xs) = ap (λ ys. g (f x) ∷ ys) (map_map g f xs)
