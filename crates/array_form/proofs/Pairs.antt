-- Pairs of members of lists that are put together.
use Rattle.std.proofs.Common.{Bool, cond, filter, inl, inr, ℕ, zero, suc, ◌<◌, ◌≤◌, ◌+◌, List, [], ◌∷◌}
use Rattle.std.proofs.Common.{◌++◌, map, get_or, refl, sym, subst, arith}
use Rattle.std.specs.Prelude.{AllPairs, flat_map}
use Rattle.std.specs.List.{range_with_len}
use Rattle.std.proofs.lemmas.List.{get_or_default}
use Rattle.std.proofs.lemmas.Bool.{cases_Bool}
use Rattle.mp_base.proofs.Members.{Member, member_contains, contains_member, member_map, member_filter, range_members}
use Rattle.mp_base.proofs.Members.{member_append, member_flat}

-- pairs by recursion
abbrev pub Each : {A : Type 0} → (A → Type 0) → List A → Type 0
Each P [] = Unit {0}
Each P (x ∷ xs) = P x × Each P xs

abbrev pub Pairs : {A : Type 0} → (A → A → Type 0) → List A → Type 0
Pairs P [] = Unit {0}
Pairs P (x ∷ xs) = Each (P x) xs × Pairs P xs

pub each_at : {A : Type 0} (P : A → Type 0) (xs : List A) → Each P xs → (x : A) → Member xs x → P x
each_at P [] h x m = absurd m
each_at P (y ∷ ys) h x (inl e) = subst P e h.0
each_at P (y ∷ ys) h x (inr m) = each_at P ys h.1 x m

pub each_from : {A : Type 0} (P : A → Type 0) (xs : List A) → ((x : A) → Member xs x → P x) → Each P xs
each_from P [] h = tt
each_from P (x ∷ xs) h = (h x (inl refl), each_from P xs (λ z m. h z (inr m)))

pub pairs_all : {A : Type 0} (P : A → A → Type 0) (xs : List A) → Pairs P xs → AllPairs P xs
pairs_all P [] h i j d lt b = absurd (omega arith)
pairs_all P (x ∷ xs) h zero zero d lt b = absurd (omega arith)
pairs_all P (x ∷ xs) h zero (suc j) d lt b =
    each_at (P x) xs h.0 (get_or xs j d)
    (contains_member xs (get_or xs j d) (j, omega arith, get_or_default xs j (get_or xs j d) d (omega arith)))
pairs_all P (x ∷ xs) h (suc i) zero d lt b = absurd (omega arith)
pairs_all P (x ∷ xs) h (suc i) (suc j) d lt b = pairs_all P xs h.1 i j d (omega arith) (omega arith)

pub pairs_from : {A : Type 0} (P : A → A → Type 0) (xs : List A) → AllPairs P xs → Pairs P xs
pairs_from P [] h = tt
pairs_from P (x ∷ xs) h = (
  each_from (P x) xs (first x xs h),
  pairs_from P xs (λ i j d lt b. h (suc i) (suc j) d (omega arith) (omega arith)),
)
  where
    first : (x : _) (xs : List _) → AllPairs P (x ∷ xs) → (z : _) → Member xs z → P x z
    first x xs h z m =
        let c = member_contains xs z m in subst (P x) c.2 (h 0 (suc c.0) z (omega arith) (let b = c.1 in omega arith))

pub pairs_append : {A : Type 0} (P : A → A → Type 0) (xs ys : List A) → Pairs P xs → Pairs P ys
    → ((x y : A) → Member xs x → Member ys y → P x y) → Pairs P (xs ++ ys)
pairs_append P [] ys h k c = k
pairs_append P (x ∷ xs) ys h k c = (
  each_from (P x) (xs ++ ys)
      (λ z m. elim (member_append xs ys z m) [ inl i ↦ each_at (P x) xs h.0 z i | inr i ↦ c x z (inl refl) i ]),
  pairs_append P xs ys h.1 k (λ z w i j. c z w (inr i) j),
)

pub pairs_map_range : {A : Type 0} (P : A → A → Type 0) (g : ℕ → A) (a n : ℕ)
    → ((i j : ℕ) → a ≤ i → i < j → j < a + n → P (g i) (g j)) → Pairs P (map g (range_with_len a n))
pairs_map_range P g a zero h = tt
pairs_map_range P g a (suc n) h = (
  each_from (P (g a)) (map g (range_with_len (a + 1) n))
      (λ z m. let w = member_map g (range_with_len (a + 1) n) z m in let r = range_members (a + 1) n w.0 w.1 in
      let r0 = r.0 in let r1 = r.1 in subst (P (g a)) w.2 (h a w.0 (omega arith) (omega arith) (omega arith))),
  pairs_map_range P g (a + 1) n (λ i j lo lt hi. h i j (omega arith) lt (omega arith)),
)

pub pairs_flat_range : {A : Type 0} (P : A → A → Type 0) (g : ℕ → List A) (a n : ℕ)
    → ((i : ℕ) → a ≤ i → i < a + n → Pairs P (g i))
    → ((i j : ℕ) (x y : A) → a ≤ i → i < j → j < a + n → Member (g i) x → Member (g j) y → P x y)
    → Pairs P (flat_map g (range_with_len a n))
pairs_flat_range P g a zero one cross = tt
pairs_flat_range P g a (suc n) one cross =
    pairs_append P (g a) (flat_map g (range_with_len (a + 1) n)) (one a (omega arith) (omega arith))
    (pairs_flat_range P g (a + 1) n (λ i lo hi. one i (omega arith) (omega arith))
    (λ i j x y lo lt hi m k. cross i j x y (omega arith) lt (omega arith) m k))
    (λ x y m k. let w = member_flat g (range_with_len (a + 1) n) y k in let r = range_members (a + 1) n w.0 w.1 in
    let r0 = r.0 in let r1 = r.1 in cross a w.0 x y (omega arith) (omega arith) (omega arith) m w.2)

-- of those that pass a test
pub pairs_filter : {A : Type 0} (P : A → A → Type 0) (test : A → Bool) (xs : List A) → Pairs P xs
    → Pairs P (filter test xs)
pairs_filter P test [] h = tt
pairs_filter P test (x ∷ xs) h = elim (cases_Bool (test x)) [
  | inl e ↦ subst (λ t. Pairs P (cond t (x ∷ filter test xs) (filter test xs))) (sym e) (
    each_from (P x) (filter test xs) (λ z m. each_at (P x) xs h.0 z (member_filter test xs z m).0),
    pairs_filter P test xs h.1,
  )
  | inr e ↦ subst (λ t. Pairs P (cond t (x ∷ filter test xs) (filter test xs))) (sym e) (pairs_filter P test xs h.1)
]
