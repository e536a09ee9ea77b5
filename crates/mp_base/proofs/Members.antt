-- A member of a list, by recursion, for all crates above.
use Rattle.std.proofs.Common.{[], List, ◌∷◌, ◌≡◌, ◌⊎◌, ℕ, ◌<◌, length, get_or, arith, zero, inl, refl}
use Rattle.std.proofs.Common.{suc, inr, Contains, subst, Bool, true, ap, ◌∙◌, cond, sym, false, ◌≤◌}
use Rattle.std.proofs.Common.{◌+◌, map, ◌++◌}
use Rattle.std.specs.Prelude.{AllPairs, filter, flat_map, ◌||◌}
use Rattle.std.specs.List.{range_with_len, list_any, AllZip}
use Rattle.std.proofs.lemmas.Bool.{cases_eq}

abbrev pub Member : {A : Type 0} → List A → A → Type 0
Member [] a = ⊥
Member (x ∷ xs) a = (x ≡ a) ⊎ Member xs a

pub member_at : {A : Type 0} (xs : List A) (i : ℕ) (d : A) → i < length xs → Member xs (get_or xs i d)
member_at [] i d h = absurd (omega arith)
member_at (x ∷ xs) zero d h = inl refl
member_at (x ∷ xs) (suc i) d h = inr (member_at xs i d (omega arith))

pub member_contains : {S : Type 0} (xs : List S) (s : S) → Member xs s → Contains xs s
member_contains [] s m = absurd m
member_contains (x ∷ xs) s (inl e) = (0, omega arith, e)
member_contains (x ∷ xs) s (inr m) = let c = member_contains xs s m in (suc c.0, omega arith, c.2)

pub contains_member : {S : Type 0} (xs : List S) (s : S) → Contains xs s → Member xs s
contains_member xs s c = subst (Member xs) c.2 (member_at xs c.0 s c.1)

pub pairs_head : {S : Type 0} (B : S → S → Type 0) (x : S) (xs : List S) → AllPairs B (x ∷ xs) → (y : S) → Member xs y
    → B x y
pairs_head B x xs h y m =
    let c = member_contains xs y m in
    subst (B x) c.2 (h 0 (suc c.0) y (omega arith) (omega arith))

pub pairs_tail : {S : Type 0} (B : S → S → Type 0) (x : S) (xs : List S) → AllPairs B (x ∷ xs) → AllPairs B xs
pairs_tail B x xs h i j d l k = h (suc i) (suc j) d (omega arith) (omega arith)

-- what passes a test is in the list of what passes
pub filter_member : {A : Type 0} (p : A → Bool) (xs : List A) (a : A) → Member xs a → p a ≡ true
    → Member (filter p xs) a
filter_member p [] a m h = absurd m
filter_member p (x ∷ xs) a (inl e) h =
    let g : p x ≡ true = ap p e ∙ h in
    subst (λ z. Member (cond z (x ∷ filter p xs) (filter p xs)) a) (sym g) (inl e)
filter_member p (x ∷ xs) a (inr m) h = by_test (p x) (filter_member p xs a m h)
  where
    by_test : (z : Bool) → Member (filter p xs) a → Member (cond z (x ∷ filter p xs) (filter p xs)) a
    by_test true m = inr m
    by_test false m = m

pub member_filter : {A : Type 0} (p : A → Bool) (xs : List A) (a : A) → Member (filter p xs) a
    → Member xs a × (p a ≡ true)
member_filter p [] a m = absurd m
member_filter p (x ∷ xs) a m = by_test (p x) refl m (member_filter p xs a)
  where
    by_test : (z : Bool) → p x ≡ z → Member (cond z (x ∷ filter p xs) (filter p xs)) a
        → (Member (filter p xs) a → Member xs a × (p a ≡ true)) → Member (x ∷ xs) a × (p a ≡ true)
    by_test true e (inl g) again = (inl g, sym (ap p g) ∙ e)
    by_test true e (inr m) again = let w = again m in (inr w.0, w.1)
    by_test false e m again = let w = again m in (inr w.0, w.1)

pub range_members : (a n b : ℕ) → Member (range_with_len a n) b → (a ≤ b) × (b < a + n)
range_members a zero b m = absurd m
range_members a (suc n) b (inl e) = (omega arith, omega arith)
range_members a (suc n) b (inr m) = let w = range_members (a + 1) n b m in let u = w.0 in let v = w.1 in
    (omega arith, omega arith)

pub range_has : (a n b : ℕ) → a ≤ b → b < a + n → Member (range_with_len a n) b
range_has a zero b h k = absurd (omega arith)
range_has a (suc n) b h k = elim (cases_eq a b)
    [ inl e ↦ inl e | inr e ↦ inr (range_has (a + 1) n b (omega arith) (omega arith)) ]

pub map_member : {A B : Type 0} (g : A → B) (xs : List A) (a : A) → Member xs a → Member (map g xs) (g a)
map_member g [] a m = absurd m
map_member g (x ∷ xs) a (inl e) = inl (ap g e)
map_member g (x ∷ xs) a (inr m) = inr (map_member g xs a m)

pub member_map : {A B : Type 0} (g : A → B) (xs : List A) (b : B) → Member (map g xs) b
    → (a : A) × Member xs a × (g a ≡ b)
member_map g [] b m = absurd m
member_map g (x ∷ xs) b (inl e) = (x, inl refl, e)
member_map g (x ∷ xs) b (inr m) = let w = member_map g xs b m in (w.0, inr w.1, w.2)

-- a test that some member passes
pub any_of : {A : Type 0} (test : A → Bool) (xs : List A) (x : A) → Member xs x → test x ≡ true
    → list_any test xs ≡ true
any_of test [] x m e = absurd m
any_of test (y ∷ ys) x (inl s) e = ap (λ t. t || list_any test ys) (ap test s ∙ e)
any_of test (y ∷ ys) x (inr m) e = ap (λ t. test y || t) (any_of test ys x m e) ∙ go (test y)
  where
    go : (t : Bool) → (t || true) ≡ true
    go true = refl
    go false = refl

pub member_append : {A : Type 0} (xs ys : List A) (a : A) → Member (xs ++ ys) a → Member xs a ⊎ Member ys a
member_append [] ys a h = inr h
member_append (x ∷ xs) ys a (inl e) = inl (inl e)
member_append (x ∷ xs) ys a (inr h) = elim (member_append xs ys a h) [ inl m ↦ inl (inr m) | inr m ↦ inr m ]

pub append_left : {A : Type 0} (xs ys : List A) (a : A) → Member xs a → Member (xs ++ ys) a
append_left [] ys a h = absurd h
append_left (x ∷ xs) ys a (inl e) = inl e
append_left (x ∷ xs) ys a (inr h) = inr (append_left xs ys a h)

pub append_right : {A : Type 0} (xs ys : List A) (a : A) → Member ys a → Member (xs ++ ys) a
append_right [] ys a h = h
append_right (x ∷ xs) ys a h = inr (append_right xs ys a h)

pub member_flat : {A B : Type 0} (g : A → List B) (xs : List A) (b : B) → Member (flat_map g xs) b
    → (a : A) × Member xs a × Member (g a) b
member_flat g [] b h = absurd h
member_flat g (x ∷ xs) b h = elim (member_append (g x) (flat_map g xs) b h)
    [ inl m ↦ (x, inl refl, m) | inr m ↦ (let w = member_flat g xs b m in (w.0, inr w.1, w.2)) ]

pub flat_member : {A B : Type 0} (g : A → List B) (xs : List A) (a : A) (b : B) → Member xs a → Member (g a) b
    → Member (flat_map g xs) b
flat_member g [] a b m h = absurd m
flat_member g (x ∷ xs) a b (inl e) h = append_left (g x) (flat_map g xs) b (subst (λ z. Member (g z) b) (sym e) h)
flat_member g (x ∷ xs) a b (inr m) h = append_right (g x) (flat_map g xs) b (flat_member g xs a b m h)

pub zip_left : {A B : Type 0} (R : A → B → Type 0) (xs : List A) (ys : List B) (a : A) → AllZip R xs ys
    → Member xs a → (b : B) × Member ys b × R a b
zip_left R [] ys a z m = absurd m
zip_left R (x ∷ xs) [] a z m = absurd z
zip_left R (x ∷ xs) (y ∷ ys) a z (inl e) = (y, inl refl, subst (λ t. R t y) e z.0)
zip_left R (x ∷ xs) (y ∷ ys) a z (inr m) = let w = zip_left R xs ys a z.1 m in (w.0, inr w.1, w.2)

pub zip_right : {A B : Type 0} (R : A → B → Type 0) (xs : List A) (ys : List B) (b : B) → AllZip R xs ys
    → Member ys b → (a : A) × Member xs a × R a b
zip_right R [] [] b z m = absurd m
zip_right R [] (y ∷ ys) b z m = absurd z
zip_right R (x ∷ xs) [] b z m = absurd z
zip_right R (x ∷ xs) (y ∷ ys) b z (inl e) = (x, inl refl, subst (R x) e z.0)
zip_right R (x ∷ xs) (y ∷ ys) b z (inr m) = let w = zip_right R xs ys b z.1 m in (w.0, inr w.1, w.2)
