-- Lists in an order: their parts, and one sorted from any list.
use Rattle.std.proofs.Common.{zero, suc, ◌≡◌, ◌⊎◌, inl, inr, sym, subst, ◌∙◌, arith, List, [], ◌∷◌, get_or}
use Rattle.std.specs.Prelude.{AllPairs}
use Rattle.mp_base.proofs.Decisions.{Decided}
use Rattle.mp_base.proofs.Members.{Member, member_at}

module _ {S : Type 0} (B : S → S → Type 0) where
  -- each is before those behind it
  abbrev pub Rises : List S → Type 0
  Rises [] = Unit {0}
  Rises (x ∷ xs) = ((y : S) → Member xs y → B x y) × Rises xs

  pub rising_pairs : (xs : List S) → Rises xs → AllPairs B xs
  rising_pairs [] h i j d lt k = absurd (omega (arith, k))
  rising_pairs (x ∷ xs) h zero zero d lt k = absurd (omega (arith, lt))
  rising_pairs (x ∷ xs) h zero (suc j) d lt k = h.0 (get_or xs j d) (member_at xs j d (omega (arith, k)))
  rising_pairs (x ∷ xs) h (suc i) zero d lt k = absurd (omega (arith, lt))
  rising_pairs (x ∷ xs) h (suc i) (suc j) d lt k = rising_pairs xs h.1 i j d (omega (arith, lt)) (omega (arith, k))

  -- those that are so
  abbrev kept : (P : S → Type 0) (x : S) → Decided (P x) → List S → List S
  kept P x (inl p) xs = x ∷ xs
  kept P x (inr n) xs = xs

  abbrev pub keep : (P : S → Type 0) → ((a : S) → Decided (P a)) → List S → List S
  keep P t [] = []
  keep P t (x ∷ xs) = kept P x (t x) (keep P t xs)

  module _ (P : S → Type 0) (t : (a : S) → Decided (P a)) where
    pub keep_in : (xs : List S) (a : S) → Member (keep P t xs) a → Member xs a × P a
    keep_in [] a m = absurd m
    keep_in (x ∷ xs) a m = by (t x) m (keep_in xs a)
      where
        by : (o : Decided (P x)) → Member (kept P x o (keep P t xs)) a → (Member (keep P t xs) a → Member xs a × P a)
            → Member (x ∷ xs) a × P a
        by (inl p) (inl e) again = (inl e, subst P e p)
        by (inl p) (inr m) again = let h = again m in (inr h.0, h.1)
        by (inr n) m again = let h = again m in (inr h.0, h.1)

    pub keep_has : (xs : List S) (a : S) → Member xs a → P a → Member (keep P t xs) a
    keep_has [] a m p = absurd m
    keep_has (x ∷ xs) a m p = by (t x) m (λ n. keep_has xs a n p)
      where
        by : (o : Decided (P x)) → Member (x ∷ xs) a → (Member xs a → Member (keep P t xs) a)
            → Member (kept P x o (keep P t xs)) a
        by (inl q) (inl e) again = inl e
        by (inl q) (inr m) again = inr (again m)
        by (inr n) (inl e) again = absurd (n (subst P (sym e) p))
        by (inr n) (inr m) again = again m

    pub keep_rises : (xs : List S) → Rises xs → Rises (keep P t xs)
    keep_rises [] h = tt
    keep_rises (x ∷ xs) h = by (t x) (keep_rises xs h.1)
      where
        by : (o : Decided (P x)) → Rises (keep P t xs) → Rises (kept P x o (keep P t xs))
        by (inl p) r = ((λ y m. h.0 y (keep_in xs y m).0), r)
        by (inr n) r = r

  module _ (before_then : (a b c : S) → B a b → B b c → B a c) (total : (a b : S) → B a b ⊎ (a ≡ b) ⊎ B b a) where
    -- one more, at its place
    abbrev placed : (s x : S) → B s x ⊎ (s ≡ x) ⊎ B x s → List S → List S → List S
    placed s x (inl b) xs rest = s ∷ x ∷ xs
    placed s x (inr (inl e)) xs rest = x ∷ xs
    placed s x (inr (inr b)) xs rest = x ∷ rest

    abbrev pub insert : S → List S → List S
    insert s [] = s ∷ []
    insert s (x ∷ xs) = placed s x (total s x) xs (insert s xs)

    pub insert_in : (s : S) (xs : List S) (a : S) → Member (insert s xs) a → (s ≡ a) ⊎ Member xs a
    insert_in s [] a m = m
    insert_in s (x ∷ xs) a m = by (total s x) m (insert_in s xs a)
      where
        by : (o : B s x ⊎ (s ≡ x) ⊎ B x s) → Member (placed s x o xs (insert s xs)) a
            → (Member (insert s xs) a → (s ≡ a) ⊎ Member xs a) → (s ≡ a) ⊎ Member (x ∷ xs) a
        by (inl b) m again = m
        by (inr (inl e)) m again = inr m
        by (inr (inr b)) (inl e) again = inr (inl e)
        by (inr (inr b)) (inr m) again = elim (again m) [ inl e ↦ inl e | inr k ↦ inr (inr k) ]

    pub insert_has : (s : S) (xs : List S) (a : S) → (s ≡ a) ⊎ Member xs a → Member (insert s xs) a
    insert_has s [] a m = m
    insert_has s (x ∷ xs) a m = by (total s x) m (insert_has s xs a)
      where
        by : (o : B s x ⊎ (s ≡ x) ⊎ B x s) → (s ≡ a) ⊎ Member (x ∷ xs) a
            → ((s ≡ a) ⊎ Member xs a → Member (insert s xs) a)
            → Member (placed s x o xs (insert s xs)) a
        by (inl b) m again = m
        by (inr (inl e)) (inl f) again = inl (sym e ∙ f)
        by (inr (inl e)) (inr m) again = m
        by (inr (inr b)) (inl f) again = inr (again (inl f))
        by (inr (inr b)) (inr (inl e)) again = inl e
        by (inr (inr b)) (inr (inr m)) again = inr (again (inr m))

    pub insert_rises : (s : S) (xs : List S) → Rises xs → Rises (insert s xs)
    insert_rises s [] h = ((λ y m. absurd m), tt)
    insert_rises s (x ∷ xs) h = by (total s x) (insert_rises s xs h.1)
      where
        by : (o : B s x ⊎ (s ≡ x) ⊎ B x s) → Rises (insert s xs) → Rises (placed s x o xs (insert s xs))
        by (inl b) r = ((λ y m. elim m [ inl e ↦ subst (B s) e b | inr k ↦ before_then s x y b (h.0 y k) ]), h)
        by (inr (inl e)) r = h
        by (inr (inr b)) r = ((λ y m. elim (insert_in s xs y m) [ inl e ↦ subst (B x) e b | inr k ↦ h.0 y k ]), r)

    abbrev pub sorted : List S → List S
    sorted [] = []
    sorted (x ∷ xs) = insert x (sorted xs)

    pub sorted_has : (xs : List S) (a : S) → Member xs a → Member (sorted xs) a
    sorted_has [] a m = absurd m
    sorted_has (x ∷ xs) a (inl e) = insert_has x (sorted xs) a (inl e)
    sorted_has (x ∷ xs) a (inr m) = insert_has x (sorted xs) a (inr (sorted_has xs a m))

    pub sorted_rises : (xs : List S) → Rises (sorted xs)
    sorted_rises [] = tt
    sorted_rises (x ∷ xs) = insert_rises x (sorted xs) (sorted_rises xs)
