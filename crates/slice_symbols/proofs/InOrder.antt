-- Lists in strict order.
use Rattle.std.proofs.Common.{◌≡◌, ◌⊎◌, ◌≤◌, inl, inr, refl, sym, ◌∙◌, subst, arith, zero, suc}
use Rattle.std.proofs.Common.{List, [], ◌∷◌, ◌++◌, length, true}
use Rattle.std.specs.Prelude.{Contains}
use Rattle.std.specs.Cmp.{Equal-is, IsTotalOrder}
use Rattle.std.specs.List.{AllByRecursion, dedup}
use Rattle.std.specs.List.Sorted.{IsPermutation, IsSorted, IsStrictlySortedBy}
use Rattle.std.specs.Ordering.{eq_by_cmp, ordering_reverse}
use Rattle.std.specs.declared.cmp.Ordering.{Ordering}
use Rattle.std.specs.declared.cmp.Ordering.TheVariants.{Equal, Greater, Less}
use Rattle.std.proofs.lemmas.Cmp.{eq_by_cmp_equiv, tied_itself}
use Rattle.std.proofs.lemmas.List.Elements.{All-contains}
use Rattle.std.proofs.lemmas.List.Kept.{Contains-dedup, Contains-from_dedup, IsStrictlySortedBy-dedup}
use Rattle.std.proofs.lemmas.List.Sorted.{Contains-permutation, IsPermutation-sym, length_permutation}
use Rattle.std.proofs.lemmas.Map.Keys.{sorted_tail}
use Rattle.std.proofs.lemmas.Map.Views.{All-after_first}
use Rattle.mp_base.proofs.Contents.{contains_behind, contains_head, nothing_in}
use Rattle.slice_symbols.specs.Ordered.{EachOnce}

less_once : (o : Ordering) → o ≡ Less → o ≡ ordering_reverse o → ⊥
less_once Less e f = cc
less_once Equal e f = cc
less_once Greater e f = cc

less_equal : (o : Ordering) → o ≡ Less → o ≡ Equal → ⊥
less_equal o e f = cc

module _ {X : Type 0} (cmp : X → X → Ordering) (total : IsTotalOrder cmp) (equal : (x y : X) → cmp x y ≡ Equal → x ≡ y)
  where
    -- none is below itself
    pub not_below : (x : X) → cmp x x ≡ Less → ⊥
    not_below x h = less_equal (cmp x x) h (tied_itself total x)

    pub one_way : (x y : X) → cmp x y ≡ Less → cmp y x ≡ Less → ⊥
    one_way x y h g = not_below x (total.trans x y x h g)

    same : (x y : X) → eq_by_cmp cmp x y ≡ true → x ≡ y
    same x y h = equal x y ((Equal-is (cmp x y)).0 h)

    -- what is left of a sorted list without twins
    pub once_each : (xs sorted ys : List X) → IsPermutation xs sorted → IsSorted cmp sorted
        → ys ≡ dedup (eq_by_cmp cmp) sorted → length ys ≤ length sorted → EachOnce cmp xs ys
    once_each xs sorted ys p s e few =
        let n = length_permutation xs sorted p in
        record {
          ascending = subst (IsStrictlySortedBy cmp) (sym e) (IsStrictlySortedBy-dedup total (λ x y. refl) sorted s);
          kept = λ x has. subst (λ zs. Contains zs x) (sym e) (Contains-dedup (eq_by_cmp_equiv total) same sorted x
              (Contains-permutation xs sorted x p has));
          among = λ x has. Contains-permutation sorted xs x (IsPermutation-sym xs sorted p)
              (Contains-from_dedup (eq_by_cmp cmp) sorted x (subst (λ zs. Contains zs x) e has));
          few = omega (arith, few, n);
        }

    pub below_rest : (x y : X) (xs : List X) → IsStrictlySortedBy cmp (x ∷ xs) → Contains xs y → cmp x y ≡ Less
    below_rest x y xs s has = All-contains (λ q. cmp x q ≡ Less) xs y (All-after_first cmp x xs s) has

    pub head_or : (x y : X) (ys : List X) → Contains (y ∷ ys) x → (x ≡ y) ⊎ Contains ys x
    head_or x y ys (zero, l, e) = inl (sym e)
    head_or x y ys (suc k, l, e) = inr (k, omega (arith, l), e)

    -- lists in strict order with the same elements are the same
    pub one_list : (xs ys : List X) → IsStrictlySortedBy cmp xs → IsStrictlySortedBy cmp ys
        → ((x : X) → Contains xs x → Contains ys x) → ((x : X) → Contains ys x → Contains xs x) → xs ≡ ys
    one_list [] [] s t f g = refl
    one_list [] (y ∷ ys) s t f g = absurd (nothing_in y (g y (contains_head y ys)))
    one_list (x ∷ xs) [] s t f g = absurd (nothing_in x (f x (contains_head x xs)))
    one_list (x ∷ xs) (y ∷ ys) s t f g =
        let e : x ≡ y = heads (head_or x y ys (f x (contains_head x xs))) (head_or y x xs (g y (contains_head y ys))) in
        let rest : xs ≡ ys = one_list xs ys (sorted_tail cmp x xs s) (sorted_tail cmp y ys t)
        (λ z has. tail x xs y ys s e z has (head_or z y ys (f z (contains_behind z x xs has))))
        (λ z has. tail y ys x xs t (sym e) z has (head_or z x xs (g z (contains_behind z y ys has)))) in
        λ i. e i ∷ rest i
      where
        heads : (x ≡ y) ⊎ Contains ys x → (y ≡ x) ⊎ Contains xs y → x ≡ y
        heads (inl e) b = e
        heads (inr a) (inl e) = sym e
        heads (inr a) (inr b) = absurd (one_way x y (below_rest x y xs s b) (below_rest y x ys t a))

        tail : (p : X) (ps : List X) (q : X) (qs : List X) → IsStrictlySortedBy cmp (p ∷ ps) → p ≡ q → (z : X)
            → Contains ps z → (z ≡ q) ⊎ Contains qs z → Contains qs z
        tail p ps q qs u e z has (inl f) =
            absurd (not_below p (subst (λ w. cmp p w ≡ Less) (f ∙ sym e) (below_rest p z ps u has)))
        tail p ps q qs u e z has (inr c) = c

    -- one more behind all
    pub sorted_more : (xs : List X) (y : X) → IsStrictlySortedBy cmp xs → ((x : X) → Contains xs x → cmp x y ≡ Less)
        → IsStrictlySortedBy cmp (xs ++ y ∷ [])
    unfolding IsStrictlySortedBy
    sorted_more [] y s h = (tt, tt)
    sorted_more (x ∷ xs) y s h =
        (all_more xs s.0 (h x (contains_head x xs)), sorted_more xs y s.1 (λ z has. h z (contains_behind z x xs has)))
      where
        all_more : (zs : List X) → AllByRecursion (λ z. cmp x z ≡ Less) zs → cmp x y ≡ Less
            → AllByRecursion (λ z. cmp x z ≡ Less) (zs ++ y ∷ [])
        all_more [] a l = (l, tt)
        all_more (z ∷ zs) a l = (a.0, all_more zs a.1 l)
