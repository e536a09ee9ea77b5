-- Each list can be put in strict order.
use Rattle.std.proofs.Common.{◌≡◌, ◌⊎◌, ◌+◌, ◌≤◌, inl, inr, refl, sym, subst, arith}
use Rattle.std.proofs.Common.{List, [], ◌∷◌, length}
use Rattle.std.specs.Prelude.{Contains}
use Rattle.std.specs.Cmp.{IsTotalOrder}
use Rattle.std.specs.List.{AllByRecursion}
use Rattle.std.specs.List.Sorted.{IsStrictlySortedBy}
use Rattle.std.specs.Ordering.{ordering_reverse}
use Rattle.std.specs.declared.cmp.Ordering.{Ordering}
use Rattle.std.specs.declared.cmp.Ordering.TheVariants.{Equal, Greater, Less}
use Rattle.std.proofs.lemmas.Map.Keys.{sorted_tail}
use Rattle.mp_base.proofs.Contents.{contains_behind, contains_head, nothing_in, only_one}
use Rattle.slice_symbols.specs.Ordered.{EachOnce}
use Rattle.slice_symbols.proofs.InOrder.{below_rest, head_or}

module _ {X : Type 0} (cmp : X → X → Ordering) (total : IsTotalOrder cmp) (equal : (x y : X) → cmp x y ≡ Equal → x ≡ y)
  where
    -- x, put to its place among the others
    record HasPut (x : X) (ys zs : List X) : Type 0 where
      pub ascending : IsStrictlySortedBy cmp zs
      pub here : Contains zs x
      pub kept : (z : X) → Contains ys z → Contains zs z
      pub among : (z : X) → Contains zs z → (z ≡ x) ⊎ Contains ys z
      pub few : length zs ≤ length ys + 1

    each_by : (P : X → Type 0) (zs : List X) → ((z : X) → Contains zs z → P z) → AllByRecursion P zs
    each_by P [] h = tt
    each_by P (z ∷ zs) h = (h z (contains_head z zs), each_by P zs (λ w has. h w (contains_behind w z zs has)))

    sorted_under : (x : X) (zs : List X) → ((z : X) → Contains zs z → cmp x z ≡ Less) → IsStrictlySortedBy cmp zs
        → IsStrictlySortedBy cmp (x ∷ zs)
    unfolding IsStrictlySortedBy
    sorted_under x zs h s = (each_by (λ z. cmp x z ≡ Less) zs h, s)

    nothing_sorted : IsStrictlySortedBy cmp []
    unfolding IsStrictlySortedBy
    nothing_sorted = tt

    turned : (o p : Ordering) → o ≡ ordering_reverse p → p ≡ Greater → o ≡ Less
    turned o Less e f = cc
    turned o Equal e f = cc
    turned o Greater e f = e

    put : (x : X) (ys : List X) → IsStrictlySortedBy cmp ys → (zs : List X) × HasPut x ys zs
    put x [] s = (
      x ∷ [],
      record {
        ascending = sorted_under x [] (λ z has. absurd (nothing_in z has)) nothing_sorted;
        here = contains_head x [];
        kept = λ z has. absurd (nothing_in z has);
        among = λ z has. inl (sym (only_one x z has));
        few = omega arith;
      },
    )
    put x (y ∷ ys) s = by_order (cmp x y) refl (put x ys (sorted_tail cmp y ys s))
      where
        later : cmp y x ≡ Less → (zs : List X) × HasPut x ys zs → (zs : List X) × HasPut x (y ∷ ys) zs
        later below (zs, h) =
            let few = h.few in (
              y ∷ zs,
              record {
                ascending = sorted_under y zs (λ z has. elim (h.among z has) [
                  | inl e ↦ subst (λ w. cmp y w ≡ Less) (sym e) below
                  | inr c ↦ below_rest cmp total equal y z ys s c
                ]) h.ascending;
                here = contains_behind x y zs h.here;
                kept = λ z has. elim (head_or cmp total equal z y ys has) [
                  | inl e ↦ subst (Contains (y ∷ zs)) (sym e) (contains_head y zs)
                  | inr c ↦ contains_behind z y zs (h.kept z c)
                ];
                among = λ z has. elim (head_or cmp total equal z y zs has) [
                  | inl e ↦ inr (subst (Contains (y ∷ ys)) (sym e) (contains_head y ys))
                  | inr c ↦ elim (h.among z c) [ inl e ↦ inl e | inr d ↦ inr (contains_behind z y ys d) ]
                ];
                few = omega (arith, few);
              },
            )

        by_order : (o : Ordering) → cmp x y ≡ o → (zs : List X) × HasPut x ys zs → (zs : List X) × HasPut x (y ∷ ys) zs
        by_order Less e rest = (
          x ∷ y ∷ ys,
          record {
            ascending = sorted_under x (y ∷ ys) (λ z has. elim (head_or cmp total equal z y ys has) [
              | inl f ↦ subst (λ w. cmp x w ≡ Less) (sym f) e
              | inr c ↦ total.trans x y z e (below_rest cmp total equal y z ys s c)
            ]) s;
            here = contains_head x (y ∷ ys);
            kept = λ z has. contains_behind z x (y ∷ ys) has;
            among = λ z has. head_or cmp total equal z x (y ∷ ys) has;
            few = omega arith;
          },
        )
        by_order Equal e rest = (
          y ∷ ys,
          record {
            ascending = s;
            here = subst (Contains (y ∷ ys)) (sym (equal x y e)) (contains_head y ys);
            kept = λ z has. has;
            among = λ z has. inr has;
            few = omega arith;
          },
        )
        by_order Greater e rest = later (turned (cmp y x) (cmp x y) (total.antisymm y x) e) rest

    -- there is a list of the same elements in strict order
    pub put_in_order : (xs : List X) → (ys : List X) × EachOnce cmp xs ys
    put_in_order [] = (
      [],
      record {
        ascending = nothing_sorted;
        kept = λ x has. has;
        among = λ x has. has;
        few = omega arith;
      },
    )
    put_in_order (x ∷ xs) = more (put_in_order xs)
      where
        more : (ys : List X) × EachOnce cmp xs ys → (ys : List X) × EachOnce cmp (x ∷ xs) ys
        more (ys, once) =
            let p = put x ys once.ascending in
            let h = p.1 in
            let few = h.few in
            let fewer = once.few in (
              p.0,
              record {
                ascending = h.ascending;
                kept = λ z has. elim (head_or cmp total equal z x xs has) [
                  | inl e ↦ subst (Contains p.0) (sym e) h.here
                  | inr c ↦ h.kept z (once.kept z c)
                ];
                among = λ z has. elim (h.among z has) [
                  | inl e ↦ subst (Contains (x ∷ xs)) (sym e) (contains_head x xs)
                  | inr c ↦ contains_behind z x xs (once.among z c)
                ];
                few = omega (arith, few, fewer);
              },
            )
