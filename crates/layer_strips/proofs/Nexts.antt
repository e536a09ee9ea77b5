-- The first entry of a range.
use Rattle.std.proofs.Common.{ℕ, ◌≡◌, ◌+◌, ◌-◌, ◌<◌, refl, sym, subst, arith, List, ◌∷◌, All, Option, Some, None}
use Rattle.std.specs.Prelude.{ℤ, pos, negsuc, ◌<ℤ◌, ◌≤ℤ◌}
use Rattle.std.specs.BTreeMap.{BTreeMap, get}
use Rattle.std.specs.BTreeMap.Range.{IsRangeOf, IsEntryInRange, IsFromStart, IsLeBy}
use Rattle.std.specs.Option.{IsSome, IfSome}
use Rattle.std.specs.List.{slice_get}
use Rattle.std.specs.Ordering.{int_cmp}
use Rattle.std.specs.declared.ops.Bound.{Bound}
use Rattle.std.specs.declared.ops.Bound.TheVariants.{Included, Excluded, Unbounded}
use Rattle.std.proofs.lemmas.Bool.Decides.{nat_tests}
use Rattle.std.proofs.lemmas.Int.{ints, by_lt_z}
use Rattle.std.proofs.lemmas.List.Elements.{All-head}
use Rattle.layer_strips.specs.Sweep.{IsNext}

is_some : (o : Option ℕ) (n : ℕ) → o ≡ Some n → IsSome o
is_some o n e = subst IsSome (sym e) refl

le_of : (a b : ℤ) → IsLeBy int_cmp a b → a ≤ℤ b
le_of a b h = by_lt_z b a (λ l. grind (arith, ints, nat_tests)) (λ l. l)

none_of : (o : Option ℕ) → ((n : ℕ) → o ≡ Some n → ⊥) → o ≡ None
none_of None h = refl
none_of (Some n) h = absurd (h n refl)

module _ (m : BTreeMap ℤ ℕ) (lo : Bound ℤ) (Is : ℤ → Type 0) where
  pub first_is : (r t : List (ℤ × ℕ)) (e : ℤ × ℕ) → IsRangeOf int_cmp lo Unbounded m r → r ≡ e ∷ t
      → ((k : ℤ) → Is k → IsFromStart int_cmp lo k) → (IsFromStart int_cmp lo e.0 → Is e.0)
      → IsNext (get int_cmp m) Is (Some e)
  first_is r t e h is to from =
      let one =
      All-head (IsEntryInRange int_cmp lo Unbounded m) e t
      (subst (All (IsEntryInRange int_cmp lo Unbounded m)) is h.0) in (
        one.1,
        from one.0.0,
        (λ k i l. none_of (get int_cmp m k) (λ n g.
            let b : IfSome (slice_get (e ∷ t) 0) (λ x. IsLeBy int_cmp x.0 k) =
            subst (λ z. IfSome (slice_get z 0) (λ x. IsLeBy int_cmp x.0 k)) is
            (h.2 k (to k i, tt) (is_some (get int_cmp m k) n g)) in
            let c = le_of e.0 k b in
            absurd (omega (arith, ints)))),
      )

-- what is left to count of the places
abbrev pub rest : ℤ → ℕ
rest (pos n) = 9223372036854775808 - n
rest (negsuc n) = 9223372036854775809 + n

abbrev pub height : Option (ℤ × ℕ) → ℕ
height (Some p) = rest p.0 + 1
height None = 0

rest_falls : (a b : ℤ) → a <ℤ b → a <ℤ pos 9223372036854775808 → rest b < rest a
rest_falls (pos n) (pos m) h k = omega (arith, ints)
rest_falls (pos n) (negsuc m) h k = absurd (omega (arith, ints))
rest_falls (negsuc n) (pos m) h k = omega (arith, ints)
rest_falls (negsuc n) (negsuc m) h k = omega (arith, ints)

pub falls : (row : ℤ → Option ℕ) (p : ℤ × ℕ) (next : Option (ℤ × ℕ)) → p.0 <ℤ pos 9223372036854775808
    → IsNext row (λ k. p.0 <ℤ k) next → height next < height (Some p)
falls row p None h k = omega arith
falls row p (Some q) h k = let r = rest_falls p.0 q.0 k.1 h in omega arith

pub from_included : (p k : ℤ) → IsFromStart int_cmp (Included p) k → p ≤ℤ k
from_included p k h = le_of p k h

pub to_included : (p k : ℤ) → p ≤ℤ k → IsFromStart int_cmp (Included p) k
to_included p k h = grind (arith, ints, nat_tests)

pub from_excluded : (p k : ℤ) → IsFromStart int_cmp (Excluded p) k → p <ℤ k
from_excluded p k h = by_lt_z p k (λ l. l) (λ l. grind (arith, ints, nat_tests))

pub to_excluded : (p k : ℤ) → p <ℤ k → IsFromStart int_cmp (Excluded p) k
to_excluded p k h = grind (arith, ints, nat_tests)
