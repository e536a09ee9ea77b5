-- Tables that give each thing one that stands before it, or itself.
use Rattle.std.specs.Prelude.{◌≡◌, ℕ, ◌<◌, ◌≤◌, suc, zero, cond, nat_eq, slice_index_or, List, length, get_or}
use Rattle.lam_geom.specs.Chains.{Chain}
use Rattle.union_find.specs.declared.pair.Pair.{Pair}
use Rattle.union_find.specs.Leasts.{Paired}

-- no entry is greater than its place
abbrev pub IsBelow : List ℕ → Type 0
IsBelow p = (k : ℕ) → get_or p k 0 ≤ k

-- what is reached after so many steps
abbrev pub climb : ℕ → List ℕ → ℕ → ℕ
climb zero p i = i
climb (suc f) p i = climb f p (get_or p i 0)

-- what is reached at the end
unfoldable pub root : List ℕ → ℕ → ℕ
root p i = climb i p i

-- `b` in place of `a`
abbrev pub moved : ℕ → ℕ → ℕ → ℕ
moved a b c = cond (nat_eq c a) b c

-- each root is chained to its thing, and the two of each pair before the place have one root
pub record AreJoined (pairs : List Pair) (place : ℕ) (p : List ℕ) : Type 0 where
  pub below : IsBelow p
  pub home : (i : ℕ) → i < length p → Chain (Paired pairs) i (root p i)
  pub joined : (m : ℕ) (q : Pair) → m < place → slice_index_or pairs m q ≡ q → root p q.a ≡ root p q.b
