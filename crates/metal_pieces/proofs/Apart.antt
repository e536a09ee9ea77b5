-- Rectangles that are spaced have no square and no edge in common, and so have pieces of such, for all crates above.
use Rattle.std.proofs.Common.{◌≡◌, ◌⊎◌, inl, inr, refl, List, [], ◌∷◌, subst, arith}
use Rattle.std.specs.Prelude.{ℤ, pos, ◌+ℤ◌, ◌≤ℤ◌, Contains}
use Rattle.std.proofs.lemmas.Int.{ints}
use Rattle.mp_base.proofs.Members.{Member, contains_member, member_contains}
use Rattle.lam_geom.specs.declared.rect.Rect.{Rect}
use Rattle.lam_geom.specs.Squares.{Square, IsIn, ShareEdge}
use Rattle.metal_pieces.specs.Pieces.{IsOf, AreNear, AreFar, IsBeyond, AreSpaced}

pub beyond_far : (r q : Rect) (s t : Square) → IsBeyond r q → IsIn r s → IsIn q t → ¬ AreNear s t
beyond_far r q s t b i j n =
    let i0 = i.left in
    let i1 = i.right in
    let i2 = i.bottom in
    let i3 = i.top in
    let j0 = j.left in
    let j1 = j.right in
    let j2 = j.bottom in
    let j3 = j.top in
    let e = n.1 in
    omega (arith, ints)

-- the rectangle is spaced from each of a piece
pub data AllBeyond (r : Rect) : List Rect → Type 0 where
  none : AllBeyond r []
  more : {q : Rect} {qs : List Rect} → IsBeyond r q → AllBeyond r qs → AllBeyond r (q ∷ qs)

all_at : (r : Rect) (qs : List Rect) → AllBeyond r qs → (t : Rect) → Member qs t → IsBeyond r t
all_at r [] b t m = absurd m
all_at r (q ∷ qs) (more b bs) t (inl e) = subst (IsBeyond r) e b
all_at r (q ∷ qs) (more b bs) t (inr m) = all_at r qs bs t m

pub none_spaced : (qs : List Rect) → AreSpaced [] qs
none_spaced qs r t m n = absurd (contains_member [] r m)

pub more_spaced : (r : Rect) (rs qs : List Rect) → AllBeyond r qs → AreSpaced rs qs → AreSpaced (r ∷ rs) qs
more_spaced r rs qs b far s t m n = elim (contains_member (r ∷ rs) s m) [
  | inl e ↦ subst (λ z. IsBeyond z t) e (all_at r qs b t (contains_member qs t n))
  | inr k ↦ far s t (member_contains rs s k) n
]

-- each of a piece is spaced from the rectangle
pub data EachBeyond (q : Rect) : List Rect → Type 0 where
  no_more : EachBeyond q []
  and : {r : Rect} {rs : List Rect} → IsBeyond r q → EachBeyond q rs → EachBeyond q (r ∷ rs)

each_at : (q : Rect) (rs : List Rect) → EachBeyond q rs → (s : Rect) → Member rs s → IsBeyond s q
each_at q [] b s m = absurd m
each_at q (r ∷ rs) (and b bs) s (inl e) = subst (λ z. IsBeyond z q) e b
each_at q (r ∷ rs) (and b bs) s (inr m) = each_at q rs bs s m

pub spaced_more : (q : Rect) (rs qs : List Rect) → EachBeyond q rs → AreSpaced rs qs → AreSpaced rs (q ∷ qs)
spaced_more q rs qs b far s t m n = elim (contains_member (q ∷ qs) t n) [
  | inl e ↦ subst (IsBeyond s) e (each_at q rs b s (contains_member rs s m))
  | inr k ↦ far s t m (member_contains qs t k)
]

-- a square of a piece is one of its rectangles
in_some : (rs : List Rect) (s : Square) → IsOf rs s → (r : Rect) × Member rs r × IsIn r s
in_some [] s i = absurd i
in_some (r ∷ rs) s (inl i) = (r, inl refl, i)
in_some (r ∷ rs) s (inr i) = let w = in_some rs s i in (w.0, inr w.1, w.2)

pub spaced_far : (p q : List Rect) → AreSpaced p q → AreFar p q
spaced_far p q far s t i j n =
    let a = in_some p s i in
    let b = in_some q t j in
    beyond_far a.0 b.0 s t (far a.0 b.0 (member_contains p a.0 a.1) (member_contains q b.0 b.1)) a.2 b.2 n
