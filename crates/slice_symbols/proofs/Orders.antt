-- The orders of rectangles.
use Rattle.std.proofs.Common.{ℕ, ◌≡◌, ◌⊎◌, ◌+◌, inl, inr, refl, sym, ◌∙◌, subst, arith, Bool, true, false}
use Rattle.std.specs.Prelude.{ℤ}
use Rattle.std.specs.Cmp.{Equal-is, IsTotalOrder}
use Rattle.std.specs.Ordering.{int_cmp, nat_cmp, is_eq, ordering_reverse, ordering_then}
use Rattle.std.specs.declared.cmp.Ordering.{Ordering}
use Rattle.std.specs.declared.cmp.Ordering.TheVariants.{Equal, Greater, Less}
use Rattle.std.proofs.lemmas.Bool.Decides.{nat_tests}
use Rattle.std.proofs.lemmas.Cmp.{int_cmp_total, nat_cmp_total, on_total, then_total, tied_itself}
use Rattle.std.proofs.lemmas.Int.{ints}
use Rattle.lam_geom.specs.declared.rect.Rect.{Rect}
use Rattle.lam_geom.specs.Squares.{rank}
use Rattle.lam_geom.proofs.SquareOrder.{of_ranks}
use Rattle.slice_symbols.specs.declared.standing.Standing.{Standing}
use Rattle.slice_symbols.specs.Ordered.{rect_cmp}
use Rattle.slice_symbols.specs.Standing.{standing_cmp}

pub rect_total : IsTotalOrder rect_cmp
rect_total = then_total (then_total (then_total (then_total (on_total (λ (r : Rect). rank r.layer) nat_cmp_total)
    (on_total (λ (r : Rect). r.x0) int_cmp_total)) (on_total (λ (r : Rect). r.y0) int_cmp_total))
    (on_total (λ (r : Rect). r.x1) int_cmp_total)) (on_total (λ (r : Rect). r.y1) int_cmp_total)

pub standing_total : IsTotalOrder standing_cmp
standing_total =
    then_total (on_total (λ (s : Standing). s.first) rect_total) (on_total (λ (s : Standing). s.band) nat_cmp_total)

both_equal : (a b : Ordering) → ordering_then a b ≡ Equal → (a ≡ Equal) × (b ≡ Equal)
both_equal Less b h = absurd cc
both_equal Equal b h = (refl, h)
both_equal Greater b h = absurd cc

then_less : (a b : Ordering) → ordering_then a b ≡ Less → (a ≡ Less) ⊎ ((a ≡ Equal) × (b ≡ Less))
then_less Less b h = inl refl
then_less Equal b h = inr (refl, h)
then_less Greater b h = absurd cc

same_nat : (x y : ℕ) → nat_cmp x y ≡ Equal → x ≡ y
same_nat x y h = grind (arith, nat_tests)

same_int : (x y : ℤ) → int_cmp x y ≡ Equal → x ≡ y
same_int x y h = grind (arith, ints)

pub same_rect : (r q : Rect) → rect_cmp r q ≡ Equal → r ≡ q
same_rect r q h =
    let d = both_equal _ _ h in
    let c = both_equal _ _ d.0 in
    let b = both_equal _ _ c.0 in
    let a = both_equal _ _ b.0 in
    let layer = of_ranks r.layer q.layer (same_nat _ _ a.0) in
    let x0 = same_int r.x0 q.x0 a.1 in
    let y0 = same_int r.y0 q.y0 b.1 in
    let x1 = same_int r.x1 q.x1 c.1 in
    let y1 = same_int r.y1 q.y1 d.1 in
    λ i. record { layer = layer i; x0 = x0 i; y0 = y0 i; x1 = x1 i; y1 = y1 i }

pub same_standing : (s t : Standing) → standing_cmp s t ≡ Equal → s ≡ t
same_standing s t h =
    let p = both_equal _ _ h in
    let first = same_rect s.first t.first p.0 in
    let band = same_nat s.band t.band p.1 in
    λ i. record { first = first i; band = band i }

-- between a rectangle in two bands that follow one another no other stands
pub none_between : (c : Rect) (k : ℕ) (t : Standing)
    → standing_cmp (record { first = c; band = k }) t ≡ Less
    → standing_cmp t (record { first = c; band = k + 1 }) ≡ Less → ⊥
none_between c k t h g =
    let back : rect_cmp c t.first ≡ ordering_reverse (rect_cmp t.first c) = rect_total.antisymm c t.first in
    elim (then_less (rect_cmp c t.first) (nat_cmp k t.band) h) [
      | inl a ↦ elim (then_less (rect_cmp t.first c) (nat_cmp t.band (k + 1)) g) [
        | inl b ↦ reversed (rect_cmp t.first c) (rect_cmp c t.first) back a (inl b)
        | inr b ↦ reversed (rect_cmp t.first c) (rect_cmp c t.first) back a (inr b.0)
      ]
      | inr a ↦ elim (then_less (rect_cmp t.first c) (nat_cmp t.band (k + 1)) g) [
        | inl b ↦ mixed (rect_cmp t.first c) (rect_cmp c t.first) back a.0 b
        | inr b ↦ above k t.band a.1 b.1
      ]
    ]
  where
    reversed : (o p : Ordering) → p ≡ ordering_reverse o → p ≡ Less → (o ≡ Less) ⊎ (o ≡ Equal) → ⊥
    reversed Less p e f g = cc
    reversed Equal p e f g = cc
    reversed Greater p e f (inl g) = cc
    reversed Greater p e f (inr g) = cc

    mixed : (o p : Ordering) → p ≡ ordering_reverse o → p ≡ Equal → o ≡ Less → ⊥
    mixed Less p e f g = cc
    mixed Equal p e f g = cc
    mixed Greater p e f g = cc

    above : (n m : ℕ) → nat_cmp n m ≡ Less → nat_cmp m (n + 1) ≡ Less → ⊥
    above n m h g = grind (arith, nat_tests)

-- one rectangle is below itself in a higher band
pub below_next : (c : Rect) (k : ℕ)
    → standing_cmp (record { first = c; band = k }) (record { first = c; band = k + 1 }) ≡ Less
below_next c k = tied (rect_cmp c c) (nat_cmp k (k + 1)) (tied_itself rect_total c) next
  where
    next : nat_cmp k (k + 1) ≡ Less
    next = grind (arith, nat_tests)

    tied : (a b : Ordering) → a ≡ Equal → b ≡ Less → ordering_then a b ≡ Less
    tied Less b e f = cc
    tied Equal b e f = f
    tied Greater b e f = absurd cc

-- of two in one band, the rectangles are in order
pub rect_below : (c q : Rect) (k : ℕ)
    → standing_cmp (record { first = c; band = k }) (record { first = q; band = k }) ≡ Less → rect_cmp c q ≡ Less
rect_below c q k h = elim (then_less (rect_cmp c q) (nat_cmp k k) h) [
  | inl a ↦ a
  | inr a ↦ absurd (not_itself k a.1)
]
  where
    not_itself : (n : ℕ) → nat_cmp n n ≡ Less → ⊥
    not_itself n h = grind (arith, nat_tests)

-- ---- tests of two

pub same_by_test : (s t : Standing) (o : Ordering) (b : Bool) → o ≡ standing_cmp s t → b ≡ is_eq o → b ≡ true → s ≡ t
same_by_test s t o b e f h = same_standing s t (sym e ∙ (Equal-is o).0 (sym f ∙ h))

pub differ_by_test : (s t : Standing) (o : Ordering) (b : Bool) → o ≡ standing_cmp s t → b ≡ is_eq o → b ≡ false
    → s ≡ t → ⊥
differ_by_test s t o b e f h same =
    let tied : o ≡ Equal = e ∙ subst (λ u. standing_cmp s u ≡ Equal) same (tied_itself standing_total s) in
    let yes : b ≡ true = f ∙ (Equal-is o).1 tied in
    let no : true ≡ false = sym yes ∙ h in
    cc
