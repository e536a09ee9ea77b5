-- Whether numbers, points and turns have a place in half-units at a scale.
use Rattle.std.proofs.Common.{◌≡◌, ◌⊎◌, inl, inr, ℕ, zero, suc, ◌*◌, ◌<◌, List, [], ◌∷◌, refl, sym, ◌∙◌, ap, arith}
use Rattle.std.specs.Prelude.{◌≢◌, ℤ, pos, negsuc, neg_ℤ, ◌*ℤ◌, ◌<ℤ◌}
use Rattle.std.proofs.lemmas.Int.{ints, by_lt_z}
use lib.IntN.{pos-*ℤ-negsuc}
use Rattle.mp_base.proofs.Decisions.{Decided, same_claim, both_of, one_of, not_so, is_number, is_integer, is_less}
use Rattle.mp_base.proofs.Decisions.{is_at_most}
use Rattle.mp_base.proofs.Numbers.{at_most_times}
use Rattle.lam_geom.specs.declared.place.Point.{Point}
use Rattle.lam_geom.specs.Moves.{IsNear, far}
use Rattle.cif_form.specs.declared.command.Turn.{Turn}
use Rattle.cif_form.specs.declared.command.Turn.TheVariants.{Move, MirrorX, MirrorY, Rotate}
use Rattle.cif_form.specs.Place.{Scale, IsScale, IsScaled, IsOnAxis, Motion, IsMotion}
use Rattle.cif_form.specs.Place.Motion.{Shift, NegateX, NegateY, Quarter}
use Rattle.cif_form.specs.Walk.{IsWholePoint, IsFarPoint}
use Rattle.cif_form.proofs.OnePlace.{one_scaled}
use Rattle.cif_verdict.proofs.Deciding.{of_the_one, some_upto}

-- ---- numbers

some_factor : (b n : ℕ) → 0 < b → Decided ((k : ℕ) × (b * k ≡ n))
some_factor b n some = same_claim (some_upto (λ k. b * k ≡ n) (λ k. is_number (b * k) n) n)
    (λ (k, le, e). (k, e)) (λ (k, e). let le = at_most_times b k some in (k, omega (arith, le, e), e))

no_product : (b k n : ℕ) → 0 < b → pos b *ℤ negsuc k ≡ pos n → ⊥
no_product b k n some e =
    let m : neg_ℤ (pos (b * suc k)) ≡ pos n = sym (pos-*ℤ-negsuc b k) ∙ e in
    let big = at_most_times b (suc k) some in
    omega (arith, ints, m, big)

some_quotient : (b : ℕ) (m : ℤ) → 0 < b → Decided ((z : ℤ) × (pos b *ℤ z ≡ m))
some_quotient b (pos n) some = same_claim (some_factor b n some) (λ (k, e). (pos k, ap pos e)) back
  where
    back : (z : ℤ) × (pos b *ℤ z ≡ pos n) → (k : ℕ) × (b * k ≡ n)
    back (pos k, e) = (k, omega (arith, ints, e))
    back (negsuc k, e) = absurd (no_product b k n some e)
some_quotient b (negsuc n) some = same_claim (some_factor b (suc n) some) fore back
  where
    fore : (k : ℕ) × (b * k ≡ suc n) → (z : ℤ) × (pos b *ℤ z ≡ negsuc n)
    fore (zero, e) = absurd (omega (arith, e))
    fore (suc k, e) = (negsuc k, pos-*ℤ-negsuc b k ∙ ap (λ i. neg_ℤ (pos i)) e)

    back : (z : ℤ) × (pos b *ℤ z ≡ negsuc n) → (k : ℕ) × (b * k ≡ suc n)
    back (pos k, e) = absurd (omega (arith, ints, e))
    back (negsuc k, e) =
        let m : neg_ℤ (pos (b * suc k)) ≡ negsuc n = sym (pos-*ℤ-negsuc b k) ∙ e in
        (suc k, omega (arith, ints, m))

pub some_scaled : (s : Scale) (w : ℤ) → Decided ((z : ℤ) × IsScaled s w z)
some_scaled s w = by s.b
  where
    by : (b : ℤ) → Decided ((z : ℤ) × ((pos 0 <ℤ b) × (b *ℤ z ≡ s.a *ℤ w)))
    by (negsuc b) = inr (λ (z, (lt, e)). absurd (omega (arith, ints, lt)))
    by (pos zero) = inr (λ (z, (lt, e)). absurd (omega (arith, ints, lt)))
    by (pos (suc b)) = same_claim (some_quotient (suc b) (s.a *ℤ w) (omega arith))
        (λ (z, e). (z, (omega (arith, ints), e))) (λ (z, (lt, e)). (z, e))

pub is_near : (z : ℤ) → Decided (IsNear z)
is_near z = both_of (is_at_most (neg_ℤ (pos far)) z) (is_at_most z (pos far))

pub is_scale : (s : Scale) → Decided (IsScale s)
is_scale s = both_of (is_less (pos 0) s.a) (is_less (pos 0) s.b)

-- ---- points

pub is_on_axis : (p : Point) → Decided (IsOnAxis p)
is_on_axis p = one_of (both_of (is_integer p.y (pos 0)) (not_so (is_integer p.x (pos 0))))
    (both_of (is_integer p.x (pos 0)) (not_so (is_integer p.y (pos 0))))

pub is_whole_point : (s : Scale) (p : Point) → Decided (IsWholePoint s p)
is_whole_point s p = both_of (some_scaled s (pos 2 *ℤ p.x)) (some_scaled s (pos 2 *ℤ p.y))

abbrev Far : Scale → ℤ → Type 0
Far s w = (z : ℤ) × IsScaled s w z × ¬ IsNear z

is_far : (s : Scale) (w : ℤ) → Decided (Far s w)
is_far s w = of_the_one (λ z. IsScaled s w z) (λ z. ¬ IsNear z) (one_scaled s w) (some_scaled s w)
    (λ z. not_so (is_near z))

pub is_far_point : (s : Scale) (p : Point) → Decided (IsFarPoint s p)
is_far_point s p = same_claim (one_of (is_far s (pos 2 *ℤ p.x)) (is_far s (pos 2 *ℤ p.y))) fore back
  where
    fore : Far s (pos 2 *ℤ p.x) ⊎ Far s (pos 2 *ℤ p.y) → IsFarPoint s p
    fore (inl (z, h, far)) = (z, inl h, far)
    fore (inr (z, h, far)) = (z, inr h, far)

    back : IsFarPoint s p → Far s (pos 2 *ℤ p.x) ⊎ Far s (pos 2 *ℤ p.y)
    back (z, inl h, far) = inl (z, h, far)
    back (z, inr h, far) = inr (z, h, far)

-- ---- turns

sign_of : (z : ℤ) → z ≢ pos 0 → (pos 0 <ℤ z) ⊎ (z <ℤ pos 0)
sign_of z some = by_lt_z (pos 0) z (λ above. inl above)
    (λ le. by_lt_z z (pos 0) (λ below. inr below) (λ ge. absurd (some (omega (arith, ints)))))

turned : (s : Scale) (p : Point) → IsOnAxis p → (ms : List Motion) × IsMotion s (Rotate p) ms
turned s p (inl (level, some)) = elim (sign_of p.x some) [
  | inl right ↦ ([], inl (level, right, refl))
  | inr left ↦ (Quarter ∷ Quarter ∷ [], inr (inr (inl (level, left, refl))))
]
turned s p (inr (level, some)) = elim (sign_of p.y some) [
  | inl up ↦ (Quarter ∷ [], inr (inl (level, up, refl)))
  | inr down ↦ (Quarter ∷ Quarter ∷ Quarter ∷ [], inr (inr (inr (level, down, refl))))
]

-- a turn that breaks no rule has motions
pub some_motion : (s : Scale) (t : Turn) → ((p : Point) → t ≡ Move p → IsWholePoint s p)
    → ((p : Point) → t ≡ Rotate p → IsOnAxis p) → (ms : List Motion) × IsMotion s t ms
some_motion s (Move p) whole axis =
    let ((dx, hx), (dy, hy)) = whole p refl in (Shift dx dy ∷ [], (dx, dy, hx, hy, refl))
some_motion s MirrorX whole axis = (NegateX ∷ [], refl)
some_motion s MirrorY whole axis = (NegateY ∷ [], refl)
some_motion s (Rotate p) whole axis = turned s p (axis p refl)
