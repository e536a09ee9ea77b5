-- The least square of one kind and of another.
use Rattle.std.proofs.Common.{◌≡◌, ◌⊎◌, inl, inr, sym, subst, arith}
use Rattle.std.specs.Prelude.{ℤ, ◌<ℤ◌, ◌≤ℤ◌, Option, None, Some}
use Rattle.std.proofs.lemmas.Int.{ints, by_lt_z}
use Rattle.lam_geom.specs.declared.place.Point.{Point}
use Rattle.rule_rows.specs.Firsts.{IsFirstOf, IsNoLater, IsEarlier}

abbrev Before : ℤ → ℤ → ℤ → ℤ → Type 0
Before p q x y = (q <ℤ y) ⊎ (q ≡ y) × (p <ℤ x)

before : (p q a b x y : ℤ) → (q <ℤ b) ⊎ (q ≡ b) × (p ≤ℤ a) → Before a b x y → Before p q x y
before p q a b x y (inl h) (inl m) = inl (omega (arith, ints))
before p q a b x y (inl h) (inr (e, m)) = inl (omega (arith, ints))
before p q a b x y (inr (e, h)) (inl m) = inl (omega (arith, ints))
before p q a b x y (inr (e, h)) (inr (f, m)) = inr (omega (arith, ints), omega (arith, ints))

-- a square before one that isn't after another is before that one
no_later : (a b px py qx qy : ℤ) → ¬ Before qx qy px py → Before a b px py → Before a b qx qy
no_later a b px py qx qy n m = by_lt_z b qy (λ h. inl h) (λ h. at_or_above h m)
  where
    at_or_above : qy ≤ℤ b → Before a b px py → Before a b qx qy
    at_or_above h (inl l) = absurd (n (inl (omega (arith, ints))))
    at_or_above h (inr (e, l)) =
        by_lt_z qy b (λ g. absurd (n (inl (omega (arith, ints)))))
        (λ g. by_lt_z a qx (λ k. inr (omega (arith, ints), k))
        (λ k. absurd (n (inr (omega (arith, ints), omega (arith, ints))))))

-- the least square stays it where others that are so come later than some of these
pub first_carried : (P Q : ℤ → ℤ → Type 0) (o : Option Point) → ((x y : ℤ) → P x y → Q x y)
    → ((x y : ℤ) → Q x y → (p : ℤ) × (q : ℤ) × ((q <ℤ y) ⊎ (q ≡ y) × (p ≤ℤ x)) × P p q)
    → IsFirstOf P o → IsFirstOf Q o
first_carried P Q None to back h = λ x y q. let w = back x y q in h w.0 w.1 w.3
first_carried P Q (Some p) to back h = record {
  here = to p.x p.y h.here;
  least = λ a b m q. let w = back a b q in h.least w.0 w.1 (before w.0 w.1 a b p.x p.y w.2 m) w.3;
}

pub first_same : (P Q : ℤ → ℤ → Type 0) (o : Option Point) → ((x y : ℤ) → P x y → Q x y)
    → ((x y : ℤ) → Q x y → P x y) → IsFirstOf P o → IsFirstOf Q o
first_same P Q None to back h = λ x y q. h x y (back x y q)
first_same P Q (Some p) to back h =
    record { here = to p.x p.y h.here; least = λ a b m q. h.least a b m (back a b q) }

module _ (P Q : ℤ → ℤ → Type 0) where
  kept : (a b : Option Point) → IsNoLater a b → IsFirstOf P a → IsFirstOf Q b → IsFirstOf (λ x y. P x y ⊎ Q x y) a
  kept None None n h k = λ x y s. elim s [ inl p ↦ h x y p | inr q ↦ k x y q ]
  kept None (Some q) n h k = absurd n
  kept (Some p) None n h k = record {
    here = inl h.here;
    least = λ a b m s. elim s [ inl u ↦ h.least a b m u | inr u ↦ k a b u ];
  }
  kept (Some p) (Some q) n h k = record {
    here = inl h.here;
    least = λ a b m s.
        elim s [ inl u ↦ h.least a b m u | inr u ↦ k.least a b (no_later a b p.x p.y q.x q.y n m) u ];
  }

-- the earlier of two is the least square of either kind
pub first_of_either : (P Q : ℤ → ℤ → Type 0) (a b o : Option Point) → IsEarlier a b o → IsFirstOf P a → IsFirstOf Q b
    → IsFirstOf (λ x y. P x y ⊎ Q x y) o
first_of_either P Q a b o e h k = elim e.which [
  | inl w ↦ subst (IsFirstOf (λ x y. P x y ⊎ Q x y)) (sym w.0) (kept P Q a b w.1 h k)
  | inr w ↦ subst (IsFirstOf (λ x y. P x y ⊎ Q x y)) (sym w.0)
      (first_same (λ x y. Q x y ⊎ P x y) (λ x y. P x y ⊎ Q x y) b
      (λ x y s. elim s [ inl u ↦ inr u | inr u ↦ inl u ]) (λ x y s. elim s [ inl u ↦ inr u | inr u ↦ inl u ])
      (kept Q P b a w.1 k h))
]
