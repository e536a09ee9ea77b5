-- What is decided, and whether some member of a list is so.
use Rattle.std.proofs.Common.{inl, inr, refl, sym, subst, List, [], ◌∷◌}
use Rattle.mp_base.proofs.Decisions.{Decided}
use Rattle.mp_base.proofs.Members.{Member}

-- whether some member is so
pub some_member : {S : Type 0} (P : S → Type 0) → ((a : S) → Decided (P a)) → (xs : List S)
    → Decided ((a : S) × Member xs a × P a)
some_member P t [] = inr (λ h. h.1)
some_member P t (x ∷ xs) = by (t x) (some_member P t xs)
  where
    by : Decided (P x) → Decided ((a : _) × Member xs a × P a) → Decided ((a : _) × Member (x ∷ xs) a × P a)
    by (inl p) _ = inl (x, inl refl, p)
    by (inr n) (inl (a, m, p)) = inl (a, inr m, p)
    by (inr n) (inr k) = inr (λ h. elim h.1 [ inl e ↦ n (subst P (sym e) h.2) | inr m ↦ k (h.0, m, h.2) ])
