-- Expressions that read cells.
use Rattle.std.proofs.Common.{◌≡◌, inl, inr, ◌∙◌, ℕ, ◌+◌, List, [], ◌∷◌, ◌++◌, refl, sym, ap, subst, arith, length}
use Rattle.std.proofs.lemmas.List.{length_push}
use Rattle.mp_base.specs.Entries.{IsAt}
use Rattle.mp_base.proofs.Entries.{one_entry, get_middle, get_kept, push_cases}
use Rattle.rtl_form.specs.declared.rtl.RtlExpr.{RtlExpr}
use Rattle.rtl_form.specs.declared.rtl.RtlExpr.TheVariants.{Cell}
use Rattle.process_plan.specs.declared.role.Role.{Role}
use Rattle.process_layout.proofs.Keeping.{keeps_more}
use Rattle.process_jumps.specs.Growth.{IsPut}
use Rattle.process_transfers.specs.Control.{IsReading, IsReadingMade, AreReadingsMade}
use Rattle.process_jumps.proofs.Growing.{free_pushed, one_pushed}

pub reading_put : (s : Role) (c e : ℕ) (old new : List RtlExpr) → IsPut old new (Cell c) e
    → IsReadingMade s c old new e
reading_put s c e old new (added, at) = subst (λ es. IsReadingMade s c old es e) (sym added) (record {
  grown = record {
    kept = get_kept old (Cell c ∷ []);
    cost = let free = free_pushed old (Cell c) refl in omega (arith, free);
    fits = λ w xs long fit. one_pushed old (Cell c) w xs fit (omega (arith, long));
  };
  reads = λ k l j is. subst (λ i. IsAt (old ++ Cell c ∷ []) i (Cell c)) (sym at) (get_middle old (Cell c) []);
})

pub readings_more : (roles : List Role) (n e : ℕ) (s : Role) (old now next : List RtlExpr) (es more : List ℕ)
    → AreReadingsMade roles n old now es → IsAt roles n s → IsReadingMade s n now next e → more ≡ es ++ e ∷ []
    → AreReadingsMade roles (n + 1) old next more
readings_more roles n e s old now next es more before at made added =
    let size = before.size in
    let long = ap length added ∙ length_push es e in
    let earlier = before.grown in
    let later = made.grown in
    let cost_a = earlier.cost in
    let cost_b = later.cost in record {
      size = omega (arith, size, long);
      grown = record {
        kept = keeps_more old now next earlier.kept later.kept;
        cost = omega (arith, cost_a, cost_b);
        fits = λ w xs le fit. later.fits w xs le (earlier.fits w xs (omega (arith, le)) fit);
      };
      each = λ c d r at_r at_d. elim (push_cases es e c d (subst (λ ds. IsAt ds c d) added at_d)) as
          (λ _. IsReading next r c d) [
            | inl (lt, there) ↦ λ k l j is. later.kept d (Cell c) (before.each c d r at_r there k l j is)
            | inr (last, same) ↦ λ k l j is.
                let here : c ≡ n = last ∙ size in
                let same_role : r ≡ s = one_entry roles n r s (subst (λ i. IsAt roles i r) here at_r) at in
                subst (λ i. IsAt next d (Cell i)) (sym here)
                (subst (λ i. IsAt next i (Cell n)) same (made.reads k l j (sym same_role ∙ is)))
          ];
    }
