-- Spans grow by the column of each pin.
use Rattle.std.proofs.Common.{◌≡◌, inl, inr, ℕ, ◌+◌, ◌<◌, ◌==◌, cond, List, [], ◌∷◌, ◌++◌, length, map, filter}
use Rattle.std.proofs.Common.{take, get_or, set, refl, sym, ◌∙◌, ap, subst}
use Rattle.std.specs.Prelude.{◌≢◌}
use Rattle.std.proofs.lemmas.Bool.{cases_Bool, cases_eq}
use Rattle.std.proofs.lemmas.List.{map-append, append-nil, get_or-set_same, get_or-set_other}
use Rattle.std.proofs.lemmas.List.Elements.{filter_more}
use Rattle.track_assign.specs.declared.packing.Interval.{Interval}
use Rattle.array_form.proofs.Listing.{same_from, same_to}
use Rattle.array_form.proofs.Greatest.{greatest_push}
use Rattle.band_lists.specs.declared.pins.Pin.{Pin}
use Rattle.band_lists.specs.Spans.{column_at, columns_at, span_of, widened_by}
use Rattle.band_lists.proofs.Growing.{lowest_push}

-- a span with one column more
pub span_push : (xs : List ℕ) (c : ℕ) → span_of (xs ++ c ∷ []) ≡ widened_by (span_of xs) c
span_push xs c =
    let a = lowest_push xs c in
    let b = greatest_push xs c in
    λ i. record { first = a i; last = b i }

module _ (columns : List ℕ) (pins : List Pin) (i : ℕ) (none : Pin) (lt : i < length pins) where
  abbrev p : Pin
  p = get_or pins i none

  column : Pin → ℕ
  column q = column_at columns q.at

  at_more : (k : ℕ) → columns_at columns (take (i + 1) pins) k
      ≡ columns_at columns (take i pins) k ++ map (λ q. column_at columns q.at) (cond (p.segment == k) (p ∷ []) [])
  at_more k =
      ap (map (λ q. column_at columns q.at)) (filter_more (λ q. q.segment == k) pins i none lt)
      ∙ map-append (λ q. column_at columns q.at) (filter (λ q. q.segment == k) (take i pins))
      (cond (p.segment == k) (p ∷ []) [])

  pub at_same : (k : ℕ) → p.segment ≡ k
      → columns_at columns (take (i + 1) pins) k ≡ columns_at columns (take i pins) k ++ column_at columns p.at ∷ []
  at_same k e =
      at_more k ∙ ap
      (λ t. columns_at columns (take i pins) k ++ map (λ q. column_at columns q.at) (cond t (p ∷ []) []))
      (same_to p.segment k e)

  pub at_other : (k : ℕ) → p.segment ≢ k
      → columns_at columns (take (i + 1) pins) k ≡ columns_at columns (take i pins) k
  at_other k ne = elim (cases_Bool (p.segment == k)) [
    | inl q ↦ absurd (ne (same_from p.segment k q))
    | inr q ↦ at_more k
        ∙ (ap (λ t. columns_at columns (take i pins) k ++ map (λ q. column_at columns q.at) (cond t (p ∷ []) [])) q
        ∙ append-nil (columns_at columns (take i pins) k))
  ]

  pub spans_more : (spans : List Interval) (d w : Interval) → p.segment < length spans
      → ((k : ℕ) → k < length spans → get_or spans k d ≡ span_of (columns_at columns (take i pins) k))
      → w ≡ widened_by (get_or spans p.segment d) (column_at columns p.at)
      → (k : ℕ) → k < length spans
      → get_or (set spans p.segment w) k d ≡ span_of (columns_at columns (take (i + 1) pins) k)
  spans_more spans d w inside old is k b = elim (cases_eq p.segment k) [
    | inl e ↦ subst (λ z. get_or (set spans p.segment w) z d ≡ span_of (columns_at columns (take (i + 1) pins) z)) e
        (get_or-set_same spans p.segment w d inside
        ∙ (is ∙ (ap (λ s. widened_by s (column_at columns p.at)) (old p.segment inside)
        ∙ (sym (span_push (columns_at columns (take i pins) p.segment) (column_at columns p.at))
        ∙ ap span_of (sym (at_same p.segment refl))))))
    | inr e ↦ get_or-set_other spans p.segment k w d (λ q. e (sym q))
        ∙ (old k b ∙ ap span_of (sym (at_other k e)))
  ]
