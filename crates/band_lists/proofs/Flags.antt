-- Flags of segments, where each pin sets that of its segment.
use Rattle.std.proofs.Common.{◌≡◌, inl, inr, ℕ, ◌+◌, ◌<◌, ◌==◌, Bool, false, List, length, take, get_or, set, sym}
use Rattle.std.proofs.Common.{◌∙◌, ap, subst}
use Rattle.std.specs.Prelude.{◌≢◌, ◌||◌}
use Rattle.std.specs.List.{list_any}
use Rattle.std.proofs.lemmas.Bool.{cases_eq, not-true}
use Rattle.std.proofs.lemmas.List.{get_or-set_same, get_or-set_other}
use Rattle.std.proofs.lemmas.List.Folds.{list_any_more}
use Rattle.mp_base.proofs.Tests.{or_false}
use Rattle.array_form.proofs.Listing.{differs_to}
use Rattle.band_lists.specs.declared.pins.Pin.{Pin}

pub not_same : (x a : ℕ) → x ≢ a → (x == a) ≡ false
not_same x a e = not-true (x == a) (differs_to a x e)

module _ (here : ℕ → Pin → Bool) (pins : List Pin) (i : ℕ) (none : Pin) (lt : i < length pins)
    (flags : List Bool) (flag : Bool) where
  abbrev p : Pin
  p = get_or pins i none

  pub flags_more : ((k : ℕ) → p.segment ≢ k → here k p ≡ false)
      → flag ≡ (get_or flags p.segment false || here p.segment p) → p.segment < length flags
      → ((k : ℕ) → k < length flags → get_or flags k false ≡ list_any (here k) (take i pins))
      → (k : ℕ) → k < length flags
      → get_or (set flags p.segment flag) k false ≡ list_any (here k) (take (i + 1) pins)
  flags_more elsewhere is inside old k b = elim (cases_eq p.segment k) [
    | inl e ↦ subst (λ z. get_or (set flags p.segment flag) z false ≡ list_any (here z) (take (i + 1) pins)) e
        (get_or-set_same flags p.segment flag false inside
        ∙ (is ∙ (ap (λ t. t || here p.segment p) (old p.segment inside)
        ∙ sym (list_any_more (here p.segment) pins i none lt))))
    | inr e ↦ get_or-set_other flags p.segment k flag false (λ q. e (sym q))
        ∙ (old k b ∙ (sym (or_false (list_any (here k) (take i pins)))
        ∙ (ap (λ t. list_any (here k) (take i pins) || t) (sym (elsewhere k e))
        ∙ sym (list_any_more (here k) pins i none lt))))
  ]
