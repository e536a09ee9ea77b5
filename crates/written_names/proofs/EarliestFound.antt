-- The earliest of places: under a condition, and of those that are found in a list.
use Rattle.std.proofs.Common.{◌≡◌, ◌⊎◌, List, [], ◌∷◌, Bool, true, false, cond, refl, ap, inl, inr, arith, Option}
use Rattle.std.proofs.Common.{Some, None, fold}
use Rattle.mp_base.specs.declared.refusal.Place.{Place}
use Rattle.mp_rules.specs.Breaking.{IsEarliest, earlier_of}
use Rattle.mp_rules.proofs.EarliestPlaces.{earliest_same, earliest_either}
use Rattle.mp_names.specs.Finding.{earliest}
use Rattle.written_names.proofs.FoundEntries.{Found, nothing_in, here, behind, first_or_behind}

-- a place under a condition
pub when : (b : Bool) (at : Place) → IsEarliest (λ there. (b ≡ true) × (there ≡ at)) (cond b (Some at) None)
when true at = ((refl, refl), λ there (e, same). omega (arith, ap (λ (p : Place). p.offset) same))
when false at = λ there (e, same). cc

-- the earliest that is found in the entries of a list
pub in_list : {X : Type 0} (P : X → Place → Type 0) (find : X → Option Place) → ((x : X) → IsEarliest (P x) (find x))
    → (xs : List X)
    → IsEarliest (λ at. Found xs (λ x. P x at)) (earliest find xs)
in_list {X} P find each xs =
    earliest_same (λ at. ⊥ ⊎ Found xs (λ x. P x at)) (λ at. Found xs (λ x. P x at))
    (earliest find xs) (along (λ at. ⊥) None (λ at h. h) xs)
    (λ at h. elim h [ inl none ↦ absurd none | inr found ↦ found ]) (λ at h. inr h)
  where
    along : (Q : Place → Type 0) (a : Option Place) → IsEarliest Q a → (ys : List X)
        → IsEarliest (λ at. Q at ⊎ Found ys (λ x. P x at)) (fold (λ found x. earlier_of found (find x)) a ys)
    along Q a q [] = earliest_same Q (λ at. Q at ⊎ Found [] (λ x. P x at)) a
        q (λ at h. inl h) (λ at h. elim h [ inl now ↦ now | inr found ↦ absurd (nothing_in (λ x. P x at) found) ])
    along Q a q (y ∷ ys) =
        earliest_same (λ at. (Q at ⊎ P y at) ⊎ Found ys (λ x. P x at)) (λ at. Q at ⊎ Found (y ∷ ys) (λ x. P x at))
        (fold (λ found x. earlier_of found (find x)) a (y ∷ ys))
        (along (λ at. Q at ⊎ P y at) (earlier_of a (find y)) (earliest_either Q (P y) a (find y) q (each y)) ys)
        (λ at h. elim h [
          | inl front ↦ elim front [ inl now ↦ inl now | inr one ↦ inr (here (λ x. P x at) y ys one) ]
          | inr later ↦ inr (behind (λ x. P x at) y ys later)
        ])
        (λ at h. elim h [
          | inl now ↦ inl (inl now)
          | inr found ↦ elim (first_or_behind (λ x. P x at) y ys found) [
            | inl one ↦ inl (inr one)
            | inr later ↦ inr later
          ]
        ])
