-- The earliest of places: of those of other words, and of two kinds.
use Rattle.std.proofs.Common.{◌≡◌, ◌⊎◌, inl, inr, ◌≤◌, Option, Some, None, Bool, true, false, cond, refl, ap, arith}
use Rattle.std.specs.Prelude.{nat_le}
use Rattle.std.proofs.lemmas.Bool.{leb-true, leb-false}
use Rattle.mp_base.specs.declared.refusal.Place.{Place}
use Rattle.mp_rules.specs.Breaking.{IsEarliest, earlier_of}

-- the same places, but for some that aren't the earliest
pub earliest_through : (P Q : Place → Type 0) (found : Option Place) → IsEarliest P found → ((at : Place) → P at → Q at)
    → ((at : Place) → Q at → (v : Place) × P v × (v.offset ≤ at.offset)) → IsEarliest Q found
earliest_through P Q None none sound cover = λ at there. let (v, is, le) = cover at there in none v is
earliest_through P Q (Some b) (is_b, least) sound cover = (
  sound b is_b,
  λ at there. let (v, is, le) = cover at there in let l : b.offset ≤ v.offset = least v is in
      omega (arith, l, le),
)

-- the same places by other words
pub earliest_same : (P Q : Place → Type 0) (found : Option Place) → IsEarliest P found → ((at : Place) → P at → Q at)
    → ((at : Place) → Q at → P at) → IsEarliest Q found
earliest_same P Q found h sound complete =
    earliest_through P Q found h sound (λ at there. (at, complete at there, omega arith))

-- one place
pub earliest_at : (b : Place) → IsEarliest (λ at. at ≡ b) (Some b)
earliest_at b = (refl, λ at e. let o : at.offset ≡ b.offset = ap (λ (p : Place). p.offset) e in omega (arith, o))

-- the earlier of the earliest of two kinds
pub earliest_either : (P Q : Place → Type 0) (a b : Option Place) → IsEarliest P a → IsEarliest Q b
    → IsEarliest (λ at. P at ⊎ Q at) (earlier_of a b)
earliest_either P Q None None none nothing = λ at h. elim h [ inl p ↦ none at p | inr q ↦ nothing at q ]
earliest_either P Q (Some x) None (holds, least) nothing =
    (inl holds, λ at h. elim h [ inl p ↦ least at p | inr q ↦ absurd (nothing at q) ])
earliest_either P Q None (Some y) none (holds, least) =
    (inr holds, λ at h. elim h [ inl p ↦ absurd (none at p) | inr q ↦ least at q ])
earliest_either P Q (Some x) (Some y) (left, least) (right, lowest) = chosen (nat_le x.offset y.offset) refl
  where
    chosen : (b : Bool) → nat_le x.offset y.offset ≡ b → IsEarliest (λ at. P at ⊎ Q at) (cond b (Some x) (Some y))
    chosen true e = (
      inl left,
      λ at h. elim h [
        | inl p ↦ least at p
        | inr q ↦ omega (arith, leb-true x.offset y.offset e, lowest at q)
      ],
    )
    chosen false e = (
      inr right,
      λ at h. elim h [
        | inl p ↦ omega (arith, leb-false x.offset y.offset e, least at p)
        | inr q ↦ lowest at q
      ],
    )
