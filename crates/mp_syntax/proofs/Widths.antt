-- The one form, and the word length.
use Rattle.std.proofs.Common.{◌≡◌, ◌⊎◌, inl, inr, ℕ, ◌<◌, ◌≤◌, List, [], ◌∷◌, refl, sym, ◌∙◌, ap, subst, length}
use Rattle.std.proofs.Common.{arith, Option, slice_index, slice_index_or}
use Rattle.mp_base.specs.Refuses.{RefusesAt, SpotIs}
use Rattle.mp_base.specs.declared.refusal.Place.{Place}
use Rattle.mp_base.specs.declared.refusal.Family.TheVariants.{E}
use Rattle.mp_base.specs.declared.refusal.Spot.{Spot}
use Rattle.mp_base.specs.declared.refusal.Spot.TheVariants.{At, Offset, Named, Nowhere}
use Rattle.mp_base.specs.declared.refusal.Refusal.{Refusal}
use Rattle.mp_base.specs.declared.refusal.Refusal.TheVariants.{NoMemory, Broken}
use Rattle.form_reader.specs.declared.forms.Kind.TheVariants.{Number}
use Rattle.form_reader.specs.declared.forms.Forms.{Forms}
use Rattle.form_reader.specs.Sound.{node, kind_at, items_of}
use Rattle.mp_shapes.specs.declared.table.Class.{Class}
use Rattle.mp_shapes.specs.Standing.{IsDefect, E10, IsFirstE10}
use Rattle.mp_entries.specs.Entries.{number_at, number_of}
use Rattle.mp_syntax.specs.Shape.{E11, IsFirst}
use Rattle.mp_syntax.proofs.Fitting.{Known, is_program, is_width}

-- forms that keep rule E10 are one form
pub one_form : (f : Forms) → ((at : Place) → E10 f at → ⊥) → (r : ℕ) × (f.roots ≡ r ∷ [])
one_form f whole = by_roots f.roots refl
  where
    by_roots : (xs : List ℕ) → f.roots ≡ xs → (r : ℕ) × (f.roots ≡ r ∷ [])
    by_roots [] e = absurd (whole f.end (inr (inl (e, refl))))
    by_roots (r ∷ []) e = (r, e)
    by_roots (a ∷ b ∷ rs) e = absurd (whole (node f b).place (inr (inr (a, b, rs, e, refl))))

pub some_form : (f : Forms) → ((at : Place) → E10 f at → ⊥) → 0 < length f.roots
some_form f whole = let h = one_form f whole in omega (arith, ap length h.1)

pub root_read : (f : Forms) → ((at : Place) → E10 f at → ⊥) → (x : ℕ) → x ≡ slice_index_or f.roots 0 x
    → f.roots ≡ x ∷ []
root_read f whole x is =
    let h = one_form f whole in
    let e : x ≡ h.0 = is ∙ ap (λ xs. slice_index_or xs 0 x) h.1 in
    h.1 ∙ ap (λ r. r ∷ []) (sym e)

-- a word length within the bounds breaks no rule
pub width_kept : (f : Forms) (r : ℕ) → f.roots ≡ r ∷ [] → 1 ≤ number_at f (slice_index (items_of (kind_at f r)) 2)
    → number_at f (slice_index (items_of (kind_at f r)) 2) ≤ 64 → (at : Place) → E11 f at → ⊥
width_kept f r one low high at (q, n, v, rs, is, lay, there, kind, bad, place) =
    let same : q ≡ r = ap (λ xs. slice_index xs 0) (sym is ∙ one) in
    let here : n ≡ slice_index (items_of (kind_at f r)) 2 =
    there ∙ ap (λ i. slice_index (items_of (kind_at f i)) 2) same in
    let value : number_at f (slice_index (items_of (kind_at f r)) 2) ≡ v =
    ap (number_at f) (sym here) ∙ ap number_of kind in
    elim bad [ inl none ↦ omega (arith, low, value, none) | inr many ↦ omega (arith, high, value, many) ]

-- one form without a defect breaks no rule
pub form_kept : (f : Forms) (r : ℕ) → f.roots ≡ r ∷ [] → ((n : ℕ) → IsDefect f n → ⊥) → (at : Place) → E10 f at → ⊥
form_kept f r one clean at e = elim e [
  | inl (n, d, p) ↦ clean n d
  | inr rest ↦ elim rest [ inl (none, p) ↦ empty none | inr (a, b, rs, two, p) ↦ many a b rs two ]
]
  where
    empty : f.roots ≡ [] → ⊥
    empty none = omega (arith, ap length (sym one ∙ none))

    many : (a b : ℕ) (rs : List ℕ) → f.roots ≡ a ∷ b ∷ rs → ⊥
    many a b rs two = omega (arith, ap length (sym one ∙ two))

-- the refusal of a word length
pub width_refused : (f : Forms) (cs : List (Option Class)) → Known f cs → (r n : ℕ) → f.roots ≡ r ∷ []
    → ((at : Place) → E10 f at → ⊥) → n ≡ slice_index (items_of (kind_at f r)) 2
    → (number_at f n ≡ 0) ⊎ (64 < number_at f n) → (e : Refusal) (at : Place) → at ≡ (node f n).place
    → e ≡ Broken (record { rule = record { family = E; number = 11 }; spot = At at })
    → RefusesAt E e (IsFirst f)
width_refused f cs k r n one whole is bad e at place told =
    let kind : kind_at f n ≡ Number (number_at f n) =
    ap (kind_at f) is ∙ is_width f cs k r [] one ∙ ap (λ i. Number (number_at f i)) (sym is) in
    let broken : E11 f at = (r, n, number_at f n, [], one, is_program f cs k.classes r [] one, is, kind, bad, place) in
    let P : Refusal → Type 0 = λ x. RefusesAt E x (IsFirst f) in
    subst P (sym told) (refl, inr (refl, broken, whole))

-- a refusal by rule E10
pub shape_refused : (f : Forms) (e : Refusal) → RefusesAt E e (λ k at. (k ≡ 10) × IsFirstE10 f at)
    → RefusesAt E e (IsFirst f)
shape_refused f NoMemory h = tt
shape_refused f (Broken b) h = (h.0, by_spot b.spot b.rule.number h.1)
  where
    by_spot : (x : Spot) (k : ℕ) → SpotIs x (λ at. (k ≡ 10) × IsFirstE10 f at) → SpotIs x (IsFirst f k)
    by_spot (At at) k h = inl h
    by_spot (Offset o) k h = h
    by_spot (Named x) k h = h
    by_spot Nowhere k h = h
