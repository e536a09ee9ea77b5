-- The items of a list stand in range, and there are no more of them than nodes.
use Rattle.std.proofs.Common.{◌≡◌, inl, inr, ℕ, ◌+◌, ◌<◌, ◌≤◌, true, false, List, [], ◌∷◌, refl}
use Rattle.std.proofs.Common.{sym, ◌∙◌, length, arith, get_or, drop, slice_index, eqb}
use Rattle.std.specs.List.{list_any}
use Rattle.std.proofs.lemmas.Bool.{eqb-true, ne_eqb, or_cases}
use Rattle.std.proofs.lemmas.List.{get_or_default, get_or-drop, length-drop}
use Rattle.std.proofs.lemmas.Map.Keys.{IsDistinct-from_apart}
use Rattle.std.proofs.lemmas.Map.Steps.{length-le_from_distinct_below}
use Rattle.form_reader.specs.declared.forms.Forms.{Forms}
use Rattle.form_reader.specs.Sound.{IsSound, kind_at, items_of}

pub items_inside : (f : Forms) → IsSound f → (n : ℕ) → n < length f.nodes → (k : ℕ)
    → k < length (items_of (kind_at f n)) → slice_index (items_of (kind_at f n)) k < length f.nodes
items_inside f s n lt k kl = (s.behind n k _ (lt, kl, refl)).1

-- where a number stands in a list
stands_at : (q : ℕ) (xs : List ℕ) → list_any (eqb q) xs ≡ true → (k : ℕ) × (k < length xs) × (slice_index xs k ≡ q)
stands_at q [] h = absurd (cc)
stands_at q (x ∷ xs) h = elim (or_cases (eqb q x) (list_any (eqb q) xs) h) [
  | inl here ↦ (0, omega arith, sym (eqb-true q x here))
  | inr later ↦ let r = stands_at q xs later in (
    r.0 + 1,
    omega (arith, r.1),
    let e : slice_index (x ∷ xs) (r.0 + 1) ≡ slice_index xs r.0 =
        rw Rattle.std.proofs.Common.add-one refl in e ∙ r.2,
  )
]

pub items_few : (f : Forms) → IsSound f → (n : ℕ) → n < length f.nodes
    → length (items_of (kind_at f n)) ≤ length f.nodes
items_few f s n lt =
    length-le_from_distinct_below (items_of (kind_at f n)) (length f.nodes)
    (IsDistinct-from_apart eqb (items_of (kind_at f n)) apart) below
  where
    apart : (i j d : ℕ) → i < j → j < length (items_of (kind_at f n))
        → eqb (get_or (items_of (kind_at f n)) i d) (get_or (items_of (kind_at f n)) j d) ≡ false
    apart i j d ij jl =
        let xs = items_of (kind_at f n) in
        let il : i < length xs = omega (arith, ij, jl) in
        ne_eqb (get_or xs i d) (get_or xs j d) (λ e.
        let same : slice_index xs i ≡ slice_index xs j =
        get_or_default xs i 0 d il ∙ e ∙ sym (get_or_default xs j 0 d jl) in
        let equal : i ≡ j = s.one_place n n i j (slice_index xs i) (lt, il, refl) (lt, jl, same) in
        absurd (omega (arith, ij, equal)))

    below : (q : ℕ) → list_any (eqb q) (items_of (kind_at f n)) ≡ true → q < length f.nodes
    below q h = let r = stands_at q (items_of (kind_at f n)) h in omega (arith, r.2, items_inside f s n lt r.0 r.1)

pub drop_inside : (xs : List ℕ) (i n : ℕ) → ((k : ℕ) → k < length xs → slice_index xs k < n) → (k : ℕ)
    → k < length (drop i xs) → slice_index (drop i xs) k < n
drop_inside xs i n h k kl = rw (get_or-drop i xs k 0) (h (i + k) (omega (arith, length-drop i xs, kl)))
