-- The first defect is the first place of rule E10.
use Rattle.std.proofs.Common.{◌≡◌, inl, inr, ℕ, ◌<◌, ◌≤◌, List, [], ◌∷◌, refl, sym, ◌∙◌, ap, subst, length, arith}
use Rattle.std.proofs.Common.{get_or, slice_index}
use Rattle.std.proofs.lemmas.Bool.{cases_lt}
use Rattle.mp_base.specs.declared.refusal.Place.{Place}
use Rattle.mp_base.specs.declared.refusal.Family.TheVariants.{E}
use Rattle.mp_base.specs.declared.refusal.Spot.{Spot}
use Rattle.mp_base.specs.declared.refusal.Spot.TheVariants.{At, Offset, Named, Nowhere}
use Rattle.mp_base.specs.declared.refusal.Refusal.{Refusal}
use Rattle.mp_base.specs.declared.refusal.Refusal.TheVariants.{NoMemory, Broken}
use Rattle.mp_base.specs.Refuses.{RefusesAt, SpotIs}
use Rattle.form_reader.specs.declared.forms.Forms.{Forms}
use Rattle.form_reader.specs.Sound.{node, IsSound}
use Rattle.mp_shapes.specs.declared.table.Class.{Class}
use Rattle.mp_shapes.specs.Standing.{StandsFor, root, item, IsDefect, IsFirstDefect, E10, IsFirstE10}
use Rattle.mp_shapes.proofs.Finding.{inside}

-- nodes in text order have their offsets in order
pub offsets : (f : Forms) → IsSound f → (i j : ℕ) → i ≤ j → j < length f.nodes
    → (node f i).place.offset ≤ (node f j).place.offset
offsets f s i j le lt =
    elim (cases_lt i j) [ inl less ↦ omega (arith, s.ascend i j less lt) | inr ge ↦ same (omega (arith, le, ge)) ]
  where
    same : i ≡ j → (node f i).place.offset ≤ (node f j).place.offset
    same e = omega (arith, ap (λ k. (node f k).place.offset) e)

-- what stands for a class is in the first form
pub in_first : (f : Forms) → IsSound f → (a b : ℕ) (rs : List ℕ) → f.roots ≡ a ∷ b ∷ rs → (n : ℕ) (c : Class)
    → StandsFor f n c → n < b
in_first f s a b rs is n c (root r qs e) = omega (arith, (s.apart a b rs is).0, s.first r qs e)
in_first f s a b rs is n c (item m j n' d e l up it lay ic) =
    (s.apart a b rs is).1 m j n it (in_first f s a b rs is m d up)

pub some_root : (f : Forms) (n : ℕ) (c : Class) → StandsFor f n c → f.roots ≡ [] → ⊥
some_root f n c (root r qs e) none = let h : r ∷ qs ≡ [] = sym e ∙ none in cc
some_root f n c (item m j n' d e l up it lay ic) none = some_root f m d up none

pub second_inside : (f : Forms) → IsSound f → (a b : ℕ) (rs : List ℕ) → f.roots ≡ a ∷ b ∷ rs → b < length f.nodes
second_inside f s a b rs is =
    let P : List ℕ → Type 0 = λ xs. (k : ℕ) → k < length xs → slice_index xs k < length f.nodes in
    subst P is s.roots 1 (omega arith)

-- a first defect
pub first_of_defects : (f : Forms) → IsSound f → (n : ℕ) → IsFirstDefect f n → IsFirstE10 f (node f n).place
first_of_defects f s n (lt, d, least) = (
  inl (n, d, refl),
  λ there e. elim e [
    | inl (m, dm, at) ↦ at_node there m dm at
    | inr rest ↦ elim rest [
      | inl (none, at) ↦ absurd (some_root f n d.0 d.1 none)
      | inr (a, b, rs, is, at) ↦ at_second there a b rs is at
    ]
  ],
)
  where
    at_node : (there : Place) (m : ℕ) → IsDefect f m → there ≡ (node f m).place → (node f n).place.offset ≤ there.offset
    at_node there m dm at =
        omega (arith, offsets f s n m (least m dm) (inside f s m dm.0 dm.1), ap (λ (p : Place). p.offset) at)

    at_second : (there : Place) (a b : ℕ) (rs : List ℕ) → f.roots ≡ a ∷ b ∷ rs → there ≡ (node f b).place
        → (node f n).place.offset ≤ there.offset
    at_second there a b rs is at =
        omega (
          arith,
          s.ascend n b (in_first f s a b rs is n d.0 d.1) (second_inside f s a b rs is),
          ap
              (λ (p : Place). p.offset) at,
        )

-- a second form, where no node has a defect
pub second_form : (f : Forms) (a b : ℕ) (rs : List ℕ) → ((m : ℕ) → IsDefect f m → ⊥) → f.roots ≡ a ∷ b ∷ rs
    → IsFirstE10 f (node f b).place
second_form f a b rs clean is = (
  inr (inr (a, b, rs, is, refl)),
  λ there e. elim e [
    | inl (m, dm, at) ↦ absurd (clean m dm)
    | inr rest ↦ elim rest [ inl (none, at) ↦ absurd (clash none) | inr (c, d, qs, too, at) ↦ same there c d qs too at ]
  ],
)
  where
    clash : f.roots ≡ [] → ⊥
    clash none = let h : a ∷ b ∷ rs ≡ [] = sym is ∙ none in cc

    same : (there : Place) (c d : ℕ) (qs : List ℕ) → f.roots ≡ c ∷ d ∷ qs → there ≡ (node f d).place
        → (node f b).place.offset ≤ there.offset
    same there c d qs too at =
        let h : slice_index (a ∷ b ∷ rs) 1 ≡ slice_index (c ∷ d ∷ qs) 1 = ap (λ xs. slice_index xs 1) (sym is ∙ too) in
        omega (arith, ap (λ i. (node f i).place.offset) h, ap (λ (p : Place). p.offset) at)

-- no form
pub no_form : (f : Forms) → f.roots ≡ [] → IsFirstE10 f f.end
no_form f none = (
  inr (inl (none, refl)),
  λ there e. elim e [
    | inl (m, dm, at) ↦ absurd (some_root f m dm.0 dm.1 none)
    | inr rest ↦ elim rest [
      | inl (x, at) ↦ omega (arith, ap (λ (p : Place). p.offset) at)
      | inr (c, d, qs, too, at) ↦ absurd (clash c d qs too)
    ]
  ],
)
  where
    clash : (c d : ℕ) (qs : List ℕ) → f.roots ≡ c ∷ d ∷ qs → ⊥
    clash c d qs too = let h : c ∷ d ∷ qs ≡ [] = sym too ∙ none in cc

-- a refusal by rule E10, at a place
pub refuses : (e : Refusal) (p : Place) (P : ℕ → Place → Type 0)
    → e ≡ Broken (record { rule = record { family = E; number = 10 }; spot = At p }) → P 10 p → RefusesAt E e P
refuses e p P told h = let Q : Refusal → Type 0 = λ r. RefusesAt E r P in subst Q (sym told) (refl, h)

pub refused_first : (f : Forms) → IsSound f → (e : Refusal)
    → RefusesAt E e (λ k at. (k ≡ 10) × (n : ℕ) × IsFirstDefect f n × (at ≡ (node f n).place))
    → RefusesAt E e (λ k at. (k ≡ 10) × IsFirstE10 f at)
refused_first f s NoMemory h = tt
refused_first f s (Broken b) h = (h.0, by_spot b.spot b.rule.number h.1)
  where
    by_spot : (x : Spot) (k : ℕ) → SpotIs x (λ at. (k ≡ 10) × (n : ℕ) × IsFirstDefect f n × (at ≡ (node f n).place))
        → SpotIs x (λ at. (k ≡ 10) × IsFirstE10 f at)
    by_spot (At p) k (ten, n, d, at) = let Q : Place → Type 0 = λ q. (k ≡ 10) × IsFirstE10 f q in
        subst Q (sym at) (ten, first_of_defects f s n d)
    by_spot (Offset o) k h = h
    by_spot (Named x) k h = h
    by_spot Nowhere k h = h

-- no place is named where no node has a defect and there is one form
pub none_broken : (f : Forms) (r : ℕ) (rs : List ℕ) → f.roots ≡ r ∷ rs → length f.roots ≤ 1
    → ((m : ℕ) → IsDefect f m → ⊥) → (at : Place) → E10 f at → ⊥
none_broken f r rs is one clean at e = elim e [
  | inl (m, d, p) ↦ clean m d
  | inr rest ↦ elim rest [ inl (none, p) ↦ empty none | inr (a, b, qs, two, p) ↦ many a b qs two ]
]
  where
    empty : f.roots ≡ [] → ⊥
    empty none = let h : r ∷ rs ≡ [] = sym is ∙ none in cc

    many : (a b : ℕ) (qs : List ℕ) → f.roots ≡ a ∷ b ∷ qs → ⊥
    many a b qs two = omega (arith, one, ap length two)

pub rooted : (xs : List ℕ) (x : ℕ) → 0 < length xs → x ≡ get_or xs 0 x → (rs : List ℕ) × (xs ≡ x ∷ rs)
rooted [] x h is = absurd (omega (arith, h))
rooted (y ∷ ys) x h is = (ys, ap (λ z. z ∷ ys) (sym is))

pub second_root : (xs : List ℕ) (y : ℕ) → 1 < length xs → y ≡ get_or xs 1 y
    → (x : ℕ) × (rs : List ℕ) × (xs ≡ x ∷ y ∷ rs)
second_root [] y h is = absurd (omega (arith, h))
second_root (x ∷ []) y h is = absurd (omega (arith, h))
second_root (x ∷ z ∷ zs) y h is = (x, zs, ap (λ w. x ∷ w ∷ zs) (sym is))
