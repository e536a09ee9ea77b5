-- The top of a cell, by the halves of a part and by its nodes.
use Rattle.std.proofs.Common.{◌≡◌, ℕ, zero, suc, ◌+◌, ◌-◌, ◌*◌, ◌/◌, ◌<◌, ◌≤◌, List, inl, inr, refl, sym, ◌∙◌, ap, max}
use Rattle.std.proofs.Common.{arith}
use Rattle.std.proofs.lemmas.Bool.{cases_lt, lt-ltb, le-ltb}
use Rattle.cover_tree.specs.declared.part.Part.{Part}
use Rattle.cover_tree.specs.Parts.{top_at, left_half, right_half, top_to, top_of, IsSmall}

pub at_leaf : (depth : ℕ) (s : List ℕ) (p : Part) (c : ℕ) → p.width < 2 → top_to depth s p c ≡ top_at s p.at
unfolding top_to
at_leaf zero s p c h = refl
at_leaf (suc depth) s p c h = rw (lt-ltb p.width 2 h) refl

pub zero_top : (s : List ℕ) (p : Part) (c : ℕ) → top_to zero s p c ≡ top_at s p.at
unfolding top_to
zero_top s p c = refl

pub at_left : (depth : ℕ) (s : List ℕ) (p : Part) (c : ℕ) → 2 ≤ p.width → c < p.base + p.width / 2
    → top_to (suc depth) s p c ≡ max (top_at s p.at) (top_to depth s (left_half p) c)
unfolding top_to
at_left depth s p c h k = rw (le-ltb p.width 2 h, lt-ltb c (p.base + p.width / 2) k) refl

pub at_right : (depth : ℕ) (s : List ℕ) (p : Part) (c : ℕ) → 2 ≤ p.width → p.base + p.width / 2 ≤ c
    → top_to (suc depth) s p c ≡ max (top_at s p.at) (top_to depth s (right_half p) c)
unfolding top_to
at_right depth s p c h k = rw (le-ltb p.width 2 h, le-ltb c (p.base + p.width / 2) k) refl

-- enough depth is enough
same_depth : (d e : ℕ) (s : List ℕ) (p : Part) (c : ℕ) → p.width ≤ d → p.width ≤ e → top_to d s p c ≡ top_to e s p c
same_depth zero e s p c h k = at_leaf zero s p c (omega arith) ∙ sym (at_leaf e s p c (omega arith))
same_depth (suc d) zero s p c h k = at_leaf (suc d) s p c (omega arith) ∙ sym (at_leaf zero s p c (omega arith))
same_depth (suc d) (suc e) s p c h k = elim (cases_lt p.width 2) [
  | inl l ↦ at_leaf (suc d) s p c l ∙ sym (at_leaf (suc e) s p c l)
  | inr l ↦ elim (cases_lt c (p.base + p.width / 2)) [
    | inl m ↦ at_left d s p c l m
        ∙ ap (max (top_at s p.at)) (same_depth d e s (left_half p) c (omega arith) (omega arith))
        ∙ sym (at_left e s p c l m)
    | inr m ↦ at_right d s p c l m
        ∙ ap (max (top_at s p.at)) (same_depth d e s (right_half p) c (omega arith) (omega arith))
        ∙ sym (at_right e s p c l m)
  ]
]

pub top_leaf : (s : List ℕ) (p : Part) (c : ℕ) → p.width < 2 → top_of s p c ≡ top_at s p.at
top_leaf s p c h = at_leaf p.width s p c h

pub top_left : (s : List ℕ) (p : Part) (c : ℕ) → 2 ≤ p.width → c < p.base + p.width / 2
    → top_of s p c ≡ max (top_at s p.at) (top_of s (left_half p) c)
top_left s p c h k =
    same_depth p.width (suc p.width) s p c (omega arith) (omega arith) ∙ at_left p.width s p c h k
    ∙ ap (max (top_at s p.at)) (same_depth p.width (p.width / 2) s (left_half p) c (omega arith) (omega arith))

pub top_right : (s : List ℕ) (p : Part) (c : ℕ) → 2 ≤ p.width → p.base + p.width / 2 ≤ c
    → top_of s p c ≡ max (top_at s p.at) (top_of s (right_half p) c)
top_right s p c h k =
    same_depth p.width (suc p.width) s p c (omega arith) (omega arith) ∙ at_right p.width s p c h k
    ∙ ap (max (top_at s p.at))
    (same_depth p.width (p.width - p.width / 2) s (right_half p) c (omega arith) (omega arith))

-- the nodes of the part are the same
pub record SamePart (s t : List ℕ) (p : Part) : Type 0 where
  pub same : (k : ℕ) → p.at ≤ k → k + 1 < p.at + 2 * p.width → top_at t k ≡ top_at s k

pub same_left : (s t : List ℕ) (p : Part) → 2 ≤ p.width → SamePart s t p → SamePart s t (left_half p)
same_left s t p h e = record { same = λ k l m. e.same k (omega arith) (omega arith) }

pub same_right : (s t : List ℕ) (p : Part) → 2 ≤ p.width → SamePart s t p → SamePart s t (right_half p)
same_right s t p h e = record { same = λ k l m. e.same k (omega arith) (omega arith) }

same_to : (d : ℕ) (s t : List ℕ) (p : Part) (c : ℕ) → 0 < p.width → SamePart s t p → top_to d t p c ≡ top_to d s p c
same_to zero s t p c v e =
    zero_top t p c ∙ e.same p.at (omega arith) (omega arith) ∙ sym (zero_top s p c)
same_to (suc d) s t p c v e = let f : top_at t p.at ≡ top_at s p.at = e.same p.at (omega arith) (omega arith) in
    elim (cases_lt p.width 2) [
      | inl l ↦ at_leaf (suc d) t p c l ∙ f ∙ sym (at_leaf (suc d) s p c l)
      | inr l ↦ elim (cases_lt c (p.base + p.width / 2)) [
        | inl m ↦ at_left d t p c l m ∙ ap (λ n. max n (top_to d t (left_half p) c)) f
            ∙ ap (max (top_at s p.at)) (same_to d s t (left_half p) c (omega arith) (same_left s t p l e))
            ∙ sym (at_left d s p c l m)
        | inr m ↦ at_right d t p c l m ∙ ap (λ n. max n (top_to d t (right_half p) c)) f
            ∙ ap (max (top_at s p.at)) (same_to d s t (right_half p) c (omega arith) (same_right s t p l e))
            ∙ sym (at_right d s p c l m)
      ]
    ]

pub same_top : (s t : List ℕ) (p : Part) (c : ℕ) → 0 < p.width → SamePart s t p → top_of t p c ≡ top_of s p c
same_top s t p c v e = same_to p.width s t p c v e

pub small_left : (p : Part) → 2 ≤ p.width → IsSmall p → IsSmall (left_half p)
small_left p h s = let a = s.places in let b = s.cells in
    record { some = omega arith; places = omega arith; cells = omega arith }

pub small_right : (p : Part) → 2 ≤ p.width → IsSmall p → IsSmall (right_half p)
small_right p h s = let a = s.places in let b = s.cells in
    record { some = omega arith; places = omega arith; cells = omega arith }
