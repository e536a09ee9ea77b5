-- Lists that have the edges of rectangles.
use Rattle.std.proofs.Common.{◌≡◌, inl, inr, sym, subst, arith, List, [], ◌∷◌, ◌++◌}
use Rattle.std.specs.Prelude.{Contains, pos}
use Rattle.std.specs.List.Sorted.{IsPermutation}
use Rattle.std.proofs.lemmas.List.Elements.{Contains-append_left, Contains-push, Contains-push_cases}
use Rattle.std.proofs.lemmas.List.Sorted.{Contains-permutation}
use Rattle.lam_geom.specs.declared.layer.Layer.TheVariants.{ND}
use Rattle.lam_geom.specs.declared.rect.Rect.{Rect}
use Rattle.rule_edges.specs.declared.edge.Edge.{Edge}
use Rattle.rule_edges.specs.declared.facing.Facing.{Facing}
use Rattle.rule_edges.specs.Edges.{AddsEnd, AddsStart, HasEdges, end_of, laid, start_of}

abbrev pub no_rect : Rect
no_rect = record { layer = ND; x0 = pos 0; y0 = pos 0; x1 = pos 0; y1 = pos 0 }

pub has_none : (f : Facing) (edges : List Edge) → HasEdges f [] edges
has_none f edges = record {
  ends = λ r has. absurd (let a = has.1 in omega arith);
  starts = λ r has. absurd (let a = has.1 in omega arith);
}

module _ (f : Facing) (r : Rect) (a b c : List Edge) (end : AddsEnd f r a b) (start : AddsStart f r b c) where
  kept : (e : Edge) → Contains a e → Contains c e
  kept e has =
      let on : Contains b e = elim end [
        | inl h ↦ subst (λ z. Contains z e) (sym h.1)
            (Contains-append_left a (end_of f.gap (laid f.along r) ∷ []) e has)
        | inr h ↦ subst (λ z. Contains z e) (sym h.1) has
      ] in elim start [
        | inl h ↦ subst (λ z. Contains z e) (sym h.1)
            (Contains-append_left b (start_of (laid f.along r) ∷ []) e on)
        | inr h ↦ subst (λ z. Contains z e) (sym h.1) on
      ]

  own_end : r.layer ≡ f.from → Contains c (end_of f.gap (laid f.along r))
  own_end same =
      let e = end_of f.gap (laid f.along r) in
      let on : Contains b e = elim end [
        | inl h ↦ subst (λ z. Contains z e) (sym h.1) (Contains-push a e)
        | inr h ↦ absurd (h.0 same)
      ] in elim start [
        | inl h ↦ subst (λ z. Contains z e) (sym h.1)
            (Contains-append_left b (start_of (laid f.along r) ∷ []) e on)
        | inr h ↦ subst (λ z. Contains z e) (sym h.1) on
      ]

  own_start : r.layer ≡ f.to → Contains c (start_of (laid f.along r))
  own_start same =
      let e = start_of (laid f.along r) in elim start [
        | inl h ↦ subst (λ z. Contains z e) (sym h.1) (Contains-push b e)
        | inr h ↦ absurd (h.0 same)
      ]

  pub has_more : (shapes : List Rect) → HasEdges f shapes a → HasEdges f (shapes ++ r ∷ []) c
  has_more shapes h = record {
    ends = λ q has same. elim (Contains-push_cases shapes r q has) [
      | inl old ↦ kept (end_of f.gap (laid f.along q)) (h.ends q old same)
      | inr e ↦ subst (λ z. Contains c (end_of f.gap (laid f.along z))) e
          (own_end (subst (λ z. z.layer ≡ f.from) (sym e) same))
    ];
    starts = λ q has same. elim (Contains-push_cases shapes r q has) [
      | inl old ↦ kept (start_of (laid f.along q)) (h.starts q old same)
      | inr e ↦ subst (λ z. Contains c (start_of (laid f.along z))) e
          (own_start (subst (λ z. z.layer ≡ f.to) (sym e) same))
    ];
  }

pub has_sorted : (f : Facing) (shapes : List Rect) (old new : List Edge) → IsPermutation old new
    → HasEdges f shapes old → HasEdges f shapes new
has_sorted f shapes old new p h = record {
  ends = λ r has same. Contains-permutation old new (end_of f.gap (laid f.along r)) p (h.ends r has same);
  starts = λ r has same. Contains-permutation old new (start_of (laid f.along r)) p (h.starts r has same);
}
