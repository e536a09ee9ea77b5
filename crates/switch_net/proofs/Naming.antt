-- Lemmas of what labels name, for crates above: a label names at most one conductor.
use Rattle.std.proofs.Common.{◌≡◌, inl, inr, sym, ◌∙◌, subst, arith}
use Rattle.std.specs.Prelude.{ℤ, Option, Some, None}
use Rattle.std.proofs.lemmas.Bool.{cases_lt}
use Rattle.lam_geom.specs.declared.layer.Layer.{Layer}
use Rattle.lam_geom.specs.declared.label.FlatLabel.{FlatLabel}
use Rattle.lam_geom.specs.Squares.{Square, rank}
use Rattle.lam_geom.proofs.SquareOrder.{of_ranks, same_square}
use Rattle.switch_net.specs.Conductors.{ConductsOn}
use Rattle.switch_net.specs.Labels.{Names, IsNamed, IsFirst}

module _ (covers : Layer → ℤ → ℤ → Type 0) where
  one_first : (x y : ℤ) (l m : Layer) → IsFirst covers x y l → IsFirst covers x y m → l ≡ m
  one_first x y l m a b = elim (cases_lt (rank l) (rank m)) [
    | inl h ↦ absurd (b.1 l h a.0)
    | inr h ↦ elim (cases_lt (rank m) (rank l)) [ inl k ↦ absurd (a.1 m k b.0) | inr k ↦ of_ranks l m (omega arith) ]
  ]

  one_named : (x y : ℤ) (o : Option Layer) (l m : Layer) → IsNamed covers x y o l → IsNamed covers x y o m → l ≡ m
  one_named x y None l m a b = one_first x y l m a b
  one_named x y (Some k) l m (inl a) (inl b) = a.0 ∙ sym b.0
  one_named x y (Some k) l m (inl a) (inr b) = absurd (b.0 a.1)
  one_named x y (Some k) l m (inr a) (inl b) = absurd (a.0 b.1)
  one_named x y (Some k) l m (inr a) (inr b) = one_first x y l m a.1 b.1

  pub one_square : (label : FlatLabel) (s t : Square) → Names covers label s → Names covers label t → s ≡ t
  one_square label s t a b =
      same_square s t (one_named label.x label.y label.layer s.layer t.layer a.layer b.layer)
      (a.x ∙ sym b.x) (a.y ∙ sym b.y)

  -- what is named conducts
  pub named_on : (x y : ℤ) (o : Option Layer) (l : Layer) → IsNamed covers x y o l → ConductsOn covers l x y
  named_on x y None l h = h.0
  named_on x y (Some m) l (inl h) = subst (λ k. ConductsOn covers k x y) (sym h.0) h.1
  named_on x y (Some m) l (inr (elsewhere, (conducts, first))) = conducts
