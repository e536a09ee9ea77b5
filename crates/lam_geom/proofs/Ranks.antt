-- Layers by their rank, for all crates above.
use Rattle.std.proofs.Common.{◌≡◌, ◌⊎◌, ◌≢◌, inl, inr, ap, eqb, true}
use Rattle.std.proofs.lemmas.Bool.{cases_eq, eqb-true}
use Rattle.lam_geom.specs.declared.layer.Layer.{Layer}
use Rattle.lam_geom.specs.Squares.{rank}
use Rattle.lam_geom.proofs.SquareOrder.{of_ranks}

pub layer_or_not : (a b : Layer) → (a ≡ b) ⊎ (a ≢ b)
layer_or_not a b = elim (cases_eq (rank a) (rank b)) [ inl e ↦ inl (of_ranks a b e) | inr n ↦ inr (λ e. n (ap rank e)) ]

pub one_layer : (a b : Layer) → eqb (rank a) (rank b) ≡ true → a ≡ b
one_layer a b h = of_ranks a b (eqb-true (rank a) (rank b) h)
