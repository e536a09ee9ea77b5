-- Lemmas of ranks, equal squares and the order of squares, for all crates above.
use Rattle.std.proofs.Common.{ℕ, zero, suc, ◌≡◌, ◌⊎◌, inl, inr, refl, sym, ◌∙◌, ap, arith}
use Rattle.std.proofs.lemmas.Int.{ints, by_lt_z}
use Rattle.std.proofs.lemmas.Bool.{cases_lt}
use Rattle.lam_geom.specs.declared.layer.Layer.{Layer}
use Rattle.lam_geom.specs.declared.layer.Layer.TheVariants.{ND, NP, NC, NM, NI, NB, NG}
use Rattle.lam_geom.specs.Squares.{Square, Before, rank}

pub layer_of : ℕ → Layer
layer_of zero = NM
layer_of (suc zero) = NP
layer_of (suc (suc zero)) = ND
layer_of (suc (suc (suc zero))) = NC
layer_of (suc (suc (suc (suc zero)))) = NI
layer_of (suc (suc (suc (suc (suc zero))))) = NB
layer_of (suc (suc (suc (suc (suc (suc n)))))) = NG

pub layer_back : (l : Layer) → layer_of (rank l) ≡ l
unfolding layer_of
layer_back NM = refl
layer_back NP = refl
layer_back ND = refl
layer_back NC = refl
layer_back NI = refl
layer_back NB = refl
layer_back NG = refl

-- layers of one rank are one
pub of_ranks : (l m : Layer) → rank l ≡ rank m → l ≡ m
of_ranks l m e = sym (layer_back l) ∙ ap layer_of e ∙ layer_back m

pub same_square : (s t : Square) → s.layer ≡ t.layer → s.x ≡ t.x → s.y ≡ t.y → s ≡ t
same_square s t layer x y = λ i. record { layer = layer i; x = x i; y = y i }

pub before_asymmetric : (s t : Square) → Before s t → Before t s → ⊥
before_asymmetric s t a b = omega (arith, ints)

pub before_then : (s t u : Square) → Before s t → Before t u → Before s u
before_then s t u (inl p) (inl q) = inl (omega (arith, ints, p, q))
before_then s t u (inl p) (inr (inl q)) = inl (let e = q.0 in omega (arith, ints, p, e))
before_then s t u (inl p) (inr (inr q)) = inl (let e = q.0 in omega (arith, ints, p, e))
before_then s t u (inr (inl p)) (inl q) = inl (let e = p.0 in omega (arith, ints, q, e))
before_then s t u (inr (inr p)) (inl q) = inl (let e = p.0 in omega (arith, ints, q, e))
before_then s t u (inr (inl p)) (inr (inl q)) =
    inr (inl (p.0 ∙ q.0, (let e = p.1 in let f = q.1 in omega (arith, ints, e, f))))
before_then s t u (inr (inl p)) (inr (inr q)) =
    inr (inl (p.0 ∙ q.0, (let e = p.1 in let f = q.1 in omega (arith, ints, e, f))))
before_then s t u (inr (inr p)) (inr (inl q)) =
    inr (inl (p.0 ∙ q.0, (let e = p.1 in let f = q.1 in omega (arith, ints, e, f))))
before_then s t u (inr (inr p)) (inr (inr q)) = inr (inr (p.0 ∙ q.0, p.1 ∙ q.1, omega (arith, p.2, q.2)))

-- of two squares one is before the other, or they are one
pub before_total : (s t : Square) → Before s t ⊎ (s ≡ t) ⊎ Before t s
before_total s t =
    by_lt_z s.y t.y (λ a. inl (inl a)) (λ a. by_lt_z t.y s.y (λ b. inr (inr (inl b))) (λ b. row (omega (arith, ints))))
  where
    on_place : s.y ≡ t.y → s.x ≡ t.x → Before s t ⊎ (s ≡ t) ⊎ Before t s
    on_place e f = elim (cases_lt (rank s.layer) (rank t.layer)) [
      | inl a ↦ inl (inr (inr (e, f, a)))
      | inr a ↦ elim (cases_lt (rank t.layer) (rank s.layer)) [
        | inl b ↦ inr (inr (inr (inr (sym e, sym f, b))))
        | inr b ↦ inr (inl (same_square s t (of_ranks s.layer t.layer (omega arith)) f e))
      ]
    ]

    row : s.y ≡ t.y → Before s t ⊎ (s ≡ t) ⊎ Before t s
    row e = by_lt_z s.x t.x (λ a. inl (inr (inl (e, a))))
        (λ a. by_lt_z t.x s.x (λ b. inr (inr (inr (inl (sym e, b))))) (λ b. on_place e (omega (arith, ints))))
