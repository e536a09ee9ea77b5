-- Lemmas of joins, for crates above.
use Rattle.std.proofs.Common.{inl, inr, sym, subst₂, ◌⊎◌}
use Rattle.std.specs.Prelude.{◌≢◌, ℤ}
use Rattle.lam_geom.specs.declared.layer.Layer.{Layer}
use Rattle.lam_geom.specs.declared.layer.Layer.TheVariants.{NC, NM, NB}
use Rattle.lam_geom.specs.Squares.{Square}
use Rattle.lam_geom.proofs.Adjoins.{adjoin_flip}
use Rattle.switch_net.specs.Conductors.{Conducts, Contact, Joined}
use Rattle.switch_net.specs.Conductors.Joined.{beside, contact}

pub contact_flip : (covers : Layer → ℤ → ℤ → Type 0) (s t : Square) → Contact covers s t → Contact covers t s
contact_flip covers s t j =
    let P : ℤ → ℤ → Type 0 = λ x y. covers NC x y ⊎ covers NB x y × s.layer ≢ NM × t.layer ≢ NM in
    let d : P t.x t.y = subst₂ P j.x j.y j.by in
    record {
      from = j.to;
      to = j.from;
      x = sym j.x;
      y = sym j.y;
      by = elim d [ inl a ↦ inl a | inr b ↦ inr (b.0, b.2, b.1) ];
    }

-- joins go both ways
pub join_flip : (covers : Layer → ℤ → ℤ → Type 0) (s t : Square) → Joined covers s t → Joined covers t s
join_flip covers s t (beside j) = beside (adjoin_flip (Conducts covers) s t j)
join_flip covers s t (contact j) = contact (contact_flip covers s t j)

-- what is joined conducts
pub join_ends : (covers : Layer → ℤ → ℤ → Type 0) (s t : Square) → Joined covers s t
    → Conducts covers s × Conducts covers t
join_ends covers s t (beside j) = (j.from, j.to)
join_ends covers s t (contact j) = (j.from, j.to)
