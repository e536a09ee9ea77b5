-- Lemmas of squares that share an edge, for all crates above.
use Rattle.std.proofs.Common.{inl, inr, sym}
use Rattle.lam_geom.specs.Squares.{Square, Adjoin}

-- they share it both ways
pub adjoin_flip : (Is : Square → Type 0) (s t : Square) → Adjoin Is s t → Adjoin Is t s
adjoin_flip Is s t j = record {
  from = j.to;
  to = j.from;
  same = sym j.same;
  beside = elim j.beside [
    | inl a ↦ inl (sym a.0, elim a.1 [ inl e ↦ inr e | inr e ↦ inl e ])
    | inr a ↦ inr (sym a.0, elim a.1 [ inl e ↦ inr e | inr e ↦ inl e ])
  ];
}

-- squares of one kind are squares of another
pub adjoin_map : (P Q : Square → Type 0) → ((s : Square) → P s → Q s) → (s t : Square) → Adjoin P s t → Adjoin Q s t
adjoin_map P Q f s t j = record { from = f s j.from; to = f t j.to; same = j.same; beside = j.beside }
