-- Slices of Right have the half.
use Rattle.std.proofs.Common.{◌≡◌, ◌/◌, suc, length, ◌⊎◌, inl, inr, sym, ◌∙◌, ap, arith}
use Rattle.std.specs.Prelude.{◌==◌}
use Rattle.std.specs.Int.{bit_at}
use Rattle.std.proofs.lemmas.Bool.{cases_eq}
use Rattle.std.proofs.lemmas.Nat.Bits.{bit_at-suc, bit_at_above}
use Rattle.nor_net.specs.Laws.{bit}
use Rattle.organelles.specs.declared.slices.Organelle.TheVariants.{Right}
use Rattle.organelles.specs.Tables.{table_of}
use Rattle.organelles.specs.Computing.{OperatorComputes}
use Rattle.organelles.proofs.Standing.{top_low, down_joined}

pub right_computes : OperatorComputes Right
right_computes a b s a_in b_in chains_in w v x y some narrow obeys fits_x fits_y has_x has_y k l =
    by_place (cases_eq (suc k) w)
  where
    by_place : (suc k ≡ w) ⊎ (suc k ≡ w → ⊥)
        → v (record { band = suc k; net = length s.net }) ≡ bit (bit_at (x / 2) k == 1)
    by_place (inl e) =
        let high : bit_at (x / 2) k ≡ 0 = sym (bit_at-suc x k) ∙ bit_at_above x w (suc k) fits_x (omega arith) in
        top_low a b s chains_in (table_of Right).gates 2 0 w v obeys k e ∙ ap (λ n. bit (n == 1)) (sym high)
    by_place (inr ne) =
        down_joined a b s chains_in (table_of Right).gates 2 0 w v obeys k (omega arith) ∙ has_x (suc k) (omega arith)
        ∙ ap (λ n. bit (n == 1)) (bit_at-suc x k)
