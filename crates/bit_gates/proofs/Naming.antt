-- Names of bits.
use Rattle.std.proofs.Common.{ℕ, ◌<◌, ◌≤◌, List, Option, sym, subst, arith}
use Rattle.std.specs.Prelude.{All}
use Rattle.std.specs.List.{AllZip}
use Rattle.mp_base.proofs.Zips.{zip_all_right}
use Rattle.nor_net.specs.declared.net.NetId.{NetId}
use Rattle.bit_gates.specs.declared.rails.Rails.{Rails}
use Rattle.bit_gates.specs.Rails.{AllBelow, BitOf, NegationOf}

module _ (n : ℕ) (entries : List (Option Rails)) (below : AllBelow n entries) where
  bit_below : (k : ℕ) (id : NetId) → BitOf entries k id → id.0 < n
  bit_below k id h = subst (λ (i : NetId). i.0 < n) (sym h.2) (below k h.0 h.1).bit_below

  negation_below : (k : ℕ) (id : NetId) → NegationOf entries k id → id.0 < n
  negation_below k id h = subst (λ (i : NetId). i.0 < n) (sym h.2) (below k h.0 h.1).negation_below

  pub bits_below : (ks : List ℕ) (ids : List NetId) → AllZip (BitOf entries) ks ids → All (λ (j : NetId). j.0 < n) ids
  bits_below ks ids h = zip_all_right (BitOf entries) (λ (j : NetId). j.0 < n) bit_below ks ids h

  pub negations_below : (ks : List ℕ) (ids : List NetId) → AllZip (NegationOf entries) ks ids
      → All (λ (j : NetId). j.0 < n) ids
  negations_below ks ids h = zip_all_right (NegationOf entries) (λ (j : NetId). j.0 < n) negation_below ks ids h

pub below_more : (m n : ℕ) (entries : List (Option Rails)) → m ≤ n → AllBelow m entries → AllBelow n entries
below_more m n entries l h k rails is = record {
  bit_below = let b = (h k rails is).bit_below in omega (arith, b);
  negation_below = let b = (h k rails is).negation_below in omega (arith, b);
}
