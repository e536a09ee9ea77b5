use Rattle.std.proofs.Common.{◌≡◌, ◌<◌, ℕ, suc, Some, length}
use Rattle.std.specs.Prelude.{slice_get}
use Rattle.path_flat.specs.Numbers.{number_of}
use Rattle.path_flat.proofs.rows.bits_of.Given as goal

abbrev pub invariant-loop-k : goal.invariant-loop-k
invariant-loop-k l = record {
  size : length l.bits ≡ l.k;
  bits : (j : ℕ) → j < l.k → slice_get l.bits j ≡ Some (number_of l.numbers (record { band = suc j; net = l.id.0 }));
}
