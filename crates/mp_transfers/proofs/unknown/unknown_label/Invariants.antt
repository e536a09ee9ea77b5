use Rattle.std.proofs.Common.{◌≡◌, ◌≤◌, ℕ, length, slice_index}
use Rattle.mp_transfers.proofs.Earliest.{Upto}
use Rattle.mp_transfers.proofs.Astray.{IsUnknown}
use Rattle.mp_transfers.proofs.unknown.unknown_label.Given as goal

abbrev pub invariant-loop-k : goal.invariant-loop-k
invariant-loop-k l = record {
  size : length l.marks ≡ length l.program.forms;
  fresh : (f : ℕ) → slice_index l.marks f ≤ l.k;
  upto : Upto (λ at. ⊥) l.program.processes (λ k q at. IsUnknown l.program q at) l.k l.found;
}
