use Rattle.std.proofs.Common.{◌≡◌, ◌<◌, ℕ, true, false, length, slice_index_or}
use Rattle.mp_program.specs.Reads.{sets}
use Rattle.form_effects.proofs.links.quiet_for.Given as goal

pub record IsQuietSoFar (l : goal.Live-loop-i) : Type 0 where
  pub size : length l.marks ≡ l.i
  pub quiet : (f : ℕ) → f < l.i → slice_index_or l.marks f false ≡ true → sets l.program l.name f ≡ false

abbrev pub invariant-loop-i : goal.invariant-loop-i
invariant-loop-i l = IsQuietSoFar l
