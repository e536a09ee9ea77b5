use Rattle.std.proofs.Common.{◌≡◌, ℕ, List, ◌++◌, false}
use Rattle.std.specs.Prelude.{slice_range}
use Rattle.form_reader.specs.Text.{is_gap, place_at}
use Rattle.form_reader.proofs.text.skip.Given as goal

abbrev pub invariant-loop-i : goal.invariant-loop-i
invariant-loop-i l = record {
  gap : (tail : List ℕ) → is_gap false (slice_range l.bytes l.fn.from.offset l.i ++ tail) ≡ is_gap l.comment tail;
  offset : l.place.offset ≡ l.i;
  place : l.place ≡ place_at l.bytes l.place.offset;
}
