use Rattle.std.proofs.Common.{◌≡◌, ℕ, ◌≤◌, take, false}
use Rattle.form_reader.specs.Text.{comment_after, place_at}
use Rattle.form_reader.specs.Rules.{E1}
use Rattle.form_reader.proofs.text.find_stray.Given as goal

abbrev pub invariant-loop-i : goal.invariant-loop-i
invariant-loop-i l = record {
  state : comment_after false (take l.i l.bytes) ≡ l.comment;
  none : (o : ℕ) → E1 l.bytes o → l.i ≤ o;
  offset : l.place.offset ≡ l.i;
  place : l.place ≡ place_at l.bytes l.place.offset;
}
