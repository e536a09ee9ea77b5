use Rattle.std.proofs.Common.{◌≡◌, true}
use Rattle.std.specs.Prelude.{slice_range}
use Rattle.std.specs.List.{list_all}
use Rattle.mp_base.specs.Token.{is_token}
use Rattle.form_reader.specs.Text.{place_at}
use Rattle.form_reader.proofs.text.run_end.Given as goal

abbrev pub invariant-loop-i : goal.invariant-loop-i
invariant-loop-i l = record {
  run : list_all is_token (slice_range l.bytes l.fn.from.offset l.i) ≡ true;
  offset : l.place.offset ≡ l.i;
  place : l.place ≡ place_at l.bytes l.place.offset;
}
