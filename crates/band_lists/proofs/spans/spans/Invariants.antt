use Rattle.std.proofs.Common.{◌≡◌, ◌<◌, ℕ, length, get_or, take}
use Rattle.band_lists.specs.declared.spans.TheConstants.{NOWHERE}
use Rattle.band_lists.specs.Spans.{columns_at, span_of}
use Rattle.band_lists.proofs.spans.spans.Given as goal

abbrev pub invariant-loop-pin : goal.invariant-loop-pin
invariant-loop-pin l = record {
  long : length l.spans.items ≡ l.segments;
  spans : (k : ℕ) → k < l.segments
      → get_or l.spans.items k NOWHERE ≡ span_of (columns_at l.columns (take l.pin-index l.pins) k);
}
