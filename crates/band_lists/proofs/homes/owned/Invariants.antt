use Rattle.std.proofs.Common.{◌≡◌, ◌==◌, ◌<◌, ◌&&◌, ℕ, false, length, get_or, take}
use Rattle.std.specs.List.{list_any}
use Rattle.band_lists.specs.Pins.{is_own}
use Rattle.band_lists.proofs.homes.owned.Given as goal

abbrev pub invariant-loop-pin : goal.invariant-loop-pin
invariant-loop-pin l = record {
  long : length l.flags.items ≡ l.segments;
  flags : (k : ℕ) → k < l.segments
      → get_or l.flags.items k false ≡ list_any (λ p. p.segment == k && is_own p) (take l.pin-index l.pins);
}
