use Rattle.std.proofs.Common.{ℕ, ◌<◌, ◌≤◌, length, get_or}
use Rattle.mask_nodes.specs.Ends.{pair_of, AreListed}
use Rattle.mask_nodes.proofs.channels.list_channels.Given as goal

abbrev pub invariant-loop-i : goal.invariant-loop-i
invariant-loop-i l = record {
  listed : AreListed l.gates l.all l.plain l.implanted l.i l.channels;
  within : l.place ≤ length l.all;
  before : (j : ℕ) → j < l.place → (get_or l.all j (pair_of 0 0)).a < l.i;
  after : (j : ℕ) → l.place ≤ j → j < length l.all → l.i ≤ (get_or l.all j (pair_of 0 0)).a;
}
