-- The borders before `at` are out.
use Rattle.std.proofs.Common.{◌≡◌, ◌⊎◌, ℕ, ◌-◌, ◌<◌, ◌≤◌, false}
use Rattle.cell_set.specs.Sets.{has, room_of}
use Rattle.kept_runs.proofs.borders.clear.Given as goal

abbrev pub invariant-loop-at : goal.invariant-loop-at
invariant-loop-at l = record {
  order : l.from ≤ l.at;
  inside : (c : ℕ) → l.from ≤ c → c < l.at → has l.borders c ≡ false;
  beside : (c : ℕ) → (c < l.from) ⊎ (l.to ≤ c) → has l.borders c ≡ has l.initial.borders c;
  room : room_of l.borders ≡ room_of l.initial.borders;
}

abbrev pub decreases-loop-at : goal.decreases-loop-at
decreases-loop-at l = l.to - l.at
