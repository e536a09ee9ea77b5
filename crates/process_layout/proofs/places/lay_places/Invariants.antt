use Rattle.std.proofs.Common.{◌≡◌, ◌++◌, ◌-◌, ◌≤◌}
use Rattle.process_layout.specs.Holding.{KeepCells}
use Rattle.process_layout.specs.Laying.{place_roles}
use Rattle.process_layout.proofs.places.lay_places.Given as goal

abbrev pub invariant-loop-place : goal.invariant-loop-place
invariant-loop-place l = record {
  roles : l.laid.roles ≡ l.fn.before.roles ++ place_roles l.process (l.place - 1);
  cells : KeepCells l.fn.before l.laid;
  within : l.place - 1 ≤ l.forms - 1;
}
