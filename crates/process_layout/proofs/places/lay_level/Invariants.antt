use Rattle.std.proofs.Common.{◌≡◌, ◌++◌, map, take}
use Rattle.process_layout.specs.Holding.{KeepCells}
use Rattle.process_plan.specs.declared.role.Role.TheVariants.{Stacked}
use Rattle.process_layout.proofs.places.lay_level.Given as goal

abbrev pub invariant-loop-place : goal.invariant-loop-place
invariant-loop-place l = record {
  roles : l.laid.roles ≡ l.fn.before.roles ++ map (Stacked l.process l.level) (take l.place-index l.places);
  cells : KeepCells l.fn.before l.laid;
}
