use Rattle.std.proofs.Common.{◌≡◌, ◌++◌}
use Rattle.process_layout.specs.Holding.{KeepCells}
use Rattle.process_layout.specs.Laying.{entry_roles}
use Rattle.process_layout.proofs.places.lay_stack.Given as goal

abbrev pub invariant-loop-level : goal.invariant-loop-level
invariant-loop-level l = record {
  roles : l.laid.roles ≡ l.fn.before.roles ++ entry_roles l.process l.places l.level;
  cells : KeepCells l.fn.before l.laid;
}
