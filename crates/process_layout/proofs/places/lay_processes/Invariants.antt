use Rattle.std.proofs.Common.{◌≡◌, ◌++◌}
use Rattle.process_layout.specs.Holding.{KeepCells}
use Rattle.std.proofs.Common.{false}
use Rattle.std.specs.Prelude.{slice_index_or}
use Rattle.process_layout.specs.Laying.{processes_roles}
use Rattle.process_layout.proofs.places.lay_processes.Given as goal

abbrev pub invariant-loop-index : goal.invariant-loop-index
invariant-loop-index l = record {
  roles : l.laid.roles ≡ l.fn.before.roles ++ processes_roles (λ f. slice_index_or l.calling f false) l.processes
      l.index;
  cells : KeepCells l.fn.before l.laid;
}
