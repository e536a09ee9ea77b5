use Rattle.std.proofs.Common.{◌≡◌, ◌≤◌}
use Rattle.mp_program.specs.Names.{pad_number}
use Rattle.process_plan.specs.Roles.{output_number}
use Rattle.process_layout.specs.Holding.{HoldCells}
use Rattle.process_layout.specs.Laying.{value_roles}
use Rattle.process_layout.proofs.values.lay_definitions.Given as goal

abbrev pub invariant-loop-index : goal.invariant-loop-index
invariant-loop-index l = record {
  roles : l.laid.roles ≡ value_roles l.defs l.index;
  cells : HoldCells l.defs l.laid;
  inputs : l.inputs ≡ pad_number l.defs l.index;
  outputs : l.outputs ≡ output_number l.defs l.index;
  few : l.inputs ≤ l.index;
  fewer : l.outputs ≤ l.index;
}
