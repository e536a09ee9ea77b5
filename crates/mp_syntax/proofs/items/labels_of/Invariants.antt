use Rattle.std.proofs.Common.{◌≡◌, ◌≤◌, ◌++◌, drop}
use Rattle.mp_syntax.specs.Shape.{labels_from}
use Rattle.mp_syntax.proofs.items.labels_of.Given as goal

abbrev pub invariant-loop-node : goal.invariant-loop-node
invariant-loop-node l = record {
  few : l.before ≤ l.node-index;
  rest : l.labels ++ labels_from l.forms l.before (drop l.node-index l.elements) ≡ labels_from l.forms 0 l.elements;
}
