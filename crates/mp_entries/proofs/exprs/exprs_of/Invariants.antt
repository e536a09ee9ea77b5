use Rattle.std.proofs.Common.{◌≡◌, map, slice_index}
use Rattle.mp_entries.specs.Entries.{expr_at, is_expr, nodes_below}
use Rattle.mp_entries.proofs.exprs.exprs_of.Given as goal

abbrev pub invariant-loop-node : goal.invariant-loop-node
invariant-loop-node l = l.exprs ≡ map (expr_at l.forms (slice_index l.ranks)) (nodes_below (is_expr l.classes) l.node)
