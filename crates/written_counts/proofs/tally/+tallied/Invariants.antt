use Rattle.std.proofs.Common.{length, take, map, ◌+◌, ◌-◌, ◌*◌, ℕ, List}
use Rattle.std.specs.Prelude.{slice_index, slice_index_or}
use Rattle.mp_base.specs.declared.refusal.Place.{Place}
use Rattle.mp_written.specs.declared.program.ExprKind.TheVariants.{Use}
use Rattle.mp_written.specs.Functions.{functions, function_index}
use Rattle.written_meanings.specs.Meanings.{usable}
use Rattle.written_counts.specs.Counts.{count_through, sum_of, no_count, function_counts}
use Rattle.written_counts.specs.Tallies.{Adds, IsKind, cost, count_at, usable_count}
use Rattle.written_counts.proofs.tally.+tallied.Given as goal

abbrev pub decreases-add_expr : goal.decreases-add_expr
decreases-add_expr l = 2 * (length (l.counting.now.program.now).exprs - l.expr) + 1

abbrev pub decreases-add_operator : goal.decreases-add_operator
decreases-add_operator l = 2 * (length (l.counting.now.program.now).exprs - l.expr)

abbrev pub decreases-add_use : goal.decreases-add_use
decreases-add_use l = 2 * (length (l.counting.now.program.now).exprs - l.expr)

abbrev pub invariant-add_operator-loop-arg : goal.invariant-add_operator-loop-arg
invariant-add_operator-loop-arg l =
    let g = l.counting in
    Adds g.cap l.copies (sum_of (slice_index g.costs.now l.expr)
    (map (count_at g.measure g.program.now l.owner) (take l.arg-index l.args))) l.fn.sum l.sum

abbrev pub invariant-add_use-loop-i : goal.invariant-add_use-loop-i
invariant-add_use-loop-i l =
    let g = l.counting in
    let w = g.program.now in
    (at : Place) (name : List ℕ) → IsKind w l.expr (Use at name l.args)
    → Adds g.cap l.copies
    (count_through (slice_index_or (function_counts (cost g.measure w) w.exprs (functions w) (usable_count w l.owner))
    (function_index (usable (functions w) l.owner) name) no_count)
    (map (count_at g.measure w l.owner) (take l.i l.args))) l.fn.sum l.sum
