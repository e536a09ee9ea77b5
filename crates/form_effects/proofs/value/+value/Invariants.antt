use Rattle.std.proofs.Common.{◌≡◌, ◌==◌, length, map, drop, ◌+◌, ◌-◌, ◌*◌}
use Rattle.std.specs.List.{list_all, list_any}
use Rattle.mp_program.specs.Values.{value_of}
use Rattle.form_effects.proofs.value.+value.Given as goal

abbrev pub decreases-value : goal.decreases-value
decreases-value l = 3 * (length l.program.now.exprs - l.expr) + 2

abbrev pub decreases-applied : goal.decreases-applied
decreases-applied l = 3 * (length l.program.now.exprs - l.before) + 1

abbrev pub decreases-all_are : goal.decreases-all_are
decreases-all_are l = 3 * (length l.program.now.exprs - l.before)

abbrev pub decreases-one_is : goal.decreases-one_is
decreases-one_is l = 3 * (length l.program.now.exprs - l.before)

abbrev pub invariant-all_are-loop-arg : goal.invariant-all_are-loop-arg
invariant-all_are-loop-arg l =
    list_all (λ x. x == l.wanted) (map (value_of l.program l.env) l.args)
    ≡ list_all (λ x. x == l.wanted) (map (value_of l.program l.env) (drop l.arg-index l.args))

abbrev pub invariant-one_is-loop-arg : goal.invariant-one_is-loop-arg
invariant-one_is-loop-arg l =
    list_any (λ x. x == l.wanted) (map (value_of l.program l.env) l.args)
    ≡ list_any (λ x. x == l.wanted) (map (value_of l.program l.env) (drop l.arg-index l.args))
