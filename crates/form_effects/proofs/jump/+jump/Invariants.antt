use Rattle.std.proofs.Common.{◌≡◌, ◌+◌, ◌-◌, ◌*◌, length, drop}
use Rattle.std.specs.List.{flat_map}
use Rattle.mp_program.specs.Values.{value_of}
use Rattle.mp_program.specs.Effects.{effects_of, branch_effects}
use Rattle.form_effects.specs.Linked.{process_at}
use Rattle.form_effects.specs.Jumps.{jump_from}
use Rattle.form_effects.proofs.jump.+jump.Given as goal

abbrev pub decreases-jump_of : goal.decreases-jump_of
decreases-jump_of l = 3 * (length l.program.now.forms - l.form) + 2

abbrev pub decreases-jump_chosen : goal.decreases-jump_chosen
decreases-jump_chosen l = 3 * (length l.program.now.forms - l.before) + 1

abbrev pub decreases-jump_first : goal.decreases-jump_first
decreases-jump_first l = 3 * (length l.program.now.forms - l.before)

abbrev pub invariant-jump_chosen-loop-branch : goal.invariant-jump_chosen-loop-branch
invariant-jump_chosen-loop-branch l =
    branch_effects (value_of l.program l.env) l.branches (effects_of l.program l.env)
    ≡ branch_effects (value_of l.program l.env) (drop l.branch-index l.branches) (effects_of l.program l.env)

abbrev pub invariant-jump_first-loop-form : goal.invariant-jump_first-loop-form
invariant-jump_first-loop-form l =
    jump_from (process_at l.program l.index) (flat_map (effects_of l.program l.env) l.forms)
    ≡ jump_from (process_at l.program l.index) (flat_map (effects_of l.program l.env) (drop l.form-index l.forms))
