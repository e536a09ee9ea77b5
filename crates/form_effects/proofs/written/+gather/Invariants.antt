use Rattle.std.proofs.Common.{◌≡◌, ◌+◌, ◌-◌, ◌*◌, length, drop}
use Rattle.std.specs.List.{flat_map}
use Rattle.mp_base.specs.Merge.{join, merged}
use Rattle.mp_program.specs.Values.{value_of}
use Rattle.mp_program.specs.Effects.{effects_of, branch_effects}
use Rattle.form_effects.specs.Written.{written_at}
use Rattle.form_effects.proofs.written.+gather.Given as goal

abbrev pub decreases-gather : goal.decreases-gather
decreases-gather l = 3 * (length l.program.now.forms - l.form) + 2

abbrev pub decreases-gather_chosen : goal.decreases-gather_chosen
decreases-gather_chosen l = 3 * (length l.program.now.forms - l.before) + 1

abbrev pub decreases-gather_all : goal.decreases-gather_all
decreases-gather_all l = 3 * (length l.program.now.forms - l.before)

abbrev pub invariant-gather_chosen-loop-branch : goal.invariant-gather_chosen-loop-branch
invariant-gather_chosen-loop-branch l =
    branch_effects (value_of l.program l.env) l.branches (effects_of l.program l.env)
    ≡ branch_effects (value_of l.program l.env) (drop l.branch-index l.branches) (effects_of l.program l.env)

abbrev pub invariant-gather_all-loop-form : goal.invariant-gather_all-loop-form
invariant-gather_all-loop-form l =
    merged (written_at l.program.defs l.target (flat_map (effects_of l.program l.env) l.forms))
    ≡ join l.all
    (merged (written_at l.program.defs l.target (flat_map (effects_of l.program l.env) (drop l.form-index l.forms))))
