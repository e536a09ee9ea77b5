use Rattle.std.proofs.Common.{◌≡◌, ◌+◌, ◌-◌, ◌*◌, length, drop}
use Rattle.std.specs.List.{list_any}
use Rattle.mp_program.specs.Reads.{sets, branches_set}
use Rattle.form_effects.proofs.links.+sets.Given as goal

abbrev pub decreases-sets : goal.decreases-sets
decreases-sets l = 3 * (length l.program.now.forms - l.form) + 2

abbrev pub decreases-sets_in : goal.decreases-sets_in
decreases-sets_in l = 3 * (length l.program.now.forms - l.before) + 1

abbrev pub decreases-sets_one : goal.decreases-sets_one
decreases-sets_one l = 3 * (length l.program.now.forms - l.before)

abbrev pub invariant-sets_in-loop-branch : goal.invariant-sets_in-loop-branch
invariant-sets_in-loop-branch l = branches_set l.branches (sets l.program l.name)
    ≡ branches_set (drop l.branch-index l.branches) (sets l.program l.name)

abbrev pub invariant-sets_one-loop-form : goal.invariant-sets_one-loop-form
invariant-sets_one-loop-form l =
    list_any (sets l.program l.name) l.forms ≡ list_any (sets l.program l.name) (drop l.form-index l.forms)
