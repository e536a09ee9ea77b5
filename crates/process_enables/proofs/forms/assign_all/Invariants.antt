use Rattle.process_enables.proofs.Assigning.{AssignsBelow}
use Rattle.process_enables.proofs.forms.assign_all.Given as goal

abbrev pub invariant-loop-form : goal.invariant-loop-form
invariant-loop-form l = AssignsBelow l.forms l.enable l.fn.enables l.enables l.form-index
