use Rattle.process_enables.specs.Forms.{EnablesBelow}
use Rattle.process_enables.proofs.forms.enable_all_inner.Given as goal

abbrev pub invariant-loop-form : goal.invariant-loop-form
invariant-loop-form l = EnablesBelow l.program l.form l.fn.exprs l.exprs l.fn.enables l.enables
