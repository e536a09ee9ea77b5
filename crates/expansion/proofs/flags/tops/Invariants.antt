use Rattle.std.proofs.Common.{length, take}
use Rattle.mp_written.specs.Expansion.{form_exprs}
use Rattle.expansion.specs.Walking.{AreFlags}
use Rattle.expansion.proofs.flags.tops.Given as goal

abbrev pub invariant-loop-form : goal.invariant-loop-form
invariant-loop-form l =
    AreFlags (length l.program.exprs) (form_exprs (take l.form-index l.program.forms)) l.flags
