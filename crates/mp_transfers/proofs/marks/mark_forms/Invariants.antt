use Rattle.std.proofs.Common.{take}
use Rattle.mp_transfers.specs.Marks.{IsMarking}
use Rattle.mp_transfers.proofs.marks.mark_forms.Given as goal

abbrev pub invariant-loop-form : goal.invariant-loop-form
invariant-loop-form l = IsMarking (take l.form-index l.forms) l.number l.end l.initial.marks l.marks l.next
