use Rattle.process_layout.proofs.Called.{AreTold}
use Rattle.process_layout.proofs.calls.calling_forms.Given as goal

abbrev pub invariant-loop-f : goal.invariant-loop-f
invariant-loop-f l = AreTold l.program l.f l.calling.items
