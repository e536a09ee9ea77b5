use Rattle.process_transfers.proofs.Serving.{FormsSoFar}
use Rattle.process_transfers.proofs.forms.form_transfers.Given as goal

abbrev pub invariant-loop-index : goal.invariant-loop-index
invariant-loop-index l =
    FormsSoFar l.program l.layout.roles l.layout.cells l.enables l.index l.fn.transfers l.transfers
