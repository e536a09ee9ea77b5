use Rattle.std.proofs.Common.{take}
use Rattle.datapath_steps.specs.Continuing.{AreTerms}
use Rattle.datapath_steps.proofs.transfers.add_terms.Given as goal

abbrev pub invariant-loop-transfer : goal.invariant-loop-transfer
invariant-loop-transfer l =
    AreTerms (take l.transfer-index l.transfers) l.initial.making l.making (record { nets = l.nets; guards = l.guards })
