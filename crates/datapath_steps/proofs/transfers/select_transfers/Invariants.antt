use Rattle.std.proofs.Common.{◌≡◌, ◌==◌, take}
use Rattle.std.specs.List.{filter}
use Rattle.rtl_form.specs.declared.rtl.Transfer.{Transfer}
use Rattle.datapath_steps.proofs.transfers.select_transfers.Given as goal

abbrev pub invariant-loop-transfer : goal.invariant-loop-transfer
invariant-loop-transfer l =
    l.selected ≡ filter (λ (t : Transfer). t.target == l.cell) (take l.transfer-index l.rtl.transfers)
