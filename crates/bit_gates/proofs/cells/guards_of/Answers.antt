use Rattle.std.proofs.Common.{refl, subst, sym, take, ◌+◌}
use Rattle.std.specs.List.{AllZip}
use Rattle.bit_gates.specs.Cells.{GuardOf}
use Rattle.bit_gates.proofs.Zipping.{zip_more}
use Rattle.bit_gates.proofs.cells.guards_of.Goals as goal

pub named-requires : goal.named-requires
named-requires c =
    (c.requires c.loop-transfer.transfer-index (record { guard = 0; target = 0; value = 0 })
    c.loop-transfer-test.true).0

pub loop-transfer-preserved : goal.loop-transfer-preserved
loop-transfer-preserved c =
    subst (AllZip (GuardOf c.args.exprs.now) (take (c.loop-transfer.transfer-index + 1) c.args.transfers.now))
    (sym c.in_ok-push.ensures.ok)
    (zip_more (GuardOf c.args.exprs.now) c.args.transfers.now c.loop-transfer.guards c.loop-transfer.transfer-index
    (record { guard = 0; target = 0; value = 0 }) c.named.result.bit c.loop-transfer-test.true
    c.loop-transfer.invariant
    (c.named.result, c.named.ensures, refl))
