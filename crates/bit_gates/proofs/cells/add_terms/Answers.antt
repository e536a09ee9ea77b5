use Rattle.std.proofs.Common.{subst, sym}
use Rattle.bit_gates.specs.Cells.{AreTerms}
use Rattle.bit_gates.proofs.Terms.{term_more}
use Rattle.bit_gates.proofs.cells.add_terms.Goals as goal

pub named-guard-requires : goal.named-guard-requires
named-guard-requires c =
    (c.requires.named c.loop-transfer.transfer-index (record { guard = 0; target = 0; value = 0 })
    c.loop-transfer-test.true).0

pub named-value-requires : goal.named-value-requires
named-value-requires c =
    (c.requires.named c.loop-transfer.transfer-index (record { guard = 0; target = 0; value = 0 })
    c.loop-transfer-test.true).1

pub loop-transfer-preserved : goal.loop-transfer-preserved
loop-transfer-preserved c =
    subst (AreTerms c.args.exprs.now _ c.args.net.now c.add_term.new.net) (sym c.in_ok-push.ensures.ok)
    (term_more c.args.exprs.now c.args.transfers.now c.loop-transfer.transfer-index
    (record { guard = 0; target = 0; value = 0 })
    c.args.net.now c.loop-transfer.net c.add_term.new.net c.loop-transfer.terms c.named-guard.result
    c.named-value.result
    c.in_ok-term.term c.loop-transfer-test.true c.loop-transfer.invariant c.named-guard.ensures c.named-value.ensures
    c.in_ok-term.ensures)
