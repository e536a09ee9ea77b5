-- The pairs so far are drawn.
use Rattle.rule_rows.proofs.Leading.{AreLed}
use Rattle.rule_rows.proofs.leads.leading.Given as goal

abbrev pub invariant-loop-pair : goal.invariant-loop-pair
invariant-loop-pair l = AreLed l.tiles l.pair-items l.pair-index l.rects
