-- Both kinds of tiles.
use Rattle.std.proofs.Common.{rules}
use Rattle.rule_rows.proofs.Columns.{left_one, left_short}
use Rattle.rule_rows.proofs.leads.to_left.Goals as goal

pub returns-then-from-eq1 : goal.returns-then-from-eq1
returns-then-from-eq1 c =
    left_one c.args.from.now c.args.to.now c.at.result (search rules) (search rules) _ (search rules) c.at.ensures
    (search rules)

pub returns-then-is_short : goal.returns-then-is_short
returns-then-is_short c =
    left_short c.args.from.now c.args.to.now c.at-then-is_short.result (search rules) (search rules) _
    (c.is_short.ensures.0 c.if-is_short.true) c.at-then-is_short.ensures (search rules)
