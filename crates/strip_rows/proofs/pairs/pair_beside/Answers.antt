use Rattle.std.proofs.Common.{arith}
use Rattle.strip_rows.proofs.Pairing.{beside_none, beside_more, beside_all}
use Rattle.strip_rows.proofs.pairs.pair_beside.Goals as goal

-- src/pairs.rt
pub loop-i-init : goal.loop-i-init
loop-i-init c = beside_none c.args.numbers.now c.args.first c.args.runs.now c.args.pairs.now.items

-- src/pairs.rt
pub loop-i-preserved : goal.loop-i-preserved
loop-i-preserved c =
    beside_more c.args.numbers.now c.args.first c.args.runs.now c.loop-i.i c.args.pairs.now.items c.loop-i.pairs.items
    c.add_if_beside.new.pairs.items (omega arith) c.loop-i-test.true c.loop-i.invariant c.in_ok-add_if_beside.ensures

-- src/pairs.rt
pub returns : goal.returns
returns c =
    beside_all c.args.numbers.now c.args.first c.args.runs.now c.loop-i.i c.args.pairs.now.items c.loop-i.pairs.items
    (omega arith) c.loop-i.invariant
