use Rattle.std.proofs.Common.{inl, inr}
use Rattle.strip_rows.proofs.Pairing.{upon_none, upon_below, upon_above, upon_all}
use Rattle.strip_rows.proofs.pairs.pair_upon.Goals as goal

-- src/pairs.rt
pub loop-i-init : goal.loop-i-init
loop-i-init c = upon_none c.args.numbers.now c.args.first c.args.lost.now c.args.fresh.now c.args.pairs.now.items

-- src/pairs.rt
pub loop-i-preserved-then-below-above : goal.loop-i-preserved-then-below-above
loop-i-preserved-then-below-above c =
    upon_below c.args.numbers.now c.args.first c.args.lost.now c.args.fresh.now c.loop-i.i c.loop-i.j c.loop-i.second
    c.args.pairs.now.items c.loop-i.pairs.items c.add_if_upon.new.pairs.items c.requires.fresh c.loop-i-test.true
    c.if-j-fresh.false c.loop-i.invariant
    c.in_ok-add_if_upon.ensures c.if-below-above.true

-- src/pairs.rt
pub loop-i-preserved : goal.loop-i-preserved
loop-i-preserved c =
    upon_above c.args.numbers.now c.args.first c.args.lost.now c.args.fresh.now c.loop-i.i c.loop-i.j c.loop-i.second
    c.in_ok-second.second
    c.args.pairs.now.items c.loop-i.pairs.items c.add_if_upon.new.pairs.items c.requires.lost c.loop-i-test.true
    c.if-j-fresh.false c.loop-i.invariant
    c.in_ok-add_if_upon.ensures c.if-below-above.false c.in_ok-second.ensures

-- src/pairs.rt
pub returns-then-j-fresh : goal.returns-then-j-fresh
returns-then-j-fresh c =
    upon_all c.args.numbers.now c.args.first c.args.lost.now c.args.fresh.now c.loop-i.i c.loop-i.j c.loop-i.second
    c.args.pairs.now.items
    c.loop-i.pairs.items c.loop-i.invariant (inr c.if-j-fresh.true)

-- src/pairs.rt
pub returns : goal.returns
returns c =
    upon_all c.args.numbers.now c.args.first c.args.lost.now c.args.fresh.now c.loop-i.i c.loop-i.j c.loop-i.second
    c.args.pairs.now.items
    c.loop-i.pairs.items c.loop-i.invariant (inl c.loop-i-test.false)
