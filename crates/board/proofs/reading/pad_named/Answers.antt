use Rattle.std.proofs.Common.{sym, ◌∙◌}
use Rattle.board.proofs.Words.{missed_more, place_found, place_none}
use Rattle.board.proofs.reading.pad_named.Goals as goal

pub returns-then-is_pad : goal.returns-then-is_pad
returns-then-is_pad c =
    place_found _ c.args.pads.now c.args.name.now c.loop-place.place c.index-pads-place.result c.loop-place-test.true
    c.index-pads-place.is (sym c.is_pad.ensures ∙ c.if-is_pad.true) c.loop-place.invariant

pub loop-place-preserved : goal.loop-place-preserved
loop-place-preserved c =
    missed_more _ c.args.pads.now c.args.name.now c.loop-place.place c.index-pads-place.result c.loop-place-test.true
    c.index-pads-place.is (sym c.is_pad.ensures ∙ c.if-is_pad.false) c.loop-place.invariant

pub returns : goal.returns
returns c = place_none _ c.args.pads.now c.args.name.now c.loop-place.place c.loop-place-test.false
    c.loop-place.invariant
