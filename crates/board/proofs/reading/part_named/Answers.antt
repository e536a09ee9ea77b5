use Rattle.std.proofs.Common.{sym, ◌∙◌}
use Rattle.board.proofs.Words.{missed_more, place_found, place_none}
use Rattle.board.proofs.reading.part_named.Goals as goal

pub returns-then-is_part : goal.returns-then-is_part
returns-then-is_part g c =
    place_found _ c.args.parts.now c.args.name.now c.loop-place.place c.index-parts-place.result c.loop-place-test.true
    c.index-parts-place.is (sym c.is_part.ensures ∙ c.if-is_part.true) c.loop-place.invariant

pub loop-place-preserved : goal.loop-place-preserved
loop-place-preserved g c =
    missed_more _ c.args.parts.now c.args.name.now c.loop-place.place c.index-parts-place.result c.loop-place-test.true
    c.index-parts-place.is (sym c.is_part.ensures ∙ c.if-is_part.false) c.loop-place.invariant

pub returns : goal.returns
returns g c = place_none _ c.args.parts.now c.args.name.now c.loop-place.place c.loop-place-test.false
    c.loop-place.invariant
