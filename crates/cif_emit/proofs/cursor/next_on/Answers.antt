use Rattle.std.proofs.Common.{sym, ◌∙◌}
use Rattle.cif_emit.proofs.Drawn.{no_rect}
use Rattle.cif_emit.proofs.Cursors.{passed, found, none_on}
use Rattle.cif_emit.proofs.cursor.next_on.Goals as goal

pub loop-at-preserved : goal.loop-at-preserved
loop-at-preserved c = passed c.args.layer c.args.rects.now c.args.from c.loop-at.at no_rect c.loop-at-test.true
    (sym c.is_on.ensures ∙ c.if-is_on.false) c.loop-at.invariant

pub returns-then-is_on : goal.returns-then-is_on
returns-then-is_on c = found c.args.layer c.args.rects.now c.args.from c.loop-at.at no_rect c.loop-at-test.true
    (sym c.is_on.ensures ∙ c.if-is_on.true) c.loop-at.invariant

pub returns : goal.returns
returns c = none_on c.args.layer c.args.rects.now c.args.from c.loop-at.at
    c.loop-at-test.false c.loop-at.invariant
