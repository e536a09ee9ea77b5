-- The channels of the drawing.
use Rattle.std.proofs.Common.{subst}
use Rattle.lam_geom.specs.declared.layer.Layer.TheVariants.{ND, NP}
use Rattle.lam_geom.specs.Squares.{covered}
use Rattle.rule_rows.specs.Copies.{AreSpread}
use Rattle.rule_rows.proofs.Besides.{are_channels}
use Rattle.rule_rows.proofs.stretches.beside.Goals as goal

pub returns : goal.returns
returns c =
    are_channels c.args.shapes.now c.spread.new.drawing c.spread-2.new.drawing c.spread-3.new.drawing c.args.side
    (subst (λ d. AreSpread (covered c.args.shapes.now NP) ND (record { side = c.args.side; near = 1; far = 1 }) d
    c.spread.new.drawing) c.new-drawing.ensures c.in_ok-spread.ensures)
    c.in_ok-spread-2.ensures c.in_ok-spread-3.ensures
