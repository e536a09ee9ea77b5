-- Wide rectangles, or the first narrow square.
use Rattle.lam_geom.specs.Squares.{covered}
use Rattle.rule_tiles.proofs.Narrow.{none_narrow_on, first_narrow_on}
use Rattle.rule_tiles.proofs.width.first_narrow.Goals as goal

pub narrow-requires-clause-near : goal.narrow-requires-clause-near
narrow-requires-clause-near c = rw c.as_slice-2.ensures c.in_ok-own.ensures.near

pub first_square-requires-clause-solid : goal.first_square-requires-clause-solid
first_square-requires-clause-solid c = rw c.as_slice-3.ensures c.in_ok-narrow.ensures.solid

pub first_square-requires-clause-ordered : goal.first_square-requires-clause-ordered
first_square-requires-clause-ordered c = rw c.as_slice-3.ensures c.in_ok-narrow.ensures.ordered

pub returns : goal.returns
returns c =
    first_narrow_on c.in_ok-own.own (covered c.args.shapes.now c.args.layer) c.args.size c.in_ok-own.ensures.same
    c.in_ok-narrow.narrow (rw c.as_slice-2.ensures at c.in_ok-narrow.ensures) c.first_square.result
    (rw c.as_slice-3.ensures at c.first_square.ensures)

pub returns-then-are_wide : goal.returns-then-are_wide
returns-then-are_wide c =
    let wide = c.are_wide.ensures c.if-are_wide.true in
    none_narrow_on c.in_ok-own.own (covered c.args.shapes.now c.args.layer) c.args.size c.in_ok-own.ensures.same
    c.requires.some (rw c.as_slice.ensures at wide)
