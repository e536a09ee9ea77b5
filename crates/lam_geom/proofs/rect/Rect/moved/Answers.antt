-- A turn and then a move.
use Rattle.std.proofs.Common.{◌∙◌, ap}
use Rattle.std.proofs.lemmas.Int.{to_z-of_z}
use Rattle.lam_geom.specs.Moves.{shifted}
use Rattle.lam_geom.proofs.rect.Rect.moved.Goals as goal

pub returns : goal.returns
returns c =
    let f = c.ranges.dx in
    let g = c.ranges.dy in
    (simp to_z-of_z at c.shifted.ensures) ∙ ap (shifted c.args.dx c.args.dy) c.turned.ensures.value
