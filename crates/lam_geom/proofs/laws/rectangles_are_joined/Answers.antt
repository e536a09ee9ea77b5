-- The law of a rectangle's squares.
use Rattle.lam_geom.proofs.Rectangles.{rectangles_joined}
use Rattle.lam_geom.proofs.laws.rectangles_are_joined.Goals as goal

pub returns : goal.returns
returns c = rectangles_joined
