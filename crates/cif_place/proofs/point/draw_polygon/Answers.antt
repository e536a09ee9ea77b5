use Rattle.std.proofs.Common.{◌++◌, ◌∙◌, ap, map}
use Rattle.cif_place.specs.Pointing.{on_layer}
use Rattle.cif_place.proofs.Points.{pieces_fill}
use Rattle.cif_place.proofs.point.draw_polygon.Goals as goal

pub returns : goal.returns
returns c = (
  map (on_layer c.args.layer) c.in_ok-pieces.pieces,
  pieces_fill c.args.layer c.args.points.now c.in_ok-pieces.pieces c.in_ok-pieces.ensures,
  c.in_ok-draw_pieces.ensures
      ∙ ap (λ z. c.args.shapes.now ++ map (on_layer c.args.layer) z) c.as_slice.ensures,
)
