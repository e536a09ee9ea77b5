-- Edge by edge.
use Rattle.std.proofs.Common.{arith}
use Rattle.std.proofs.lemmas.Int.{ints}
use Rattle.lam_geom.specs.declared.layer.Layer.TheVariants.{ND}
use Rattle.lam_geom.proofs.Rects.{same_rect}
use Rattle.rule_rows.proofs.crosses.along.Goals as goal

pub returns : goal.returns
returns c =
    let bottom = c.requires.bottom in
    let top = c.requires.top in
    same_rect ND _ _ _ _ _ _ _ _ (omega (arith, ints)) (omega (arith, ints)) (omega (arith, ints))
    (omega (arith, ints))
