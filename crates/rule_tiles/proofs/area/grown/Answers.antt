-- Side by side.
use Rattle.std.proofs.Common.{arith}
use Rattle.std.proofs.lemmas.Int.{ints}
use Rattle.lam_geom.proofs.Rects.{same_rect}
use Rattle.rule_tiles.proofs.area.grown.Goals as goal

pub returns : goal.returns
returns c =
    let r = c.requires in
    let a = r.x0 in
    let b = r.y0 in
    let d = r.x1 in
    let e = r.y1 in
    let f = r.x0_high in
    let g = r.y0_high in
    let h = r.x1_low in
    let i = r.y1_low in
    let before = c.from-before.ensures in
    let after = c.from-after.ensures in
    same_rect _ _ _ _ _ _ _ _ _ (omega (arith, ints)) (omega (arith, ints)) (omega (arith, ints)) (omega (arith, ints))
