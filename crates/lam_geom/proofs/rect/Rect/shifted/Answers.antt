-- A move, side by side.
use Rattle.std.proofs.Common.{arith}
use Rattle.std.proofs.lemmas.Int.{ints}
use Rattle.lam_geom.specs.declared.rect.Rect.{Rect}
use Rattle.lam_geom.specs.Moves.{shifted}
use Rattle.lam_geom.proofs.Rects.{same_rect}
use Rattle.lam_geom.proofs.rect.Rect.shifted.Goals as goal

pub returns : goal.returns
unfolding shifted
returns c =
    same_rect _ _ _ _ _ _ _ _ _ (omega (arith, ints)) (omega (arith, ints)) (omega (arith, ints)) (omega (arith, ints))
