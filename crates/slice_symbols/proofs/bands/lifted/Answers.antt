use Rattle.std.proofs.Common.{arith}
use Rattle.std.proofs.lemmas.Int.{ints}
use Rattle.lam_geom.specs.Moves.{shifted}
use Rattle.lam_geom.proofs.Rects.{same_rect}
use Rattle.slice_symbols.proofs.bands.lifted.Goals as goal

pub returns : goal.returns
unfolding shifted
returns c =
    same_rect _ _ _ _ _ _ _ _ _ (omega (arith, ints)) (omega (arith, ints)) (omega (arith, ints))
    (omega (arith, ints))
