-- The first rectangle's corner.
use Rattle.std.proofs.Common.{arith, sym, subst, Some}
use Rattle.rule_tiles.specs.First.{IsFirst}
use Rattle.rule_tiles.specs.Areas.{held}
use Rattle.rule_tiles.proofs.Areas.{first_at}
use Rattle.rule_tiles.proofs.area.first_square.Goals as goal

pub returns : goal.returns
returns c =
    subst (λ p. IsFirst (held c.args.area.now) (Some p)) (sym c.low_corner.ensures)
    (first_at c.args.area.now _ c.requires.solid c.requires.ordered (omega arith))
