-- The laws of breaches.
use Rattle.lam_geom.specs.Squares.{covered}
use Rattle.lam_geom.proofs.RuleLaws.{one_breach, same_breach}
use Rattle.lam_geom.proofs.laws.breaches_are_determined.Goals as goal

pub returns-clause-once : goal.returns-clause-once
returns-clause-once c = λ shapes. one_breach (covered shapes)

pub returns-clause-squares : goal.returns-clause-squares
returns-clause-squares c = λ rects shapes. same_breach (covered rects) (covered shapes)
