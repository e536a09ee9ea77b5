-- The rules so far aren't broken.
use Rattle.lam_geom.specs.Squares.{covered}
use Rattle.design_rules.proofs.Numbers.{NoneBelow}
use Rattle.design_rules.proofs.judging.judged.Given as goal

abbrev pub invariant-loop-rule : goal.invariant-loop-rule
invariant-loop-rule l = NoneBelow (covered l.shapes) l.rule
