-- Fabrics break no lambda rule.
use Rattle.lam_geom.specs.Squares.{covered}
use Rattle.fabric.specs.Plan.{Plan, IsFabric}
use Rattle.fabric.specs.Shape.{shape}
use Rattle.lam_geom.specs.Rules.{IsClean}

-- **What a fabric draws breaks no lambda rule at any square.**
abbrev pub FabricsAreClean : Type 0
FabricsAreClean = (f : Plan) → IsFabric f → IsClean (covered (shape f))
