-- Edges that are clear are those of rectangles that don't face each other.
use Rattle.std.proofs.Common.{subst}
use Rattle.rule_edges.specs.Edges.{AreClear}
use Rattle.rule_edges.proofs.Facings.{apart_of_clear}
use Rattle.rule_edges.proofs.apart.are_apart.Goals as goal

pub returns : goal.returns
returns c = λ e.
    apart_of_clear c.args.facing c.args.shapes.now c.in_ok-edges.edges.items c.requires c.in_ok-edges.ensures
    (subst AreClear c.as_slice.ensures.value (c.are_clear.ensures e))
