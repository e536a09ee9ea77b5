use Rattle.std.proofs.Common.{arith, rules}
use Rattle.std.specs.Bool.{IsTrue}
use Rattle.std.proofs.lemmas.Int.{ints}
use Rattle.design_rules.proofs.judging.is_near.Goals as goal

pub returns-then-are_near_edges : goal.returns-then-are_near_edges
returns-then-are_near_edges c =
    let true_first : IsTrue c.are_near_edges.result = search rules in
    let across = c.are_near_edges.ensures.0 true_first in
    let along = c.are_near_edges-then-are_near_edges.ensures in (
      λ h. let up = along.0 h in record {
        x0 = (omega (arith, ints), omega (arith, ints));
        y0 = (omega (arith, ints), omega (arith, ints));
        x1 = (omega (arith, ints), omega (arith, ints));
        y1 = (omega (arith, ints), omega (arith, ints));
      },
      λ near. along.1 (
        (omega (arith, ints, near.y0), omega (arith, ints, near.y0)),
        (omega (arith, ints, near.y1), omega (arith, ints, near.y1)),
      ),
    )
