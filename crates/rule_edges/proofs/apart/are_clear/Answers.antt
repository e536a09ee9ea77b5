-- Edge by edge.
use Rattle.std.proofs.Common.{arith}
use Rattle.rule_edges.proofs.Clearing.{all_clear, reached_more}
use Rattle.rule_edges.proofs.apart.are_clear.Goals as goal

pub loop-edge-preserved : goal.loop-edge-preserved
loop-edge-preserved c =
    reached_more c.args.edges.now c.loop-edge.edge-index c.loop-edge.reached c.in-Some.next c.loop-edge.invariant
    c.in-Some.ensures

pub returns : goal.returns
returns c = λ e.
    all_clear c.args.edges.now c.loop-edge.edge-index c.loop-edge.reached (omega arith) c.loop-edge.invariant
