-- Rectangle by rectangle.
use Rattle.std.proofs.Common.{sym, subst, take, get_or}
use Rattle.std.proofs.lemmas.List.{take_all, take_more}
use Rattle.rule_edges.specs.Edges.{HasEdges}
use Rattle.rule_edges.proofs.Having.{has_more, has_none, has_sorted, no_rect}
use Rattle.rule_edges.proofs.edge.edges_of.Goals as goal

pub loop-shape-init : goal.loop-shape-init
loop-shape-init c = has_none c.args.facing c.new-edges.result

pub loop-shape-preserved : goal.loop-shape-preserved
loop-shape-preserved c =
    let n = c.loop-shape.shape-index in
    let all = c.args.shapes.now in
    let r = get_or all n no_rect in
    subst (λ xs. HasEdges c.args.facing xs c.add_start.new.edges)
    (sym (take_more all n no_rect c.loop-shape-test.true))
    (has_more c.args.facing r c.loop-shape.edges c.add_end.new.edges c.add_start.new.edges c.in_ok-add_end.ensures
    c.in_ok-add_start.ensures (take n all) c.loop-shape.invariant)

pub returns : goal.returns
returns c =
    let f = c.args.facing in
    let shapes = c.args.shapes.now in
    has_sorted f shapes c.into_vec-edges.result.items c.sort_by_key.new.self.items
    c.in_ok-sort_by_key.ensures.permutation
    (subst (HasEdges f shapes) (sym c.into_vec-edges.ensures)
    (subst (λ xs. HasEdges f xs c.loop-shape.edges)
    (take_all c.loop-shape.shape-index shapes c.loop-shape-test.false) c.loop-shape.invariant))
