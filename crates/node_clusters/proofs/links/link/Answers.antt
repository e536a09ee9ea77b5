use Rattle.std.proofs.Common.{◌∙◌, ◌++◌, ◌∷◌, [], ℕ, List, ap, get_or, arith}
use Rattle.std.proofs.lemmas.List.{get_or_default, take_all}
use Rattle.node_clusters.proofs.Linking.{adds_link_more, adds_link_all}
use Rattle.node_clusters.proofs.links.link.Goals as goal

pub loop-node-preserved : goal.loop-node-preserved
loop-node-preserved c =
    let nodes = c.args.nodes.now in
    let k = c.loop-node.node-index in
    let e = get_or nodes k 0 in
    let inside = c.requires k 0 (omega arith) in
    let same = c.loop-node.auto.lists in
    let pushed =
    c.in_ok-push.ensures.ok
    ∙ ap (λ (xs : List ℕ). xs ++ c.args.number ∷ [])
    (get_or_default c.loop-node.lists e c.index-lists-node.result [] (omega arith)) in
    adds_link_more nodes k c.args.number c.args.lists.now c.loop-node.lists e c.push.new.self (omega arith)
    (get_or_default nodes k 0 e (omega arith)) (omega arith) pushed c.loop-node.invariant

pub returns : goal.returns
returns c =
    adds_link_all c.args.nodes.now c.loop-node.node-index c.args.number c.args.lists.now c.loop-node.lists
    (take_all c.loop-node.node-index c.args.nodes.now (omega arith)) c.loop-node.invariant
