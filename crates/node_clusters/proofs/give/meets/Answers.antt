use Rattle.std.proofs.Common.{◌≡◌, ℕ, List, get_or, length, ap, subst, arith}
use Rattle.std.proofs.lemmas.Bool.{iff_false}
use Rattle.switch_net.specs.Settled.{MayBeOn}
use Rattle.switch_net.specs.Values.{value_at}
use Rattle.node_clusters.specs.Board.{setting_of}
use Rattle.node_clusters.specs.Spread.{IsSource, Borders}
use Rattle.node_clusters.proofs.Picking.{each_more, each_all}
use Rattle.node_clusters.proofs.give.meets.Goals as goal

pub loop-node-preserved : goal.loop-node-preserved
loop-node-preserved c =
    let s = setting_of c.args.board.now in
    let nodes = c.args.cluster.now.members in
    let i = c.loop-node.node-index in
    let none = iff_false c.borders.ensures c.if-borders.false in
    let P = λ (n : ℕ). Borders s (MayBeOn (value_at c.args.values.now)) (IsSource c.args.source s) n → ⊥ in
    each_more P nodes i
    (subst (λ (xs : List ℕ). P (get_or xs i 0)) c.as_slice-node-items.ensures.members none) c.loop-node.invariant

pub returns : goal.returns
returns c =
    let s = setting_of c.args.board.now in
    let nodes = c.args.cluster.now.members in
    let P = λ (n : ℕ). Borders s (MayBeOn (value_at c.args.values.now)) (IsSource c.args.source s) n → ⊥ in
    let same : length c.as_slice-node-items.result.now ≡ length nodes =
    ap (λ (xs : List ℕ). length xs) c.as_slice-node-items.ensures.members in (
      λ e. absurd (cc),
      λ h. absurd
          (each_all P nodes c.loop-node.node-index (omega arith) c.loop-node.invariant h.0 h.1 h.2),
    )
