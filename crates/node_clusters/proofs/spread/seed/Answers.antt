use Rattle.std.proofs.Common.{◌≡◌, ◌∙◌, ◌+◌, ℕ, List, take, get_or, length, refl, sym, ap, subst, arith}
use Rattle.std.proofs.lemmas.List.{get_or_default}
use Rattle.std.proofs.lemmas.Bool.{iff_false}
use Rattle.switch_net.specs.Values.{value_at}
use Rattle.node_clusters.specs.Board.{setting_of}
use Rattle.node_set.specs.Nodes.{Nodes}
use Rattle.node_clusters.specs.Spread.{Uses, IsSource, Borders, Picks}
use Rattle.node_clusters.proofs.Picking.{picks_none, picks_more, picks_skip, picks_all}
use Rattle.node_clusters.proofs.spread.seed.Goals as goal
use Rattle.node_clusters.proofs.spread.seed.Goals.{then-not-contains+then-borders, else-not-contains}
use Rattle.node_clusters.proofs.spread.seed.Goals.{else-not-contains-via-then-not-contains+else-borders}
use Rattle.node_clusters.proofs.spread.seed.Goals.{else-not-contains-via-else-not-contains}

pub loop-node-init : goal.loop-node-init
loop-node-init c =
    let s = setting_of c.args.board.now in (
      refl,
      picks_none
          (Borders s (Uses c.args.route (value_at c.args.values.now)) (IsSource c.args.source s))
          c.args.cluster.now.members c.clear.new.self.members c.clear.ensures.none,
    )

pub loop-node-preserved : goal.loop-node-preserved
loop-node-preserved c =
    let s = setting_of c.args.board.now in
    let nodes = c.args.cluster.now.members in
    let items = c.as_slice-node-items.result.now in
    let i = c.loop-node.node-index in
    let e = get_or items i 0 in
    let same : length items ≡ length nodes = ap (λ (xs : List ℕ). length xs) c.as_slice-node-items.ensures.members in
    let is : e ≡ get_or nodes i e =
    get_or_default items i 0 e (omega arith)
    ∙ ap (λ (xs : List ℕ). get_or xs i e) c.as_slice-node-items.ensures.members in
    let P = Borders s (Uses c.args.route (value_at c.args.values.now)) (IsSource c.args.source s) in
    let h = c.loop-node.invariant in
    elim c.if-not-contains.branch [
      | then-not-contains+then-borders w ↦ (
        ap (λ (x : Nodes). x.room) w.set-is ∙ w.insert.ensures.room ∙ h.0,
        subst (λ (xs : List ℕ). Picks P (take (i + 1) nodes) xs)
            (sym (ap (λ (x : Nodes). x.members) w.set-is ∙ w.insert.ensures.members))
            (picks_more P nodes i e c.loop-node.set.members (omega arith) is h.1
            (w.borders.ensures.0 w.if-borders.true)),
      )
      | else-not-contains w ↦ (
        ap (λ (x : Nodes). x.room) w.set-is ∙ h.0,
        subst (λ (xs : List ℕ). Picks P (take (i + 1) nodes) xs) (sym (ap (λ (x : Nodes). x.members) w.set-is))
            (picks_skip P nodes i e c.loop-node.set.members (omega arith) is h.1
            (elim w.else-not-contains.branch [
              | else-not-contains-via-then-not-contains+else-borders w' ↦
                  λ b. absurd (iff_false w'.borders.ensures w'.if-borders.false b)
              | else-not-contains-via-else-not-contains w' ↦ λ _. c.contains.ensures.0 w'.if-not-contains.false
            ])),
      )
    ]

pub returns-clause-seeds : goal.returns-clause-seeds
returns-clause-seeds c =
    let s = setting_of c.args.board.now in
    let nodes = c.args.cluster.now.members in
    let same : length c.as_slice-node-items.result.now ≡ length nodes =
    ap (λ (xs : List ℕ). length xs) c.as_slice-node-items.ensures.members in
    picks_all
    (Borders s (Uses c.args.route (value_at c.args.values.now)) (IsSource c.args.source s)) nodes
    c.loop-node.node-index c.loop-node.set.members (omega arith) c.loop-node.invariant.1
