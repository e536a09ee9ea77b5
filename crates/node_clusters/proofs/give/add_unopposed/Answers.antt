use Rattle.std.proofs.Common.{◌≡◌, ◌∙◌, ◌+◌, ℕ, List, take, get_or, length, refl, sym, ap, subst, arith}
use Rattle.std.specs.Prelude.{Contains}
use Rattle.std.proofs.lemmas.List.{get_or_default}
use Rattle.std.proofs.lemmas.Bool.{iff_false}
use Rattle.node_set.specs.Nodes.{Nodes}
use Rattle.node_clusters.specs.Spread.{Picks}
use Rattle.node_clusters.proofs.Picking.{picks_none, picks_more, picks_skip, picks_all}
use Rattle.node_clusters.proofs.give.add_unopposed.Goals as goal
use Rattle.node_clusters.proofs.give.add_unopposed.Goals.{then-contains+then-not-contains+then-not-contains-2}
use Rattle.node_clusters.proofs.give.add_unopposed.Goals.{else-contains, else-contains-via-else-contains}
use Rattle.node_clusters.proofs.give.add_unopposed.Goals.{
  else-contains-via-then-contains+then-not-contains+else-not-contains-2,
}
use Rattle.node_clusters.proofs.give.add_unopposed.Goals.{else-contains-via-then-contains+else-not-contains}

pub loop-node-init : goal.loop-node-init
loop-node-init c = (
  refl,
  picks_none
      (λ n. Contains c.args.held.now.members n × (Contains c.args.against.now.members n → ⊥)) c.args.nodes.now.members
      c.clear.new.self.members c.clear.ensures.none,
)

pub loop-node-preserved : goal.loop-node-preserved
loop-node-preserved c =
    let nodes = c.args.nodes.now.members in
    let items = c.as_slice-node-items.result.now in
    let i = c.loop-node.node-index in
    let e = get_or items i 0 in
    let same : length items ≡ length nodes = ap (λ (xs : List ℕ). length xs) c.as_slice-node-items.ensures.members in
    let is : e ≡ get_or nodes i e =
    get_or_default items i 0 e (omega arith)
    ∙ ap (λ (xs : List ℕ). get_or xs i e) c.as_slice-node-items.ensures.members in
    let h = c.loop-node.invariant in
    let P = λ (n : ℕ). Contains c.args.held.now.members n × (Contains c.args.against.now.members n → ⊥) in
    elim c.if-contains.branch [
      | then-contains+then-not-contains+then-not-contains-2 w ↦ (
        ap (λ (x : Nodes). x.room) w.given-is ∙ w.insert.ensures.room ∙ h.0,
        subst (λ (xs : List ℕ). Picks P (take (i + 1) nodes) xs)
            (sym (ap (λ (x : Nodes). x.members) w.given-is ∙ w.insert.ensures.members))
            (picks_more P nodes i e c.loop-node.given.members (omega arith) is h.1 (
              c.contains.ensures.0 w.if-contains.true,
              iff_false w.contains-then-contains.ensures
                  w.if-not-contains.true,
            )),
      )
      | else-contains w ↦ (
        ap (λ (x : Nodes). x.room) w.given-is ∙ h.0,
        subst (λ (xs : List ℕ). Picks P (take (i + 1) nodes) xs) (sym (ap (λ (x : Nodes). x.members) w.given-is))
            (picks_skip P nodes i e c.loop-node.given.members (omega arith) is h.1
            (elim w.else-contains.branch [
              | else-contains-via-then-contains+then-not-contains+else-not-contains-2 w' ↦
                  λ _. w'.contains-then-not-contains.ensures.0 w'.if-not-contains-2.false
              | else-contains-via-then-contains+else-not-contains w' ↦
                  λ p. absurd (p.1 (w'.contains-then-contains.ensures.0 w'.if-not-contains.false))
              | else-contains-via-else-contains w' ↦ λ p. absurd (iff_false c.contains.ensures w'.if-contains.false p.0)
            ])),
      )
    ]

pub returns-clause-given : goal.returns-clause-given
returns-clause-given c =
    let nodes = c.args.nodes.now.members in
    let same : length c.as_slice-node-items.result.now ≡ length nodes =
    ap (λ (xs : List ℕ). length xs) c.as_slice-node-items.ensures.members in
    picks_all
    (λ n. Contains c.args.held.now.members n × (Contains c.args.against.now.members n → ⊥)) nodes
    c.loop-node.node-index c.loop-node.given.members (omega arith) c.loop-node.invariant.1
