use Rattle.std.proofs.Common.{◌≡◌, ◌∙◌, ◌+◌, ℕ, List, take, get_or, length, refl, sym, ap, subst, arith}
use Rattle.std.proofs.lemmas.List.{get_or_default}
use Rattle.node_set.specs.Nodes.{Nodes}
use Rattle.node_clusters.specs.Spread.{Picks}
use Rattle.node_clusters.proofs.Picking.{picks_none, picks_more, picks_skip, picks_all}
use Rattle.node_clusters.proofs.give.copy.Goals as goal
use Rattle.node_clusters.proofs.give.copy.Goals.{then-not-contains, else-not-contains}

pub loop-node-init : goal.loop-node-init
loop-node-init c =
    (refl, picks_none (λ _. Unit {0}) c.args.from.now.members c.clear.new.self.members c.clear.ensures.none)

pub loop-node-preserved : goal.loop-node-preserved
loop-node-preserved c =
    let nodes = c.args.from.now.members in
    let items = c.as_slice-node-items.result.now in
    let i = c.loop-node.node-index in
    let e = get_or items i 0 in
    let same : length items ≡ length nodes = ap (λ (xs : List ℕ). length xs) c.as_slice-node-items.ensures.members in
    let is : e ≡ get_or nodes i e =
    get_or_default items i 0 e (omega arith)
    ∙ ap (λ (xs : List ℕ). get_or xs i e) c.as_slice-node-items.ensures.members in
    let h = c.loop-node.invariant in
    let P = λ (_ : ℕ). Unit {0} in
    elim c.if-not-contains.branch [
      | then-not-contains w ↦ (
        ap (λ (x : Nodes). x.room) w.to-is ∙ w.insert.ensures.room ∙ h.0,
        subst (λ (xs : List ℕ). Picks P (take (i + 1) nodes) xs)
            (sym (ap (λ (x : Nodes). x.members) w.to-is ∙ w.insert.ensures.members))
            (picks_more P nodes i e c.loop-node.to.members (omega arith) is h.1 tt),
      )
      | else-not-contains w ↦ (
        ap (λ (x : Nodes). x.room) w.to-is ∙ h.0,
        subst (λ (xs : List ℕ). Picks P (take (i + 1) nodes) xs) (sym (ap (λ (x : Nodes). x.members) w.to-is))
            (picks_skip P nodes i e c.loop-node.to.members (omega arith) is h.1
            (λ _. c.contains.ensures.0 w.if-not-contains.false)),
      )
    ]

pub returns-clause-members : goal.returns-clause-members
returns-clause-members c n =
    let nodes = c.args.from.now.members in
    let same : length c.as_slice-node-items.result.now ≡ length nodes =
    ap (λ (xs : List ℕ). length xs) c.as_slice-node-items.ensures.members in
    let all =
    picks_all (λ _. Unit {0}) nodes c.loop-node.node-index c.loop-node.to.members
    (omega arith) c.loop-node.invariant.1 in
    (λ q. ((all n).0 q).0, λ q. (all n).1 (q, tt))
