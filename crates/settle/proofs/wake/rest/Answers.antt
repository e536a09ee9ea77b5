use Rattle.std.proofs.Common.{◌≡◌, ◌∙◌, ℕ, List, get_or, length, ap, subst, arith, inl, ◌⊎◌}
use Rattle.std.specs.Prelude.{Contains}
use Rattle.std.proofs.lemmas.List.{get_or_default, take_all}
use Rattle.node_clusters.specs.Values.{IsMarked}
use Rattle.settle.proofs.Waking.{rests_more, rests_fewer}
use Rattle.settle.proofs.wake.rest.Goals as goal

pub loop-node-init : goal.loop-node-init
loop-node-init c = ((λ n m. m), (λ n m. inl m))

pub loop-node-preserved : goal.loop-node-preserved
loop-node-preserved c =
    let nodes = c.args.set.now.members in
    let items = c.as_slice-node-items.result.now in
    let i = c.loop-node.node-index in
    let e = get_or items i 0 in
    let same : length items ≡ length nodes = ap (λ (xs : List ℕ). length xs) c.as_slice-node-items.ensures.members in
    let is : e ≡ get_or nodes i e =
    get_or_default items i 0 e (omega arith)
    ∙ ap (λ (xs : List ℕ). get_or xs i e) c.as_slice-node-items.ensures.members in
    let at : e ≡ get_or nodes i 0 = ap (λ (xs : List ℕ). get_or xs i 0) c.as_slice-node-items.ensures.members in
    let inside = c.as_slice-node-items.ensures.inside i 0 (omega arith) in
    let sized = c.loop-node.auto.waits in
    let room = c.requires in
    let h = c.loop-node.invariant in (
      rests_fewer e c.args.waits.now c.loop-node.waits
          (omega arith) h.0,
      rests_more nodes i e c.args.waits.now c.loop-node.waits (omega arith) is h.1,
    )

pub returns-clause-rest : goal.returns-clause-rest
returns-clause-rest c =
    let nodes = c.args.set.now.members in
    let same : length c.as_slice-node-items.result.now ≡ length nodes =
    ap (λ (xs : List ℕ). length xs) c.as_slice-node-items.ensures.members in
    subst (λ (xs : List ℕ). (n : ℕ) → IsMarked c.args.waits.now n → IsMarked c.loop-node.waits n ⊎ Contains xs n)
    (take_all c.loop-node.node-index nodes (omega arith)) c.loop-node.invariant.1
