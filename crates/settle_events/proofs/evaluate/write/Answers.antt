use Rattle.std.proofs.Common.{◌≡◌, ◌<◌, ◌∙◌, ℕ, List, get_or, length, ap, subst, arith}
use Rattle.std.specs.Prelude.{Contains, ◌≢◌}
use Rattle.std.proofs.lemmas.List.{get_or_default, take_all}
use Rattle.std.proofs.lemmas.Bool.{iff_false}
use Rattle.mp_base.specs.declared.value.Trit.TheVariants.{X}
use Rattle.switch_net.specs.Values.{value_at}
use Rattle.settle_events.proofs.Climbing.{writes_more, writes_skip}
use Rattle.settle_events.proofs.evaluate.write.Goals as goal
use Rattle.settle_events.proofs.evaluate.write.Goals.{then-is_unknown, else-is_unknown}

pub loop-node-preserved : goal.loop-node-preserved
loop-node-preserved c =
    let nodes = c.args.given.now.members in
    let items = c.as_slice-node-items.result.now in
    let old = c.args.values.now in
    let mid = c.loop-node.values in
    let b = c.args.value in
    let i = c.loop-node.node-index in
    let e = get_or items i 0 in
    let same : length items ≡ length nodes = ap (λ (xs : List ℕ). length xs) c.as_slice-node-items.ensures.members in
    let is : e ≡ get_or nodes i e =
    get_or_default items i 0 e (omega arith)
    ∙ ap (λ (xs : List ℕ). get_or xs i e) c.as_slice-node-items.ensures.members in
    let at : e ≡ get_or nodes i 0 = ap (λ (xs : List ℕ). get_or xs i 0) c.as_slice-node-items.ensures.members in
    let h = c.loop-node.invariant in
    let room = c.requires.room in
    let sized = c.loop-node.auto.values in
    let inside = c.as_slice-node-items.ensures.inside i 0 (omega arith) in
    let in' : e < length mid = omega arith in
    elim c.if-is_unknown.branch [
      | then-is_unknown w ↦
          rw (w.values-is, w.changed-is)
          (writes_more nodes b old i e c.loop-node.changed mid (omega arith) is h in'
          (get_or_default mid e X _ in' ∙ c.is_unknown.ensures.0 w.if-is_unknown.true) c.requires.value)
      | else-is_unknown w ↦
          rw (w.values-is, w.changed-is)
          (writes_skip nodes b old i e c.loop-node.changed mid (omega arith) is h
          (λ x. iff_false c.is_unknown.ensures w.if-is_unknown.false (get_or_default mid e _ X in' ∙ x)))
    ]

pub returns-clause-none : goal.returns-clause-none
returns-clause-none c still =
    let nodes = c.args.given.now.members in
    let i = c.loop-node.node-index in
    let same : length c.as_slice-node-items.result.now ≡ length nodes =
    ap (λ (xs : List ℕ). length xs) c.as_slice-node-items.ensures.members in
    subst (λ (xs : List ℕ). (n : ℕ) → Contains xs n → value_at c.args.values.now n ≢ X)
    (take_all i nodes (omega arith)) (c.loop-node.invariant.none still)
