use Rattle.std.proofs.Common.{◌≡◌, ◌∙◌, [], ℕ, List, get_or, length, sym, ap, subst, arith}
use Rattle.std.proofs.lemmas.List.{get_or_default}
use Rattle.mp_base.specs.declared.value.Trit.{Trit}
use Rattle.mp_base.specs.declared.value.Trit.TheVariants.{X}
use Rattle.switch_net.specs.Values.{value_at, driver_at}
use Rattle.node_clusters.specs.Links.{listed}
use Rattle.settle.specs.Wake.{IsVerdict, Wakes}
use Rattle.settle.proofs.Waking.{renews_none, renews_same, renews_more, renews_all}
use Rattle.settle.proofs.look.renew.Goals as goal
use Rattle.settle.proofs.look.renew.Goals.{then-not-is_same, else-not-is_same}

pub loop-node-init : goal.loop-node-init
loop-node-init c =
    let b = c.args.board.now in
    renews_none
    (driver_at b.drive.now) b.gated.now c.args.zeros.now.members c.args.ones.now.members c.args.cluster.now.members
    c.args.values.now c.args.waits.now

pub loop-node-preserved : goal.loop-node-preserved
loop-node-preserved c =
    let b = c.args.board.now in
    let driver = driver_at b.drive.now in
    let gated = b.gated.now in
    let zeros = c.args.zeros.now.members in
    let ones = c.args.ones.now.members in
    let nodes = c.args.cluster.now.members in
    let items = c.as_slice-node-items.result.now in
    let old = c.args.values.now in
    let mid = c.loop-node.values in
    let waits = c.loop-node.waits in
    let i = c.loop-node.node-index in
    let e = get_or items i 0 in
    let same : length items ≡ length nodes = ap (λ (xs : List ℕ). length xs) c.as_slice-node-items.ensures.members in
    let is : e ≡ get_or nodes i e =
    get_or_default items i 0 e (omega arith)
    ∙ ap (λ (xs : List ℕ). get_or xs i e) c.as_slice-node-items.ensures.members in
    let inside = c.as_slice-node-items.ensures.inside i 0 (omega arith) in
    let at : e ≡ get_or nodes i 0 = ap (λ (xs : List ℕ). get_or xs i 0) c.as_slice-node-items.ensures.members in
    let h = c.loop-node.invariant in
    let sized = c.loop-node.auto.values in
    let room = c.requires.cluster in
    let values_sized = c.requires.moment.values_sized in
    let gated_sized = c.requires.moment.gated_sized in
    let t = c.verdict-value.result in
    elim c.if-not-is_same.branch [
      | then-not-is_same w ↦
          let list : w.as_slice.result.now ≡ listed gated e =
          w.as_slice.ensures ∙ get_or_default gated e w.index-board-node.result [] (omega arith) in
          rw (w.values-is, w.waits-is)
          (renews_more driver gated zeros ones nodes old c.args.waits.now i e mid waits
          (omega arith) is h t w.wake.new.waits (omega arith) w.wake.auto.waits
          c.verdict-value.ensures w.wake.ensures.widens
          (subst (λ (xs : List ℕ). Wakes driver xs w.wake.new.waits) list w.wake.ensures.wakes))
      | else-not-is_same w ↦
          let equal : value_at mid e ≡ t =
          get_or_default mid e X _ (omega arith) ∙ c.is_same.ensures.0 w.if-not-is_same.false in
          rw (w.values-is, w.waits-is)
          (renews_same driver gated zeros ones nodes old c.args.waits.now i e mid waits (omega arith) is h
          (subst (λ (x : Trit). IsVerdict zeros ones e x) (sym equal) c.verdict-value.ensures))
    ]

pub returns : goal.returns
returns c =
    let b = c.args.board.now in
    let nodes = c.args.cluster.now.members in
    let same : length c.as_slice-node-items.result.now ≡ length nodes =
    ap (λ (xs : List ℕ). length xs) c.as_slice-node-items.ensures.members in
    renews_all
    (driver_at b.drive.now) b.gated.now c.args.zeros.now.members c.args.ones.now.members nodes c.args.values.now
    c.args.waits.now c.loop-node.node-index c.loop-node.values c.loop-node.waits (omega arith) c.loop-node.invariant

pub verdict-value-requires-clause-apart : goal.verdict-value-requires-clause-apart
verdict-value-requires-clause-apart c =
    c.requires.apart (get_or c.as_slice-node-items.result.now c.loop-node.node-index 0)
