use Rattle.std.proofs.Common.{◌≡◌, ◌+◌, ◌∙◌, ℕ, List, length, get_or, refl, sym, ap, subst, arith}
use Rattle.std.proofs.lemmas.Bool.{iff_false}
use Rattle.mp_base.proofs.Entries.{contains_from_get}
use Rattle.switch_net.specs.Values.{value_at}
use Rattle.node_clusters.specs.Board.{setting_of}
use Rattle.node_clusters.specs.Links.{listed}
use Rattle.node_set.specs.Nodes.{Nodes}
use Rattle.node_clusters.specs.Spread.{Uses, AddsEnds}
use Rattle.node_clusters.proofs.Adding.{AddsFirst, adds_first_none, adds_first_skip, adds_first_more, adds_first_all}
use Rattle.node_clusters.proofs.Adding.{channel_at, channel_ends}
use Rattle.node_clusters.proofs.spread.add_adjoining.Goals as goal
use Rattle.node_clusters.proofs.spread.add_adjoining.Goals.{then-uses, else-uses}

pub channel-channel-requires : goal.channel-channel-requires
channel-channel-requires c = c.numbers_at-number-items.ensures.inside c.loop-number.number-index 0 (omega arith)

pub add_ends-requires-clause-ends : goal.add_ends-requires-clause-ends
add_ends-requires-clause-ends c k d in' =
    let ends = c.channel-channel.result.now.ends in
    let same : length c.as_slice.result.now ≡ length ends = ap (λ (xs : List ℕ). length xs) c.as_slice.ensures in
    let there : get_or c.as_slice.result.now k d ≡ get_or ends k d =
    ap (λ (xs : List ℕ). get_or xs k d) c.as_slice.ensures in
    let inside = c.channel-channel.ensures.ends k d (omega arith) in
    let sized = c.requires.room in
    omega arith

pub loop-number-preserved : goal.loop-number-preserved
loop-number-preserved c =
    let b = c.args.board.now in
    let s = setting_of b in
    let node = c.args.node in
    let i = c.loop-number.number-index in
    let list = c.numbers_at-number-items.result.now in
    let is_list = c.numbers_at-number-items.ensures.listed in
    let ch = c.channel-channel.result.now in
    let allowed = Uses c.args.route (value_at c.args.values.now) in
    let found = c.channel-channel.ensures.is in
    let is = channel_at s.channels b.at.now c.requires.moment.linked node list is_list i (omega arith) ch found in
    let h = c.loop-number.invariant in
    let all = listed b.at.now node in
    elim c.if-uses.branch [
      | then-uses w ↦ (
        ap (λ (x : Nodes). x.room) w.set-is ∙ w.add_ends.ensures.room ∙ h.0,
        subst (λ (xs : List ℕ). AddsFirst s allowed node all (i + 1) c.args.set.now.members xs)
            (sym (ap (λ (x : Nodes). x.members) w.set-is))
            (adds_first_more s allowed node all i ch c.args.set.now.members c.loop-number.set.members
            w.add_ends.new.set.members (contains_from_get s.channels (get_or list i 0) ch found)
            (channel_ends s.channels b.at.now c.requires.moment.linked node list is_list i (omega arith) ch found)
            is (c.uses.ensures.0 w.if-uses.true)
            (subst (λ (xs : List ℕ). AddsEnds s.driver xs c.loop-number.set.members w.add_ends.new.set.members)
            w.as_slice.ensures w.add_ends.ensures.adds) h.1),
      )
      | else-uses w ↦ (
        ap (λ (x : Nodes). x.room) w.set-is ∙ h.0,
        subst (λ (xs : List ℕ). AddsFirst s allowed node all (i + 1) c.args.set.now.members xs)
            (sym (ap (λ (x : Nodes). x.members) w.set-is))
            (adds_first_skip s allowed node all i ch c.args.set.now.members c.loop-number.set.members is
            (iff_false c.uses.ensures w.if-uses.false) h.1),
      )
    ]

pub returns-clause-adds : goal.returns-clause-adds
returns-clause-adds c =
    let b = c.args.board.now in
    let node = c.args.node in
    let same : length c.numbers_at-number-items.result.now ≡ length (listed b.at.now node) =
    ap (λ (xs : List ℕ). length xs) c.numbers_at-number-items.ensures.listed in
    adds_first_all (setting_of b)
    (Uses c.args.route (value_at c.args.values.now)) b.at.now node c.loop-number.number-index c.args.set.now.members
    c.loop-number.set.members c.requires.moment.linked (omega arith) c.loop-number.invariant.1

pub loop-number-init : goal.loop-number-init
loop-number-init c = (
  refl,
  adds_first_none (setting_of c.args.board.now) (Uses c.args.route (value_at c.args.values.now)) c.args.node
      (listed c.args.board.now.at.now c.args.node) c.args.set.now.members,
)
