use Rattle.std.proofs.Common.{◌≡◌, ℕ, List, length, get_or, refl, sym, ap, subst, arith}
use Rattle.std.specs.Prelude.{Any}
use Rattle.std.proofs.lemmas.Bool.{iff_false}
use Rattle.switch_net.specs.Values.{value_at}
use Rattle.node_clusters.specs.Board.{setting_of}
use Rattle.node_clusters.specs.Links.{listed}
use Rattle.node_clusters.specs.Spread.{Uses, IsSource}
use Rattle.node_clusters.proofs.Adding.{borders_here, borders_none, no_border_more, number_listed, channel_at}
use Rattle.node_clusters.proofs.spread.borders.Goals as goal
use Rattle.node_clusters.proofs.spread.borders.Goals.{else-uses-via-then-uses+else-has_source, else-uses-via-else-uses}

pub channel-channel-requires : goal.channel-channel-requires
channel-channel-requires c = c.numbers_at-number-items.ensures.inside c.loop-number.number-index 0 (omega arith)

pub has_source-requires : goal.has_source-requires
has_source-requires c k d in' =
    let ends = c.channel-channel.result.now.ends in
    let same : length c.as_slice.result.now ≡ length ends = ap (λ (xs : List ℕ). length xs) c.as_slice.ensures in
    let there : get_or c.as_slice.result.now k d ≡ get_or ends k d =
    ap (λ (xs : List ℕ). get_or xs k d) c.as_slice.ensures in
    let inside = c.channel-channel.ensures.ends k d (omega arith) in
    let sized = c.requires.moment.drive_sized in
    omega arith

pub returns-then-has_source : goal.returns-then-has_source
returns-then-has_source c =
    let b = c.args.board.now in
    let s = setting_of b in
    let list = c.numbers_at-number-items.result.now in
    let i = c.loop-number.number-index in
    let from = IsSource c.args.source s in
    let any : Any from c.channel-channel.result.now.ends =
    subst (λ (xs : List ℕ). Any from xs) c.as_slice.ensures (c.has_source.ensures.0 c.if-has_source.true) in (
      λ _. borders_here s (Uses c.args.route (value_at c.args.values.now)) from b.at.now c.args.node (get_or list i 0)
          c.channel-channel.result.now c.requires.moment.linked
          (number_listed s.channels b.at.now c.requires.moment.linked c.args.node list
          c.numbers_at-number-items.ensures.listed i (omega arith))
          c.channel-channel.ensures.is (c.uses.ensures.0 c.if-uses.true) any,
      λ _. refl,
    )

pub loop-number-preserved : goal.loop-number-preserved
loop-number-preserved c =
    let b = c.args.board.now in
    let s = setting_of b in
    let i = c.loop-number.number-index in
    let ch = c.channel-channel.result.now in
    let from = IsSource c.args.source s in
    no_border_more s (Uses c.args.route (value_at c.args.values.now)) from (listed b.at.now c.args.node) i ch
    (channel_at s.channels b.at.now c.requires.moment.linked c.args.node c.numbers_at-number-items.result.now
    c.numbers_at-number-items.ensures.listed i (omega arith) ch c.channel-channel.ensures.is)
    (elim c.else-uses.branch [
      | else-uses-via-then-uses+else-has_source w ↦
          λ _ any. iff_false w.has_source.ensures w.if-has_source.false
          (subst (λ (xs : List ℕ). Any from xs) (sym w.as_slice.ensures) any)
      | else-uses-via-else-uses w ↦ λ ok _. iff_false c.uses.ensures w.if-uses.false ok
    ])
    c.loop-number.invariant

pub returns : goal.returns
returns c =
    let b = c.args.board.now in
    let s = setting_of b in
    let node = c.args.node in
    let same : length c.numbers_at-number-items.result.now ≡ length (listed b.at.now node) =
    ap (λ (xs : List ℕ). length xs) c.numbers_at-number-items.ensures.listed in (
      λ e. absurd (cc),
      λ h. absurd
          (borders_none s (Uses c.args.route (value_at c.args.values.now))
          (IsSource c.args.source s) b.at.now node c.requires.moment.linked
          (λ k ch lt. c.loop-number.invariant k ch (omega arith)) h),
    )
