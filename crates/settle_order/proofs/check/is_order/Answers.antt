use Rattle.std.proofs.Common.{◌≡◌, ◌∙◌, List, length, get_or, ap, arith}
use Rattle.switch_net.specs.declared.network.Channel.{Channel}
use Rattle.settle_order.proofs.Checking.{ordered_more, ordered_serves}
use Rattle.settle_order.proofs.check.is_order.Goals as goal

pub returns : goal.returns
returns c _ =
    let net = c.args.network.now in
    let same : length c.as_slice-channel-items.result.now ≡ length net.channels =
    ap (λ (xs : List Channel). length xs) c.as_slice-channel-items.ensures in
    ordered_serves net.channels c.args.demands.now c.args.ranks.now c.loop-channel.channel-index
    (omega arith) c.loop-channel.invariant

pub loop-channel-preserved : goal.loop-channel-preserved
loop-channel-preserved c =
    let net = c.args.network.now in
    let ch = c.channel-item.result in
    let i = c.loop-channel.channel-index in
    let same : length c.as_slice-channel-items.result.now ≡ length net.channels =
    ap (λ (xs : List Channel). length xs) c.as_slice-channel-items.ensures in
    let is : ch ≡ get_or net.channels i ch =
    c.channel-item.is ∙ ap (λ (xs : List Channel). get_or xs i ch) c.as_slice-channel-items.ensures in
    ordered_more net.channels c.args.demands.now c.args.ranks.now i ch (omega arith) is
    (c.is_in_order.ensures c.if-not-is_in_order.false) c.loop-channel.invariant
