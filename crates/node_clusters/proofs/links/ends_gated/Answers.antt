use Rattle.std.proofs.Common.{◌≡◌, ◌∙◌, ◌+◌, ◌++◌, ℕ, List, length, take, drop, get_or, ap, subst, sym, arith}
use Rattle.std.proofs.lemmas.List.{take_at}
use Rattle.switch_net.specs.declared.network.Channel.{Channel}
use Rattle.node_clusters.specs.Links.{AddsGated}
use Rattle.node_clusters.proofs.Linking.{GatedFirst, gated_more, gated_all}
use Rattle.node_clusters.proofs.links.ends_gated.Goals as goal

pub loop-channel-preserved : goal.loop-channel-preserved
loop-channel-preserved c =
    let net = c.args.network.now in
    let h = c.loop-channel.invariant in
    let ch = c.channel-item.result in
    let i = c.loop-channel.channel-index in
    let new = c.add_gated.new.lists in
    let items = c.as_slice-channel-items.result.now in
    let sized = c.add_gated.auto.lists in
    let fits = c.loop-channel.lists.ok.0 in
    let whole : take c.loop-channel.lists.len (new ++ drop (length new) c.loop-channel.lists.items) ≡ new =
    take_at new (drop (length new) c.loop-channel.lists.items) c.loop-channel.lists.len
    (let l = c.deref_mut.ensures.len in omega arith) in
    let same : length items ≡ length net.channels =
    ap (λ (xs : List Channel). length xs) c.as_slice-channel-items.ensures in
    let is : ch ≡ get_or net.channels i ch =
    c.channel-item.is ∙ ap (λ (xs : List Channel). get_or xs i ch) c.as_slice-channel-items.ensures in
    let raw : AddsGated ch c.deref_mut.result.now new = c.in_ok-add_gated.ensures in
    let adds : AddsGated ch c.loop-channel.lists.items new =
    subst (λ (xs : List (List ℕ)). AddsGated ch xs new) c.deref_mut.ensures.value raw in (
      ap (λ (xs : List (List ℕ)). length xs) whole ∙ sized ∙ c.deref_mut.ensures.len ∙ fits ∙ h.0,
      subst (λ (xs : List (List ℕ)). GatedFirst net.channels (i + 1) xs) (sym whole)
          (gated_more net.channels i c.loop-channel.lists.items new ch (omega arith) is adds h.1),
    )

pub returns-clause-gated : goal.returns-clause-gated
returns-clause-gated c =
    let net = c.args.network.now in
    let same : length c.as_slice-channel-items.result.now ≡ length net.channels =
    ap (λ (xs : List Channel). length xs) c.as_slice-channel-items.ensures in
    gated_all net.channels c.loop-channel.channel-index c.loop-channel.lists.items
    (omega arith) c.loop-channel.invariant.1
