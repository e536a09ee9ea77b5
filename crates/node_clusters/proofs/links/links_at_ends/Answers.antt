use Rattle.std.proofs.Common.{◌≡◌, ◌∙◌, ◌+◌, ◌++◌, ℕ, List, length, take, drop, get_or, ap, subst, sym, arith}
use Rattle.std.proofs.lemmas.List.{take_at}
use Rattle.switch_net.specs.declared.network.Channel.{Channel}
use Rattle.node_clusters.specs.Links.{AreLinked, AddsLink}
use Rattle.node_clusters.proofs.Linking.{linked_more}
use Rattle.node_clusters.proofs.links.links_at_ends.Goals as goal

pub loop-channel-preserved : goal.loop-channel-preserved
loop-channel-preserved c =
    let net = c.args.network.now in
    let h = c.loop-channel.invariant in
    let ch = c.channel-item.result in
    let number = c.loop-channel.number in
    let new = c.link.new.lists in
    let items = c.as_slice-channel-items.result.now in
    let sized = c.link.auto.lists in
    let fits = c.loop-channel.lists.ok.0 in
    let whole : take c.loop-channel.lists.len (new ++ drop (length new) c.loop-channel.lists.items) ≡ new =
    take_at new (drop (length new) c.loop-channel.lists.items) c.loop-channel.lists.len
    (let l = c.deref_mut.ensures.len in omega arith) in
    let same : length items ≡ length net.channels =
    ap (λ (xs : List Channel). length xs) c.as_slice-channel-items.ensures in
    let is : ch ≡ get_or net.channels number ch =
    c.channel-item.is
    ∙ ap (λ (xs : List Channel). get_or xs c.loop-channel.channel-index ch) c.as_slice-channel-items.ensures
    ∙ ap (λ k. get_or net.channels k ch) (sym h.1) in
    let raw : AddsLink c.as_slice.result.now number c.deref_mut.result.now new = c.in_ok-link.ensures in
    let adds : AddsLink ch.ends number c.loop-channel.lists.items new =
    subst (λ (xs : List ℕ). AddsLink xs number c.loop-channel.lists.items new) c.as_slice.ensures
    (subst (λ (xs : List (List ℕ)). AddsLink c.as_slice.result.now number xs new) c.deref_mut.ensures.value raw) in (
      ap (λ (xs : List (List ℕ)). length xs) whole ∙ sized ∙ c.deref_mut.ensures.len ∙ fits ∙ h.0,
      ap (λ k. k + 1) h.1,
      subst (λ (xs : List (List ℕ)). AreLinked net.channels (number + 1) xs) (sym whole)
          (linked_more net.channels number c.loop-channel.lists.items new ch (omega arith) is adds h.2),
    )

pub returns-clause-linked : goal.returns-clause-linked
returns-clause-linked c =
    let net = c.args.network.now in
    let h = c.loop-channel.invariant in
    let e : c.loop-channel.number ≡ length net.channels =
    (let f : length c.as_slice-channel-items.result.now ≡ length net.channels =
    ap (λ (xs : List Channel). length xs) c.as_slice-channel-items.ensures in let g = h.1 in omega arith) in
    subst (λ n. AreLinked net.channels n c.loop-channel.lists.items) e h.2
