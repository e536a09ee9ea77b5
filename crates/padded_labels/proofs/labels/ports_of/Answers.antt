use Rattle.std.proofs.Common.{ℕ, List, ◌≡◌, length, take, ap, ◌∙◌, arith}
use Rattle.mp_base.proofs.Lists.{take_whole}
use Rattle.fabric.specs.declared.chip.ChipLabel.{ChipLabel}
use Rattle.padded_labels.specs.Padded.{ports_at}
use Rattle.padded_labels.proofs.Ported.{ports_grown}
use Rattle.padded_labels.proofs.labels.ports_of.Goals as goal

pub loop-index-preserved : goal.loop-index-preserved
loop-index-preserved c =
    let ls : List ChipLabel = c.args.labels.now in
    let hs : List ℕ = c.args.heights.now in
    let i : ℕ = c.loop-index.index in
    let d = c.index-labels-index.result in
    let p = c.in_ok-port.ensures in
    ports_grown ls hs i d c.in_ok-port.port c.loop-index.ports c.push.new.self c.loop-index-test.true c.requires
    (p.0 ∙ ap (λ (l : ChipLabel). l.name) c.index-labels-index.is) p.1 c.loop-index.invariant c.in_ok-push.ensures.ok

pub returns : goal.returns
returns c =
    let t = c.loop-index-test.false in
    let e = c.loop-index.auto.index-end in
    let ls : List ChipLabel = c.args.labels.now in
    let hs : List ℕ = c.args.heights.now in
    let long = c.requires in
    let one : c.loop-index.index ≡ length ls = omega (arith, t, e) in
    let two : c.loop-index.index ≡ length hs = omega (arith, t, e, long) in
    let first : take c.loop-index.index ls ≡ ls = ap (λ n. take n ls) one ∙ take_whole ls in
    let second : take c.loop-index.index hs ≡ hs = ap (λ n. take n hs) two ∙ take_whole hs in
    c.loop-index.invariant ∙ (λ i. ports_at (first i) (second i))
