use Rattle.std.proofs.Common.{ℕ, List, [], ◌≡◌, length, get_or, take, subst, sym, ap, ◌∙◌, arith}
use Rattle.std.specs.List.{AllZip}
use Rattle.mp_base.proofs.Lists.{take_whole}
use Rattle.pad_frame.specs.declared.frames.PadSpot.{PadSpot}
use Rattle.padded_labels.specs.Padded.{IsAtSpot, IsEvenSpot}
use Rattle.padded_labels.proofs.Ported.{spots_grown}
use Rattle.padded_labels.proofs.labels.labels_on.Goals as goal

pub label-requires : goal.label-requires
label-requires c =
    let d = c.index-spots-index.result in
    subst IsEvenSpot (sym c.index-spots-index.is) (c.requires c.loop-index.index d c.loop-index-test.true)

pub loop-index-init : goal.loop-index-init
loop-index-init c = subst (AllZip IsAtSpot []) (sym c.new-labels.ensures) tt

pub loop-index-preserved : goal.loop-index-preserved
loop-index-preserved c =
    let ss : List PadSpot = c.args.spots.now in
    let i : ℕ = c.loop-index.index in
    let d = c.index-spots-index.result in
    spots_grown ss i d c.loop-index.labels c.push.new.self c.in_ok-label.label c.loop-index-test.true
    c.loop-index.invariant c.in_ok-push.ensures.ok
    (subst (λ (s : PadSpot). IsAtSpot s c.in_ok-label.label) c.index-spots-index.is c.in_ok-label.ensures)

pub returns : goal.returns
returns c =
    let t = c.loop-index-test.false in
    let e = c.loop-index.auto.index-end in
    let ss : List PadSpot = c.args.spots.now in
    let same : c.loop-index.index ≡ length ss = omega (arith, t, e) in
    subst (λ z. AllZip IsAtSpot z c.loop-index.labels) (ap (λ n. take n ss) same ∙ take_whole ss)
    c.loop-index.invariant
