use Rattle.std.proofs.Common.{ℕ, List, ◌≡◌, ◌<◌, length, get_or, map, take, ap, ◌∙◌, arith}
use Rattle.std.proofs.lemmas.List.{get_or_default}
use Rattle.mp_base.proofs.Lists.{take_whole}
use Rattle.pad_frame.specs.declared.frames.PadSpot.{PadSpot}
use Rattle.pad_order.specs.Entries.{no_spot}
use Rattle.pad_order.proofs.Told.{map_more}
use Rattle.pad_order.proofs.ports.spots_of.Goals as goal

pub bounds-spots-place : goal.bounds-spots-place
bounds-spots-place c = c.requires c.loop-number.number 0 c.loop-number-test.true

pub loop-number-preserved : goal.loop-number-preserved
loop-number-preserved c =
    let ss : List PadSpot = c.args.spots.now in
    let ks : List ℕ = c.args.places.now in
    let i : ℕ = c.loop-number.number in
    let there : get_or ks i 0 < length ss = c.requires i 0 c.loop-number-test.true in
    let is : c.index-spots-place.result ≡ get_or ss (get_or ks i 0) no_spot =
    c.index-spots-place.is ∙ get_or_default ss (get_or ks i 0) _ no_spot there in
    let w = c.in_ok-spot.ensures in
    let name = w.0 ∙ ap (λ (s : PadSpot). s.name) is in
    let x = w.1 ∙ ap (λ (s : PadSpot). s.x) is in
    let y = w.2 ∙ ap (λ (s : PadSpot). s.y) is in
    map_more (λ k. get_or ss k no_spot) ks i 0 c.loop-number.told c.push.new.self c.in_ok-spot.spot
    c.loop-number-test.true c.loop-number.invariant c.in_ok-push.ensures.ok
    (λ j. record { name = name j; x = x j; y = y j })

pub returns : goal.returns
returns c =
    let t = c.loop-number-test.false in
    let e = c.loop-number.auto.number-end in
    let ss : List PadSpot = c.args.spots.now in
    let ks : List ℕ = c.args.places.now in
    let same : c.loop-number.number ≡ length ks = omega (arith, t, e) in
    c.loop-number.invariant
    ∙ ap (λ n. map (λ k. get_or ss k no_spot) (take n ks)) same ∙ ap (map (λ k. get_or ss k no_spot)) (take_whole ks)
