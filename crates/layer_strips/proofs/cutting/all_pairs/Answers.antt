-- Layer by layer.
use Rattle.std.proofs.Common.{◌≡◌, ◌∙◌, arith, sym, subst, map}
use Rattle.std.proofs.lemmas.List.Filters.{dedup_is}
use Rattle.std.proofs.lemmas.Result.{IfOk-weaker}
use Rattle.std.specs.List.{dedup}
use Rattle.layer_strips.specs.Strips.{AreTouchingPairs}
use Rattle.layer_strips.specs.Layers.{pair_of}
use Rattle.layer_strips.proofs.Listing.{AreCaught, pair_eq, caught_none, caught_more, complete, still_there, was_there}
use Rattle.layer_strips.proofs.Listing.{each_once, are_touching}
use Rattle.layer_strips.proofs.cutting.all_pairs.Goals as goal

pub loop-number-init : goal.loop-number-init
loop-number-init c = subst (AreCaught c.args.strips.now 0) (sym c.new-pairs.ensures) (caught_none c.args.strips.now)

pub loop-number-preserved : goal.loop-number-preserved
loop-number-preserved c =
    caught_more c.args.strips.now c.loop-number.number c.layer-own.result c.loop-number.pairs c.sweep.new.pairs
    c.sweep-in-loop-number.new.pairs
    c.layer-own.ensures c.in_ok-sweep.ensures.grows c.in_ok-sweep.ensures.catches c.in_ok-sweep-2.ensures.grows
    c.in_ok-sweep-2.ensures.catches
    c.loop-number.invariant

pub returns : goal.returns
returns c =
    let strips = c.args.strips.now in
    let old = c.into_vec-pairs.result.items in
    let xs = c.sort_unstable.new.self in
    let ps = c.as_slice.result.now in
    let caught : AreCaught strips c.loop-number.number old =
    subst (AreCaught strips c.loop-number.number) (sym c.into_vec-pairs.ensures) c.loop-number.invariant in
    let e : ps ≡ dedup pair_eq xs.items = c.as_slice.ensures.value ∙ dedup_is _ _ _ c.dedup.ensures.filtered in
    let moved = c.sort_unstable.ensures.permutation in
    IfOk-weaker c.listed.result (λ v. v ≡ map pair_of ps) (AreTouchingPairs strips) (λ v is.
    subst (AreTouchingPairs strips) (sym is) (are_touching strips old ps
    (λ p h. was_there old xs.items ps p moved e h)
    (λ p h. still_there old xs.items ps p moved e h)
    (each_once xs.items ps c.sort_unstable.ensures.sorted e)
    caught.sound
    (complete strips c.loop-number.number old (omega arith) caught)))
    c.listed.ensures
