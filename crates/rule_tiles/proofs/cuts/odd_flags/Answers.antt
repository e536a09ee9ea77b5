-- Pair by pair.
use Rattle.std.proofs.Common.{◌≡◌, ◌<◌, arith, ap, ◌∙◌, length, get_or, true}
use Rattle.std.proofs.lemmas.List.{length-set}
use Rattle.union_find.specs.declared.pair.Pair.{Pair}
use Rattle.rule_tiles.proofs.Pairs.{marked_none, marked_more, all_marked, pair_within}
use Rattle.rule_tiles.proofs.cuts.odd_flags.Goals as goal

pub loop-pair-init : goal.loop-pair-init
loop-pair-init c = marked_none c.args.tiles.now c.in_ok-odd.odd c.in_ok-odd.ensures

pub put-requires : goal.put-requires
put-requires c =
    let d : Pair = record { a = 0; b = 0 } in
    let p : Pair = get_or c.args.pairs.now c.loop-pair.pair-index d in
    let w : p.a < length c.args.tiles.now =
    (pair_within c.args.tiles.now c.args.pairs.now c.loop-pair.pair-index d c.requires c.loop-pair-test.true).0 in
    let l : length c.loop-pair.odd ≡ length c.args.tiles.now = c.loop-pair.invariant.long in
    omega (arith, w, l)

pub put-requires-in-loop-pair : goal.put-requires-in-loop-pair
put-requires-in-loop-pair c =
    let d : Pair = record { a = 0; b = 0 } in
    let p : Pair = get_or c.args.pairs.now c.loop-pair.pair-index d in
    let w : p.b < length c.args.tiles.now =
    (pair_within c.args.tiles.now c.args.pairs.now c.loop-pair.pair-index d c.requires c.loop-pair-test.true).1 in
    let l : length c.loop-pair.odd ≡ length c.args.tiles.now = c.loop-pair.invariant.long in
    let m : length c.put.new.self ≡ length c.loop-pair.odd =
    ap length c.put.ensures ∙ length-set c.loop-pair.odd p.a true in
    omega (arith, w, l, m)

pub loop-pair-preserved : goal.loop-pair-preserved
loop-pair-preserved c =
    let w = pair_within c.args.tiles.now c.args.pairs.now c.loop-pair.pair-index (record { a = 0; b = 0 }) c.requires
    c.loop-pair-test.true in
    marked_more c.args.tiles.now c.args.pairs.now c.loop-pair.pair-index (record { a = 0; b = 0 }) c.loop-pair.odd
    c.put.new.self c.put-in-loop-pair.new.self c.loop-pair-test.true w.0 w.1 c.loop-pair.invariant c.put.ensures
    c.put-in-loop-pair.ensures

pub returns : goal.returns
returns c =
    all_marked c.args.tiles.now c.args.pairs.now c.loop-pair.pair-index c.loop-pair.odd (omega arith) c.requires
    c.loop-pair.invariant
