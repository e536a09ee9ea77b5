use Rattle.std.proofs.Common.{◌≡◌, ℕ, ◌<◌, arith, get_or, rules, length}
use Rattle.std.specs.Prelude.{List}
use Rattle.std.proofs.lemmas.List.{get_or_default}
use Rattle.union_find.specs.declared.pair.Pair.{Pair}
use Rattle.union_find.proofs.Chains.{join_more}
use Rattle.union_find.proofs.forest.join_all.Goals as goal

pub loop-pair-preserved : goal.loop-pair-preserved
loop-pair-preserved c =
    let pairs : List Pair = c.args.pairs.now in
    let i : ℕ = c.loop-pair.pair-index in
    let none : Pair = record { a = 0; b = 0 } in
    let h : i < length pairs = c.loop-pair-test.true in
    let pair : Pair = get_or pairs i none in
    let k = c.requires.inside i none h in
    let kept : length c.loop-pair.parents ≡ length c.args.parents.now = c.loop-pair.auto.parents in
    let ka = k.0 in
    let kb = k.1 in
    join_more pairs i c.loop-pair.parents c.join.new.parents pair c.loop-pair.invariant
    h (get_or_default pairs i pair none h) (omega arith) (omega arith)
    (search rules) c.join.ensures.still c.join.ensures.moved
