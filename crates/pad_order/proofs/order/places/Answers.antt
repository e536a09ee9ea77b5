use Rattle.std.proofs.Common.{ℕ, List, ◌<◌, length, get_or, ◌∙◌, arith}
use Rattle.std.proofs.lemmas.List.{length-set}
use Rattle.pad_order.specs.declared.order.Entry.{Entry}
use Rattle.pad_order.proofs.Told.{told_more}
use Rattle.pad_order.proofs.order.places.Goals as goal

abbrev none : Entry
none = record { height = 0; number = 0 }

pub loop-place-preserved : goal.loop-place-preserved
loop-place-preserved c =
    let es : List Entry = c.args.entries.now in
    let i : ℕ = c.loop-place.place in
    let v = c.loop-place.invariant in
    let told = c.loop-place.places.items in
    let inside : (get_or es i none).number < length told =
    (let h = c.requires.inside i none c.loop-place-test.true in omega (arith, h, v.long)) in
    record {
      long = length-set told (get_or es i none).number i ∙ v.long;
      told = told_more told es i none c.requires.distinct c.loop-place-test.true inside v.told;
    }

pub returns-clause-told : goal.returns-clause-told
returns-clause-told c = λ i d lt.
    c.loop-place.invariant.told i d (let t = c.loop-place-test.false in omega (arith, t, lt))
