use Rattle.std.proofs.Common.{◌≡◌, ◌∙◌, ◌+◌, ◌<◌, ℕ, Option, Some, None, ap, length, refl, sym, arith, ltb, false}
use Rattle.std.specs.Prelude.{slice_get}
use Rattle.std.specs.Option.{is_some}
use Rattle.std.proofs.lemmas.Bool.Decides.{nat_tests}
use Rattle.std.proofs.lemmas.Option.{get_or_from_slice_get, slice_get_read, slice_get_within}
use borrow.Author.Count.{below_more}
use Rattle.slice_symbols.specs.declared.standing.Standing.{Standing}
use Rattle.slice_symbols.proofs.Orders.{differ_by_test, same_by_test}
use Rattle.slice_symbols.proofs.standing.are_alike.Goals as goal

past_end : {A : Type 0} (o : Option A) (n m : ℕ) → o ≡ None → is_some o ≡ ltb n m → n < m → ⊥
past_end o n m none test l = let e : ltb n m ≡ false = sym test ∙ ap is_some none in grind (arith, nat_tests)

pub loop-band-preserved : goal.loop-band-preserved
loop-band-preserved c =
    let standing = c.args.standing.now in
    let place = c.args.at + c.loop-band.band in
    let s : Standing = c.in-Some.s.now in
    let wanted : Standing = record { first = c.args.first; band = c.loop-band.band } in
    let P : ℕ → Type 0 = λ k. slice_get standing (c.args.at + k)
    ≡ Some (let s : Standing = record { first = c.args.first; band = k } in s) in
    let read = c.in-Some.ensures.lookup in
    let here : slice_get standing place ≡ Some s =
    slice_get_read standing (length standing) place s refl read.3.0 read.1 in
    below_more P c.loop-band.band c.loop-band.invariant (here
    ∙ ap (λ (t : Standing). Some t)
    (same_by_test s wanted c.compare.result c.is_eq.result c.compare.ensures c.is_eq.ensures c.if-is_eq.true))

pub returns-in_default : goal.returns-in_default
returns-in_default c = λ alike.
    let standing = c.args.standing.now in
    let place = c.args.at + c.loop-band.band in
    let s : Standing = c.in-Some.s.now in
    let wanted : Standing = record { first = c.args.first; band = c.loop-band.band } in
    let read = c.in-Some.ensures.lookup in
    let here : slice_get standing place ≡ Some s =
    slice_get_read standing (length standing) place s refl read.3.0 read.1 in
    differ_by_test s wanted c.compare.result c.is_eq.result c.compare.ensures c.is_eq.ensures c.if-is_eq.false
    (sym (get_or_from_slice_get standing place s s here)
    ∙ get_or_from_slice_get standing place wanted s (alike c.loop-band.band c.loop-band-test.true))

pub returns-in_default-2 : goal.returns-in_default-2
returns-in_default-2 c = λ alike.
    let standing = c.args.standing.now in
    let place = c.args.at + c.loop-band.band in
    let wanted : Standing = record { first = c.args.first; band = c.loop-band.band } in
    past_end c.get.result place (length standing) c.in_default.is c.get.ensures.lookup.0
    (slice_get_within standing place wanted (alike c.loop-band.band c.loop-band-test.true))
