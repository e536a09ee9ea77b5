-- Strip by strip of the row.
use Rattle.std.proofs.Common.{ℕ, arith, rules, subst}
use Rattle.std.specs.BTreeMap.{get}
use Rattle.std.specs.Int.{w64}
use Rattle.std.specs.Int.RustNames.{FitsSigned}
use Rattle.std.specs.Ordering.{int_cmp}
use Rattle.std.specs.Prelude.{ℤ, ◌<ℤ◌, ◌≤ℤ◌}
use Rattle.std.proofs.lemmas.Int.{ints, to_z-of_z}
use Rattle.layer_strips.specs.Sweep.{strip, IsNext}
use Rattle.layer_strips.proofs.Meeting.{IsAsked, grows_more, asked_first, asked_more, asked_all, asked_enough}
use Rattle.layer_strips.proofs.pairs.ask.Goals as goal

pub loop-next-init : goal.loop-next-init
loop-next-init c =
    let row = get int_cmp c.args.live.now in
    let x : ℤ = (strip c.args.strips.now c.args.index).x0 in
    let fits : FitsSigned w64 x = search rules in
    asked_first c.args.strips.now c.args.index row c.requires.row c.args.pairs.now c.from-next.result
    (subst (λ k. IsNext row (λ z. k ≤ℤ z) c.from-next.result) (to_z-of_z w64 x fits) c.from-next.ensures)

pub meet-requires-clause-other : goal.meet-requires-clause-other
meet-requires-clause-other c =
    let row = get int_cmp c.args.live.now in
    let p : ℤ × ℕ = (c.in-Some.right, c.in-Some.other) in
    let h = subst
    (IsAsked c.args.strips.now c.args.index row c.args.pairs.now c.loop-next.pairs) c.in-Some.is
    c.loop-next.invariant in
    (c.requires.row.each p.0 p.1 h.is_in).0

pub returns-then-strip-right-clause-grows : goal.returns-then-strip-right-clause-grows
returns-then-strip-right-clause-grows c =
    grows_more c.args.strips.now c.args.pairs.now c.loop-next.pairs c.meet.new.pairs c.loop-next.invariant.grows
    c.in_ok-meet.ensures.grows

pub returns-then-strip-right-clause-answers : goal.returns-then-strip-right-clause-answers
returns-then-strip-right-clause-answers c =
    let row = get int_cmp c.args.live.now in
    let p : ℤ × ℕ = (c.in-Some.right, c.in-Some.other) in
    let h = subst
    (IsAsked c.args.strips.now c.args.index row c.args.pairs.now c.loop-next.pairs) c.in-Some.is
    c.loop-next.invariant in
    let x : ℤ = (strip c.args.strips.now c.args.index).x1 in
    let l : x <ℤ c.in-Some.right = grind (arith, ints, c.if-strip-right.true) in
    asked_enough c.args.strips.now c.args.index row c.requires.row c.args.pairs.now c.loop-next.pairs c.meet.new.pairs
    p h c.in_ok-meet.ensures.grows
    c.in_ok-meet.ensures.joins l

pub loop-next-preserved : goal.loop-next-preserved
loop-next-preserved c =
    let row = get int_cmp c.args.live.now in
    let p : ℤ × ℕ = (c.in-Some.right, c.in-Some.other) in
    let h = subst
    (IsAsked c.args.strips.now c.args.index row c.args.pairs.now c.loop-next.pairs) c.in-Some.is
    c.loop-next.invariant in
    let fits : FitsSigned w64 c.in-Some.right = search rules in
    asked_more c.args.strips.now c.args.index row c.requires.row c.args.pairs.now c.loop-next.pairs c.meet.new.pairs p
    c.after-next.result h
    c.in_ok-meet.ensures.grows c.in_ok-meet.ensures.joins
    (subst (λ k. IsNext row (λ z. k <ℤ z) c.after-next.result)
    (to_z-of_z w64 c.in-Some.right fits) c.after-next.ensures)

pub returns-clause-answers : goal.returns-clause-answers
returns-clause-answers c =
    let row = get int_cmp c.args.live.now in
    asked_all c.args.strips.now c.args.index row c.requires.row c.args.pairs.now c.loop-next.pairs
    (subst (IsAsked c.args.strips.now c.args.index row c.args.pairs.now c.loop-next.pairs) c.in_default.is
    c.loop-next.invariant)
