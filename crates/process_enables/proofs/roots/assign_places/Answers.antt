use Rattle.std.proofs.Common.{◌≡◌, ◌<◌, ℕ, List, length, get_or, arith, rules, sym, subst, ap}
use Rattle.std.proofs.lemmas.List.{get_or_default}
use Rattle.std.proofs.lemmas.Option.{slice_get-get_or}
use Rattle.process_plan.specs.declared.enable.Enable.{Enable}
use Rattle.process_plan.specs.declared.enable.Origin.TheVariants.{At}
use Rattle.process_enables.proofs.Assigning.{Sets, sets_is}
use Rattle.process_enables.proofs.Rooting.{below_more, below_all}
use Rattle.process_enables.proofs.roots.assign_places.Goals as goal

pub assign-requires : goal.assign-requires
assign-requires c =
    let i : ℕ = c.loop-index.index in
    let f : ℕ = get_or c.args.forms.now i 0 in
    let lt : i < length c.args.forms.now = c.loop-index-test.true in
    let inside = c.requires.inside f (i, lt, get_or_default c.args.forms.now i f 0 lt) in
    let size = c.loop-index.invariant.kept.size in
    omega (arith, inside, size)

pub loop-index-preserved : goal.loop-index-preserved
loop-index-preserved c =
    let forms : List ℕ = c.args.forms.now in
    let places : List ℕ = c.args.places.now in
    let i : ℕ = c.loop-index.index in
    let index : c.in-Ok.place ≡ i = search rules in
    let f : ℕ = get_or forms i 0 in
    let a : ℕ = get_or places i 0 in
    let lt : i < length forms = c.loop-index-test.true in
    let as_many = c.requires.size in
    let lt_a : i < length places = omega (arith, lt, as_many) in
    let inside = c.requires.inside f (i, lt, get_or_default forms i f 0 lt) in
    let size = c.loop-index.invariant.kept.size in
    let x : Enable = record { origin = At c.args.process c.in-Ok.place; expr = a } in
    let y : Enable = record { origin = At c.args.process i; expr = a } in
    let same : x ≡ y = ap (λ n. record { origin = At c.args.process n; expr = a }) index in
    let sets : Sets f x c.loop-index.enables c.assign.new.enables =
    subst (Sets f x c.loop-index.enables) (sym c.in_ok-assign.ensures.set)
    (sets_is c.loop-index.enables f x (omega (arith, inside, size)) c.in_ok-assign.ensures.free) in
    let Q : Enable → Type 0 = λ z. Sets f z c.loop-index.enables c.assign.new.enables in
    below_more c.args.process forms places i f a c.args.enables.now c.loop-index.enables c.assign.new.enables
    c.loop-index.invariant (slice_get-get_or forms i 0 lt) (slice_get-get_or places i 0 lt_a) (subst Q same sets)

pub returns : goal.returns
returns c =
    below_all c.args.process c.args.forms.now c.args.places.now c.loop-index.index c.args.enables.now
    c.loop-index.enables
    (omega (arith, c.loop-index.auto.index-end, c.loop-index-test.false)) c.loop-index.invariant
