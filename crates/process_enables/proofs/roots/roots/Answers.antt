use Rattle.std.proofs.Common.{◌≡◌, ◌∙◌, ◌<◌, ℕ, List, Option, None, length, replicate, rules, arith, ap, subst, sym}
use Rattle.mp_base.proofs.Entries.{entry}
use Rattle.process_plan.specs.declared.enable.Enable.{Enable}
use Rattle.process_plan.specs.declared.enable.Origin.TheVariants.{Always}
use Rattle.process_enables.specs.Forms.{Assigns}
use Rattle.process_enables.specs.Roots.{AssignsPlaces}
use Rattle.process_enables.proofs.Rooting.{roots_more, roots_none}
use Rattle.process_enables.proofs.roots.roots.Goals as goal

pub loop-process-init : goal.loop-process-init
loop-process-init c =
    let p = c.args.program.now in
    let old : List (Option Enable) = c.in_ok-enables.enables in
    let new = c.assign_all.new.enables in
    let always : Enable = record { origin = Always; expr = 0 } in
    let A : List ℕ → Type 0 = λ fs. Assigns fs always old new in
    roots_none p c.args.places.now old new (c.in_ok-enables.ensures ∙ ap (λ n. replicate n None) c.len.ensures)
    (subst A c.as_slice.ensures c.in_ok-assign_all.ensures)

pub assign_places-requires-clause-size : goal.assign_places-requires-clause-size
assign_places-requires-clause-size c =
    let p = c.args.program.now in
    let places = c.args.places.now in
    let k : ℕ = c.loop-process.process in
    let count : c.in-Ok.count ≡ length p.processes = search rules in
    let as_many = c.requires.count in
    let below = c.loop-process-test.true in
    let lt : k < length p.processes = omega (arith, below, count) in
    let lt_es : k < length places = omega (arith, lt, as_many) in
    ap length c.as_slice-in-loop-process.ensures
    ∙ c.requires.sizes k c.at.result.now c.at-in-loop-process.result.now (entry p.processes k lt c.at.ensures)
    (entry places k lt_es c.at-in-loop-process.ensures)
    ∙ sym (ap length c.as_slice-forms.ensures)

pub loop-process-preserved : goal.loop-process-preserved
loop-process-preserved c =
    let p = c.args.program.now in
    let places = c.args.places.now in
    let k : ℕ = c.loop-process.process in
    let q = c.at.result.now in
    let es : List ℕ = c.at-in-loop-process.result.now in
    let now = c.loop-process.enables in
    let next = c.assign_places.new.enables in
    let count : c.in-Ok.count ≡ length p.processes = search rules in
    let as_many = c.requires.count in
    let below = c.loop-process-test.true in
    let lt : k < length p.processes = omega (arith, below, count) in
    let lt_es : k < length places = omega (arith, lt, as_many) in
    let F : List ℕ → Type 0 = λ fs. AssignsPlaces k fs c.as_slice-in-loop-process.result.now now next in
    let E : List ℕ → Type 0 = λ gs. AssignsPlaces k q.forms gs now next in
    roots_more p places k q es now next (entry p.processes k lt c.at.ensures)
    (entry places k lt_es c.at-in-loop-process.ensures) c.loop-process.invariant
    (subst E c.as_slice-in-loop-process.ensures (subst F c.as_slice-forms.ensures c.in_ok-assign_places.ensures))
