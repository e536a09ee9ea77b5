use Rattle.std.proofs.Common.{◌≡◌, ◌∷◌, ◌++◌, ◌+◌, [], ◌∙◌, ℕ, List, length, rules, arith, sym, ap, subst}
use Rattle.std.specs.Prelude.{slice_set}
use Rattle.mp_base.proofs.Entries.{entry}
use Rattle.process_enables.specs.Places.{PutsPlaces}
use Rattle.process_enables.proofs.Placing.{CellsBelow, cells_more, some_form, places_are}
use Rattle.process_enables.proofs.places.put_places.Goals as goal

pub loop-place-preserved : goal.loop-place-preserved
loop-place-preserved c =
    let p = c.args.program.now in
    let roles = c.args.layout.now.roles in
    let xs = c.args.layout.now.cells in
    let k : ℕ = c.args.process in
    let n : ℕ = c.loop-place.place in
    let exprs = c.args.exprs.now in
    let next = c.put.new.exprs in
    let others : List ℕ = c.loop-place.others in
    let e : ℕ = c.in_ok-expr.expr in
    let P : List ℕ → Type 0 = λ es. CellsBelow p roles xs k (n + 1) exprs next es in
    let more = c.in_ok-push-3.ensures.ok in (
      subst P (sym more) (cells_more p roles xs c.requires.cells k n exprs c.loop-place.exprs next others
          c.in-Some.cell e
          c.loop-place.invariant.0 c.in-Some.ensures c.in_ok-expr.ensures),
      c.in_ok-push-2.ensures.ok ∙ ap (λ es. es ++ e ∷ []) c.loop-place.invariant.1 ∙ ap (λ es. 0 ∷ es) (sym more),
    )

pub returns : goal.returns
returns c =
    let p = c.args.program.now in
    let roles = c.args.layout.now.roles in
    let xs = c.args.layout.now.cells in
    let k : ℕ = c.args.process in
    let q = c.at.result.now in
    let exprs = c.args.exprs.now in
    let now = c.loop-place.exprs in
    let more = c.put_first.new.exprs in
    let others : List ℕ = c.loop-place.others in
    let first : ℕ = c.in_ok-first.first in
    let count : c.in-Ok.count ≡ length q.forms = search rules in
    let at_q = entry p.processes k c.requires.inside c.at.ensures in
    let some = some_form p c.requires.unbroken k q at_q in
    let place : c.loop-place.place ≡ length q.forms =
    omega (arith, count, some, c.loop-place.auto.place, c.loop-place.auto.place-end, c.loop-place-test.false) in
    let P : ℕ → Type 0 = λ n. CellsBelow p roles xs k n exprs now others in
    let Q : List ℕ → Type 0 = λ es. PutsPlaces p roles xs k exprs more es in
    let set : c.set.new.self ≡ first ∷ others =
    c.set.ensures ∙ ap (λ es. slice_set es 0 first) c.loop-place.invariant.1 in
    subst Q (sym set)
    (places_are p roles xs c.requires.cells c.requires.unbroken k q exprs now more others first
    at_q c.requires.truth (subst P place c.loop-place.invariant.0) c.in_ok-first.ensures)
