-- Place by place.
use Rattle.std.proofs.Common.{sym, ◌∙◌, subst, ◌+◌, ap, ◌∷◌, [], ◌++◌, rules, arith}
use Rattle.std.proofs.lemmas.List.Sorted.{IsNonDecreasingBy-from_sort_by_key}
use Rattle.region_sweep.proofs.Gridding.{no_place, AreSpotsSoFar, spots_more, spots_sorted}
use Rattle.region_sweep.proofs.grid.Grid.spots.Goals as goal

pub loop-index-preserved : goal.loop-index-preserved
loop-index-preserved c =
    let grid = c.args.self.now in
    let xs = grid.columns.marks.items in
    let ys = grid.rows.marks.items in
    let i = c.loop-index.index in
    let is = c.in_ok-push.ensures.ok ∙ ap (λ s. c.loop-index.spots ++ s ∷ []) c.spot.ensures in
    subst (AreSpotsSoFar xs ys c.args.places.now (i + 1)) (sym is)
    (spots_more xs ys c.args.places.now i c.loop-index.spots no_place c.loop-index-test.true c.loop-index.invariant)

pub returns-clause-spots : goal.returns-clause-spots
returns-clause-spots c =
    let grid = c.args.self.now in
    let xs = grid.columns.marks.items in
    let ys = grid.rows.marks.items in
    let end = c.loop-index.auto.index-end in
    spots_sorted xs ys c.args.places.now c.loop-index.index c.into_vec-spots.result.items c.sort_by_key.new.self.items
    (omega arith) c.in_ok-sort_by_key.ensures.permutation
    (subst (AreSpotsSoFar xs ys c.args.places.now c.loop-index.index)
    (sym c.into_vec-spots.ensures) c.loop-index.invariant)

pub returns-clause-ascending : goal.returns-clause-ascending
returns-clause-ascending c =
    IsNonDecreasingBy-from_sort_by_key (λ s. s.row) _ c.in_ok-sort_by_key.ensures.sorted (λ a r q k. search rules)
