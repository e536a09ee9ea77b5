use Rattle.std.proofs.Common.{ℕ, ◌+◌, ◌∙◌, ◌++◌, ◌∷◌, [], sym, ap, subst, arith, All}
use Rattle.lam_geom.specs.Inside.{sides}
use Rattle.cif_place.specs.Placing.{scale_of}
use Rattle.cif_place.specs.Pointing.{ArePlaced, IsDrawnPolygon}
use Rattle.poly_split.specs.Splitting.{IsStraight}
use Rattle.cif_place.proofs.Points.{placed_straight}
use Rattle.cif_flat.specs.Refusing.{RefusesWalk}
use Rattle.cif_flat.proofs.Arms.{fits_here, polygon_short, held_here, ratio_here, some_askew, none_askew, polygon_uneven}
use Rattle.cif_flat.proofs.Arms.{polygon_few, polygon_askew, polygon_counted, polygon_far, polygon_unset, polygon_drawn}
use Rattle.cif_flat.proofs.walker.Walker.draw_polygon.Goals as goal

pub are_whole-requires-clause-fit : goal.are_whole-requires-clause-fit
are_whole-requires-clause-fit c = ratio_here c.args.items.now c.args.self.now c.args.level _ c.requires

pub are_whole-requires-clause-short : goal.are_whole-requires-clause-short
are_whole-requires-clause-short c =
    polygon_short c.args.path.now (fits_here c.args.items.now c.args.self.now c.args.level _ c.requires)

pub placed_points-requires-clause-fit : goal.placed_points-requires-clause-fit
placed_points-requires-clause-fit c = ratio_here c.args.items.now c.args.self.now c.args.level _ c.requires

pub placed_points-requires-clause-held : goal.placed_points-requires-clause-held
placed_points-requires-clause-held c = held_here c.args.items.now c.args.self.now c.args.level _ c.requires

pub placed_points-requires-clause-short : goal.placed_points-requires-clause-short
placed_points-requires-clause-short c =
    polygon_short c.args.path.now (fits_here c.args.items.now c.args.self.now c.args.level _ c.requires)

pub returns-then-not-are_whole-clause-err : goal.returns-then-not-are_whole-clause-err
returns-then-not-are_whole-clause-err c =
    subst (RefusesWalk c.args.items.now) (sym c.broken.ensures)
    (polygon_uneven c.args.items.now c.args.self.now c.args.level c.args.offset c.args.path.now c.requires c.if-not-are_whole.ensures.uneven)

pub returns-then-path-lt4-clause-err : goal.returns-then-path-lt4-clause-err
returns-then-path-lt4-clause-err c =
    subst (RefusesWalk c.args.items.now) (sym c.broken-then-path-lt4.ensures)
    (polygon_few c.args.items.now c.args.self.now c.args.level c.args.offset c.args.path.now c.requires c.if-not-are_whole.ensures.whole c.if-path-lt4.true)

pub returns-then-is_some-clause-err : goal.returns-then-is_some-clause-err
returns-then-is_some-clause-err c =
    let k = some_askew (sides c.args.path.now) c.first_askew.result (sym c.is_some.ensures ∙ c.if-is_some.true)
    c.first_askew.ensures.askew in
    subst (RefusesWalk c.args.items.now) (sym c.broken-then-is_some.ensures)
    (polygon_askew c.args.items.now c.args.self.now c.args.level c.args.offset c.args.path.now c.requires c.if-not-are_whole.ensures.whole k.0 k.1)

pub returns-in_default-clause-err : goal.returns-in_default-clause-err
returns-in_default-clause-err c =
    subst (RefusesWalk c.args.items.now) (sym c.broken-in_default.ensures)
    (polygon_counted c.args.items.now c.args.self.now c.args.level c.args.offset c.args.path.now c.requires
    c.if-not-are_whole.ensures.whole (omega arith) (none_askew (sides c.args.path.now) c.first_askew.result (sym c.is_some.ensures ∙ c.if-is_some.false)
    c.first_askew.ensures.straight)
    (let n = c.in_default.ensures.none in let limit = c.requires.walking.limit in omega (arith, n, limit)))

pub returns-in_default-2-clause-err : goal.returns-in_default-2-clause-err
returns-in_default-2-clause-err c =
    let s = scale_of c.args.level.ratio in
    let room = c.in-Some.ensures.some in
    let limit = c.requires.walking.limit in
    subst (RefusesWalk c.args.items.now) (sym c.broken-in_default-2.ensures)
    (polygon_far c.args.items.now c.args.self.now c.args.level c.args.offset c.args.path.now c.requires c.if-not-are_whole.ensures.whole (omega arith)
    (none_askew (sides c.args.path.now) c.first_askew.result (sym c.is_some.ensures ∙ c.if-is_some.false)
    c.first_askew.ensures.straight)
    (omega (arith, room.0, room.1, limit))
    (subst (ArePlaced s c.args.level.placement c.args.path.now) c.in_default-2.is c.in_ok-points.ensures))

pub returns-in_default-layer-clause-err : goal.returns-in_default-layer-clause-err
returns-in_default-layer-clause-err c =
    let s = scale_of c.args.level.ratio in
    let room = c.in-Some.ensures.some in
    let limit = c.requires.walking.limit in
    subst (RefusesWalk c.args.items.now) (sym c.broken-in_default-layer.ensures)
    (polygon_unset c.args.items.now c.args.self.now c.args.level c.args.offset c.args.path.now c.requires c.if-not-are_whole.ensures.whole (omega arith)
    (none_askew (sides c.args.path.now) c.first_askew.result (sym c.is_some.ensures ∙ c.if-is_some.false)
    c.first_askew.ensures.straight)
    (omega (arith, room.0, room.1, limit)) c.in-Some-2.points.items
    (subst (ArePlaced s c.args.level.placement c.args.path.now) c.in-Some-2.is c.in_ok-points.ensures)
    c.in_default-layer.is)

pub draw_polygon-requires : goal.draw_polygon-requires
draw_polygon-requires c =
    let s = scale_of c.args.level.ratio in
    subst (λ z. All IsStraight (sides z)) (sym c.deref.ensures.value)
    (placed_straight s c.args.level.placement c.args.path.now c.in-Some-2.points.items
    (subst (ArePlaced s c.args.level.placement c.args.path.now) c.in-Some-2.is c.in_ok-points.ensures)
    (none_askew (sides c.args.path.now) c.first_askew.result (sym c.is_some.ensures ∙ c.if-is_some.false)
    c.first_askew.ensures.straight))

pub returns-clause-ok : goal.returns-clause-ok
returns-clause-ok c =
    let s = scale_of c.args.level.ratio in
    let room = c.in-Some.ensures.some in
    let limit = c.requires.walking.limit in
    polygon_drawn c.args.items.now c.args.self.now c.args.level c.args.offset c.args.path.now c.requires c.if-not-are_whole.ensures.whole (omega arith)
    (none_askew (sides c.args.path.now) c.first_askew.result (sym c.is_some.ensures ∙ c.if-is_some.false)
    c.first_askew.ensures.straight)
    (omega (arith, room.0, room.1, limit)) c.in-Some-2.points.items
    (subst (ArePlaced s c.args.level.placement c.args.path.now) c.in-Some-2.is c.in_ok-points.ensures)
    c.fillings_are_laid.ensures.lifted c.in-Some-layer.layer c.in-Some-layer.is c.draw_polygon.new.shapes
    (subst (λ z. IsDrawnPolygon c.in-Some-layer.layer z c.args.self.now.shapes c.draw_polygon.new.shapes)
    c.deref.ensures.value c.in_ok-draw_polygon.ensures)
    c.go_on.new.self
    (c.in_ok-go_on.ensures.kept ∙ ap (λ (n : ℕ). record c.args.self.now {
      shapes = c.draw_polygon.new.shapes;
      count = c.args.self.now.count + n;
      levels = c.go_on.new.self.levels;
    }) room.0)
    (c.in_ok-go_on.ensures.pushed ∙ ap (λ u. c.args.self.now.levels.items ++ u ∷ []) c.onward.ensures)
