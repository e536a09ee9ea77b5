use Rattle.std.proofs.Common.{◌∙◌, ◌≡◌, ◌+◌, ◌++◌, ◌∷◌, [], sym, ap, subst, arith}
use Rattle.cif_form.specs.Place.{segments}
use Rattle.cif_place.specs.Placing.{scale_of}
use Rattle.cif_place.specs.Shaping.{IsWired, drawn}
use Rattle.cif_flat.proofs.Walks.{onward}
use Rattle.lam_geom.specs.declared.layer.Layer.TheVariants.{ND}
use Rattle.std.specs.Prelude.{unwrap_or}
use Rattle.cif_flat.specs.Refusing.{RefusesWalk}
use Rattle.cif_flat.proofs.Arms.{fits_here, wire_short, held_here, ratio_here, wire_askew, wire_uneven, wire_counted}
use Rattle.cif_flat.proofs.Arms.{wire_far, wire_unset, wire_drawn}
use Rattle.cif_flat.proofs.walker.Walker.draw_wire.Goals as goal

pub are_straight-requires : goal.are_straight-requires
are_straight-requires c = (fits_here c.args.items.now c.args.self.now c.args.level _ c.requires.visit).formed

pub segment_count-weight-requires : goal.segment_count-weight-requires
segment_count-weight-requires c = (fits_here c.args.items.now c.args.self.now c.args.level _ c.requires.visit).formed

pub draw_wire-requires : goal.draw_wire-requires
draw_wire-requires c =
    let f = fits_here c.args.items.now c.args.self.now c.args.level _ c.requires.visit in
    let s = wire_short _ _ f in
    record {
      fit = ratio_here c.args.items.now c.args.self.now c.args.level _ c.requires.visit;
      held = held_here c.args.items.now c.args.self.now c.args.level _ c.requires.visit;
      extent = (s.0, c.requires.square);
      some = f.formed;
      short = s.1;
      straight = c.if-not-are_straight.ensures.straight;
    }

pub returns-then-not-are_straight-clause-err : goal.returns-then-not-are_straight-clause-err
returns-then-not-are_straight-clause-err c =
    let some = (fits_here c.args.items.now c.args.self.now c.args.level _ c.requires.visit).formed in
    subst (RefusesWalk c.args.items.now) (sym c.broken.ensures)
    (wire_askew c.args.items.now c.args.self.now c.args.level c.args.offset c.args.extent.across c.args.path.now some
    c.requires.visit c.if-not-are_straight.ensures.askew)

pub returns-in-Uneven-clause-err : goal.returns-in-Uneven-clause-err
returns-in-Uneven-clause-err c =
    let some = (fits_here c.args.items.now c.args.self.now c.args.level _ c.requires.visit).formed in
    let d = subst
    (IsWired (scale_of c.args.level.ratio) c.args.level.placement c.unwrap_or-layer.result c.args.extent.across
    (segments c.args.path.now) c.args.self.now.shapes c.draw_wire.new.shapes) c.in-Uneven.is c.in_ok-wired.ensures in
    subst (RefusesWalk c.args.items.now) (sym c.broken-in-Uneven.ensures)
    (wire_uneven c.args.items.now c.args.self.now c.args.level c.args.offset c.args.extent.across c.args.path.now some
    c.requires.visit c.if-not-are_straight.ensures.straight d)

pub returns-then-weight-self-clause-err : goal.returns-then-weight-self-clause-err
returns-then-weight-self-clause-err c =
    let some = (fits_here c.args.items.now c.args.self.now c.args.level _ c.requires.visit).formed in
    let d = subst
    (IsWired (scale_of c.args.level.ratio) c.args.level.placement c.unwrap_or-layer.result c.args.extent.across
    (segments c.args.path.now) c.args.self.now.shapes c.draw_wire.new.shapes) c.in-Far.is c.in_ok-wired.ensures in
    let n = c.segment_count-weight.ensures in
    subst (RefusesWalk c.args.items.now) (sym c.broken-then-weight-self.ensures)
    (wire_counted c.args.items.now c.args.self.now c.args.level c.args.offset c.args.extent.across c.args.path.now some
    c.requires.visit c.if-not-are_straight.ensures.straight d.0 d.1 (omega (arith, n)))

pub returns-else-weight-self-clause-err : goal.returns-else-weight-self-clause-err
returns-else-weight-self-clause-err c =
    let some = (fits_here c.args.items.now c.args.self.now c.args.level _ c.requires.visit).formed in
    let d = subst
    (IsWired (scale_of c.args.level.ratio) c.args.level.placement c.unwrap_or-layer.result c.args.extent.across
    (segments c.args.path.now) c.args.self.now.shapes c.draw_wire.new.shapes) c.in-Far.is c.in_ok-wired.ensures in
    let n = c.segment_count-weight.ensures in
    let m = c.requires.visit.walking.limit in
    subst (RefusesWalk c.args.items.now) (sym c.broken-in-Far.ensures)
    (wire_far c.args.items.now c.args.self.now c.args.level c.args.offset c.args.extent.across c.args.path.now some
    c.requires.visit c.if-not-are_straight.ensures.straight d.0 d.1 (omega (arith, n, m)) d.2.0 d.2.1 d.2.2)

pub returns-then-weight-self-2-clause-err : goal.returns-then-weight-self-2-clause-err
returns-then-weight-self-2-clause-err c =
    let some = (fits_here c.args.items.now c.args.self.now c.args.level _ c.requires.visit).formed in
    let d = subst
    (IsWired (scale_of c.args.level.ratio) c.args.level.placement c.unwrap_or-layer.result c.args.extent.across
    (segments c.args.path.now) c.args.self.now.shapes c.draw_wire.new.shapes) c.in-Drawn.is c.in_ok-wired.ensures in
    let n = c.segment_count-weight.ensures in
    subst (RefusesWalk c.args.items.now) (sym c.broken-then-weight-self-2.ensures)
    (wire_counted c.args.items.now c.args.self.now c.args.level c.args.offset c.args.extent.across c.args.path.now some
    c.requires.visit c.if-not-are_straight.ensures.straight d.0 d.1 (omega (arith, n)))

pub returns-in_default-clause-err : goal.returns-in_default-clause-err
returns-in_default-clause-err c =
    let some = (fits_here c.args.items.now c.args.self.now c.args.level _ c.requires.visit).formed in
    let d = subst
    (IsWired (scale_of c.args.level.ratio) c.args.level.placement c.unwrap_or-layer.result c.args.extent.across
    (segments c.args.path.now) c.args.self.now.shapes c.draw_wire.new.shapes) c.in-Drawn.is c.in_ok-wired.ensures in
    let n = c.segment_count-weight.ensures in
    let m = c.requires.visit.walking.limit in
    subst (RefusesWalk c.args.items.now) (sym c.broken-in_default.ensures)
    (wire_unset c.args.items.now c.args.self.now c.args.level c.args.offset c.args.extent.across c.args.path.now some
    c.requires.visit c.if-not-are_straight.ensures.straight d.0 d.1
    (omega (arith, n, m)) d.2 c.rectangles_are_determined.ensures.wires c.in_default.is)

pub returns-in_ok-go_on-in-Drawn-clause-ok : goal.returns-in_ok-go_on-in-Drawn-clause-ok
returns-in_ok-go_on-in-Drawn-clause-ok c =
    let some = (fits_here c.args.items.now c.args.self.now c.args.level _ c.requires.visit).formed in
    let d = subst
    (IsWired (scale_of c.args.level.ratio) c.args.level.placement c.unwrap_or-layer.result c.args.extent.across
    (segments c.args.path.now) c.args.self.now.shapes c.draw_wire.new.shapes) c.in-Drawn.is c.in_ok-wired.ensures in
    let n = c.segment_count-weight.ensures in
    let m = c.requires.visit.walking.limit in
    let set : c.unwrap_or-layer.result ≡ c.in-Some.set =
    c.unwrap_or-layer.ensures ∙ ap (λ o. unwrap_or o ND) c.in-Some.is in
    let old = c.args.self.now in
    wire_drawn c.args.items.now c.args.self.now c.args.level c.args.offset c.args.extent.across c.args.path.now some
    c.requires.visit c.if-not-are_straight.ensures.straight d.0 d.1
    (omega (arith, n, m)) d.2 c.rectangles_are_determined.ensures.wires c.in-Some.set c.in-Some.is
    c.draw_wire.new.shapes
    (d.3 ∙ ap (λ l. old.shapes ++ drawn c.args.level.placement l d.0) set) c.go_on.new.self
    (subst (λ k. c.go_on.new.self
    ≡ record old { shapes = c.draw_wire.new.shapes; count = old.count + k; levels = c.go_on.new.self.levels }) n
    c.in_ok-go_on-in-Drawn.ensures.kept)
    (c.in_ok-go_on-in-Drawn.ensures.pushed ∙ ap (λ u. old.levels.items ++ u ∷ []) c.onward.ensures
    ∙ ap (λ l. old.levels.items ++ onward c.args.level l ∷ []) (sym c.in-Some.is))
