use Rattle.std.proofs.Common.{◌∙◌, ◌++◌, ◌∷◌, [], sym, ap, subst, arith}
use Rattle.lam_geom.specs.Moves.{IsNearRect}
use Rattle.cif_place.specs.declared.shape.BoxFault.TheVariants.{Uneven}
use Rattle.cif_place.specs.Shaping.{IsBoxFault}
use Rattle.cif_flat.specs.Refusing.{RefusesWalk}
use Rattle.cif_flat.proofs.Arms.{fits_here, box_short, held_here, ratio_here, box_askew, box_uneven, box_counted}
use Rattle.cif_flat.proofs.Arms.{box_far, box_unset, box_drawn}
use Rattle.cif_flat.proofs.walker.Walker.draw_box.Goals as goal

pub box_edges-requires : goal.box_edges-requires
box_edges-requires c =
    let s = box_short _ _ _ _ (fits_here c.args.items.now c.args.self.now c.args.level _ c.requires) in
    record { fit = ratio_here c.args.items.now c.args.self.now c.args.level _ c.requires; center = s.1; extent = s.0 }

pub place-placed-requires : goal.place-placed-requires
place-placed-requires c =
    record { held = held_here c.args.items.now c.args.self.now c.args.level _ c.requires; small = c.in-Ok.ensures.ok.2 }

pub returns-in-Err-Askew-clause-err : goal.returns-in-Err-Askew-clause-err
returns-in-Err-Askew-clause-err c =
    subst (RefusesWalk c.args.items.now) (sym c.broken.ensures)
    (box_askew c.args.items.now c.args.self.now c.args.level c.args.offset c.args.extent c.args.center.now
    c.args.direction.now c.requires
    (subst (IsBoxFault c.args.level.ratio c.args.extent c.args.center.now c.args.direction.now)
    c.in-Err-Askew.field-0-is c.in-Err-Askew.ensures.err))

pub returns-in-Err-Uneven-clause-err : goal.returns-in-Err-Uneven-clause-err
returns-in-Err-Uneven-clause-err c =
    let fault : IsBoxFault c.args.level.ratio c.args.extent c.args.center.now c.args.direction.now Uneven =
    subst (IsBoxFault c.args.level.ratio c.args.extent c.args.center.now c.args.direction.now)
    c.in-Err-Uneven.field-0-is c.in-Err-Uneven.ensures.err in
    subst (RefusesWalk c.args.items.now) (sym c.broken-in-Err-Uneven.ensures)
    (box_uneven c.args.items.now c.args.self.now c.args.level c.args.offset c.args.extent c.args.center.now
    c.args.direction.now c.requires fault.0 fault.1)

pub returns-then-self-ge-WALK_LIMIT-clause-err : goal.returns-then-self-ge-WALK_LIMIT-clause-err
returns-then-self-ge-WALK_LIMIT-clause-err c =
    subst (RefusesWalk c.args.items.now) (sym c.broken-then-self-ge-WALK_LIMIT.ensures)
    (box_counted c.args.items.now c.args.self.now c.args.level c.args.offset c.args.extent c.args.center.now
    c.args.direction.now c.requires c.in-Ok.edges c.in-Ok.ensures.ok (omega arith))

pub returns-then-not-are_near-clause-err : goal.returns-then-not-are_near-clause-err
returns-then-not-are_near-clause-err c = subst (RefusesWalk c.args.items.now) (sym c.broken-then-not-are_near.ensures)
    (box_far c.args.items.now c.args.self.now c.args.level c.args.offset c.args.extent c.args.center.now
    c.args.direction.now c.requires c.in-Ok.edges c.in-Ok.ensures.ok (omega arith)
    (λ l n. c.if-not-are_near.ensures.far l (subst IsNearRect (sym (c.place-placed.ensures l)) n)))

pub returns-in_default-clause-err : goal.returns-in_default-clause-err
returns-in_default-clause-err c = subst (RefusesWalk c.args.items.now) (sym c.broken-in_default.ensures)
    (box_unset c.args.items.now c.args.self.now c.args.level c.args.offset c.args.extent c.args.center.now
    c.args.direction.now c.requires c.in-Ok.edges c.in-Ok.ensures.ok (omega arith)
    (λ l. subst IsNearRect (c.place-placed.ensures l) (c.if-not-are_near.ensures.near l))
    c.rectangles_are_determined.ensures.boxes c.in_default.is)

pub rect-requires : goal.rect-requires
rect-requires c = c.if-not-are_near.ensures.near c.in-Some.layer

pub returns-clause-ok : goal.returns-clause-ok
returns-clause-ok c =
    box_drawn c.args.items.now c.args.self.now c.args.level c.args.offset c.args.extent c.args.center.now
    c.args.direction.now c.requires c.in-Ok.edges c.in-Ok.ensures.ok (omega arith)
    (λ l. subst IsNearRect (c.place-placed.ensures l) (c.if-not-are_near.ensures.near l))
    c.rectangles_are_determined.ensures.boxes c.in-Some.layer c.in-Some.is c.push.new.self
    (c.in_ok-push.ensures.ok
    ∙ ap (λ r. c.args.self.now.shapes ++ r ∷ []) (c.rect.ensures ∙ c.place-placed.ensures c.in-Some.layer))
    c.go_on.new.self c.in_ok-go_on.ensures.kept
    (c.in_ok-go_on.ensures.pushed ∙ ap (λ u. c.args.self.now.levels.items ++ u ∷ []) c.onward.ensures)
