use Rattle.std.proofs.Common.{◌∙◌, refl, sym, subst, map}
use Rattle.std.proofs.lemmas.Bool.{false≢true}
use Rattle.cif_list.specs.Turning.{wide_turn}
use Rattle.cif_place.specs.Placing.{scale_of}
use Rattle.cif_flat.specs.Refusing.{RefusesWalk}
use Rattle.cif_flat.proofs.Arms.{fits_here, short_turns, held_here, ratio_here}
use Rattle.cif_flat.proofs.Calls.{call_unknown, call_open, call_fault, call_entered}
use Rattle.cif_flat.proofs.walker.Walker.call.Goals as goal

pub returns-in_default-clause-err : goal.returns-in_default-clause-err
returns-in_default-clause-err c =
    subst (RefusesWalk c.args.items.now) (sym c.broken.ensures)
    (call_unknown c.args.items.now c.args.self.now c.args.level c.args.offset c.args.number.now
    (map wide_turn c.args.turns.now) c.requires c.key_of-number.result c.key_of-number.ensures
    (sym c.found.ensures ∙ c.in_default.is))

pub returns-then-is_open-clause-err : goal.returns-then-is_open-clause-err
returns-then-is_open-clause-err c = subst (RefusesWalk c.args.items.now) (sym c.broken-then-is_open.ensures)
    (call_open c.args.items.now c.args.self.now c.args.level c.args.offset c.args.number.now
    (map wide_turn c.args.turns.now) c.requires c.key_of-number.result c.key_of-number.ensures c.in-Some.symbol
    (sym c.found.ensures ∙ c.in-Some.is) (c.if-is_open.ensures.0 refl))

pub turned_at-requires-clause-fit : goal.turned_at-requires-clause-fit
turned_at-requires-clause-fit c = ratio_here c.args.items.now c.args.self.now c.args.level _ c.requires

pub turned_at-requires-clause-short : goal.turned_at-requires-clause-short
turned_at-requires-clause-short c =
    short_turns (map wide_turn c.args.turns.now)
    (fits_here c.args.items.now c.args.self.now c.args.level _ c.requires).signed

pub enter-requires-clause-count : goal.enter-requires-clause-count
enter-requires-clause-count c =
    (c.in-Ok.ensures.called (scale_of c.args.level.ratio)
    (map wide_turn c.args.turns.now) c.in_ok-turned.ensures.turned).3

pub enter-requires-clause-outer : goal.enter-requires-clause-outer
enter-requires-clause-outer c = held_here c.args.items.now c.args.self.now c.args.level _ c.requires

pub returns-in-Err-clause-err : goal.returns-in-Err-clause-err
returns-in-Err-clause-err c = subst (RefusesWalk c.args.items.now) (sym c.broken-in-Err.ensures)
    (call_fault c.args.items.now c.args.self.now c.args.level c.args.offset c.args.number.now
    (map wide_turn c.args.turns.now) c.requires c.key_of-number.result c.key_of-number.ensures c.in-Some.symbol
    (sym c.found.ensures ∙ c.in-Some.is) (λ o. false≢true (c.if-is_open.ensures.1 o)) c.in-Err.fault
    (c.in-Err.ensures.called (scale_of c.args.level.ratio)
    (map wide_turn c.args.turns.now) c.in_ok-turned.ensures.turned))

pub returns-in_ok-enter-in-Ok-clause-ok : goal.returns-in_ok-enter-in-Ok-clause-ok
returns-in_ok-enter-in-Ok-clause-ok c =
    let a = c.in-Ok.ensures.called (scale_of c.args.level.ratio)
    (map wide_turn c.args.turns.now) c.in_ok-turned.ensures.turned in
    let e = c.in_ok-enter-in-Ok.ensures in
    call_entered c.args.items.now c.args.self.now c.args.level c.args.offset c.args.number.now
    (map wide_turn c.args.turns.now) c.requires c.key_of-number.result c.key_of-number.ensures c.in-Some.symbol
    (sym c.found.ensures ∙ c.in-Some.is) (λ o. false≢true (c.if-is_open.ensures.1 o)) c.in-Ok.placement a
    (c.in-Ok.ensures.held c.in_ok-turned.ensures.held)
    c.enter.new.self.opened c.in_ok-way-in-Ok.way c.way_behind.new.self c.in_ok-way-in-Ok.ensures.behind
    c.in_ok-way-in-Ok.ensures.kept
    e.here e.others c.placements_compose.ensures.after c.placements_compose.ensures.held
    c.enter.new.self c.turned_at.new.calls c.in_ok-turned.ensures.calls e.kept e.pushed
