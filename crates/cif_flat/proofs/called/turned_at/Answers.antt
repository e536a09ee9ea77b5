use Rattle.std.proofs.Common.{◌∙◌, refl, sym, subst, map}
use Rattle.cif_list.specs.Turning.{wide_turn}
use Rattle.cif_place.specs.Placing.{scale_of}
use Rattle.cif_place.specs.Turning.{IsTurned}
use Rattle.cif_flat.proofs.Calls.{calls_set, call_found}
use Rattle.cif_flat.proofs.called.turned_at.Goals as goal

pub returns-then-is_same-clause-turned : goal.returns-then-is_same-clause-turned
returns-then-is_same-clause-turned c =
    let f = call_found c.args.items.now c.args.calls.now c.args.at
    (map wide_turn c.args.turns.now) c.in-Some.composed c.requires.calls c.requires.at
    (sym c.found.ensures ∙ c.in-Some.is) in
    subst (λ r. IsTurned (scale_of r) (map wide_turn c.args.turns.now) c.in-Some.composed.turned)
    (c.if-is_same.ensures.0 refl) f.0

pub returns-then-is_same-clause-held : goal.returns-then-is_same-clause-held
returns-then-is_same-clause-held c =
    let f = call_found c.args.items.now c.args.calls.now c.args.at
    (map wide_turn c.args.turns.now) c.in-Some.composed c.requires.calls c.requires.at
    (sym c.found.ensures ∙ c.in-Some.is) in
    f.1

pub returns-clause-calls : goal.returns-clause-calls
returns-clause-calls c =
    calls_set c.args.items.now c.args.calls.now c.set.new.table c.args.at c.args.ratio c.of_all-turned.result
    (map wide_turn c.args.turns.now) c.requires.calls c.requires.at
    c.of_all-turned.ensures.turned c.of_all-turned.ensures.held c.in_ok-set.ensures.here c.in_ok-set.ensures.others
