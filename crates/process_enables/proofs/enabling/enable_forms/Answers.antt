use Rattle.process_plan.specs.Lawful.{Known}
use Rattle.process_enables.proofs.Finishing.{enabling_is}
use Rattle.process_enables.proofs.enabling.enable_forms.Goals as goal

pub returns : goal.returns
returns c =
    let known : Known c.args.program.now =
    record { sound = c.sound.ensures; values = c.values.ensures; effects = c.effects.ensures } in
    enabling_is c.args.program.now c.args.layout.now.roles c.args.layout.now.cells c.requires.cells c.requires.unbroken
    known c.in_ok-exprs.exprs c.put_all_places.new.exprs c.enable_all_inner.new.exprs c.in_ok-places.places
    c.in_ok-enables.enables c.enable_all_inner.new.enables c.in_ok-exprs.ensures c.in_ok-places.ensures
    c.in_ok-enables.ensures c.in_ok-enable_all_inner.ensures
