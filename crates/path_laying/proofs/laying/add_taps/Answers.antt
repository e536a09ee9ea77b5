use Rattle.std.proofs.Common.{◌∙◌, [], ap, sym, subst}
use Rattle.fabric.specs.Plan.{Plan, IsFabric, with_added}
use Rattle.fabric.specs.Room.{IsRoomy}
use Rattle.path_laying.proofs.Emptied.{few}
use Rattle.path_laying.proofs.Raised.{taps_stand, taps_roomy}
use Rattle.path_laying.proofs.laying.add_taps.Goals as goal

pub add-requires-clause-met : goal.add-requires-clause-met
add-requires-clause-met c =
    let p = c.args.path.now in
    let f : Plan = c.args.fabric.now in
    subst (λ l. IsFabric (with_added f [] [] l)) (sym (c.deref.ensures.value ∙ c.in_ok-marks.ensures))
    (taps_stand p (few p c.requires.small) f c.args.control.now c.requires.slices c.taps_fit.ensures
    c.len-nets.ensures.shape c.len-slices.ensures.shape c.requires.tracks c.conditions.ensures.met)

pub add-requires-clause-room : goal.add-requires-clause-room
add-requires-clause-room c =
    let p = c.args.path.now in
    let f : Plan = c.args.fabric.now in
    subst (λ l. IsRoomy (with_added f [] [] l)) (sym (c.deref.ensures.value ∙ c.in_ok-marks.ensures))
    (taps_roomy p (few p c.requires.small) f c.args.control.now c.requires.slices c.conditions.ensures.room)

pub returns : goal.returns
returns c =
    let f : Plan = c.args.fabric.now in
    c.in_ok-add.ensures ∙ ap (λ l. with_added f [] [] l) (c.deref.ensures.value ∙ c.in_ok-marks.ensures)
