use Rattle.std.proofs.Common.{◌∙◌, [], ap, sym, subst}
use Rattle.fabric.specs.Plan.{Plan, IsFabric, with_added}
use Rattle.fabric.specs.Room.{IsRoomy}
use Rattle.path_laying.proofs.Emptied.{few}
use Rattle.path_laying.proofs.Raised.{unders_roomy, unders_stand}
use Rattle.path_laying.proofs.laying.add_unders.Goals as goal

pub add-requires-clause-met : goal.add-requires-clause-met
add-requires-clause-met c =
    let p = c.args.path.now in
    let f : Plan = c.args.fabric.now in
    subst (λ l. IsFabric (with_added f [] [] l)) (sym (c.deref.ensures.value ∙ c.in_ok-marks.ensures))
    (unders_stand p f c.args.control.now c.args.slices.now c.requires.tapped c.unders_fit.ensures
    c.len-nets.ensures.shape c.len-slices.ensures.shape c.conditions.ensures.met)

pub add-requires-clause-room : goal.add-requires-clause-room
add-requires-clause-room c =
    let p = c.args.path.now in
    let f : Plan = c.args.fabric.now in
    subst (λ l. IsRoomy (with_added f [] [] l)) (sym (c.deref.ensures.value ∙ c.in_ok-marks.ensures))
    (unders_roomy p f c.args.control.now c.args.slices.now c.requires.tapped (few p c.requires.small)
    c.conditions.ensures.room)

pub returns : goal.returns
returns c =
    let f : Plan = c.args.fabric.now in
    c.in_ok-add.ensures ∙ ap (λ l. with_added f [] [] l) (c.deref.ensures.value ∙ c.in_ok-marks.ensures)
