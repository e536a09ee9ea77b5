use Rattle.std.proofs.Common.{◌≡◌, subst}
use Rattle.board.proofs.part.see.Goals as goal

-- The names of the box's parts are Rattle's own, and may change.
pub returns-clause-state : goal.returns-clause-state
returns-clause-state g c =
    subst (λ v. (g.dyn-1.0.entry c.deref_box_mut-1.result.now.0).1.state c.clock.new.self
    ≡ (g.dyn-1.0.entry v.0).1.after_seeing ((g.dyn-1.0.entry v.0).1.state v.1) c.args.seen)
    c.deref_box_mut-1.ensures.value.1 c.clock.ensures
