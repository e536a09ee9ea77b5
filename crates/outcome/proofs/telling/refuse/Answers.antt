use Rattle.std.proofs.Common.{◌∙◌, subst, inl}
use Rattle.outcome.specs.World.{IsSaid}
use Rattle.outcome.specs.declared.status.Status.TheVariants.{Refused}
use Rattle.outcome.proofs.telling.refuse.Goals as goal

pub returns-in-Ok : goal.returns-in-Ok
returns-in-Ok g c =
    inl (subst (λ line. IsSaid Refused line (g.O.Sink.held c.args.out.now) (g.O.Sink.held c.say.new.out)
    (g.O.Sink.faults c.args.out.now) (g.O.Sink.faults c.say.new.out) c.say.result)
    (c.deref.ensures.value ∙ c.in-Ok.ensures) c.say.ensures)
