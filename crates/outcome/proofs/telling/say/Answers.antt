use Rattle.std.proofs.Common.{refl, take}
use Rattle.outcome.specs.World.{cut}
use Rattle.outcome.proofs.telling.say.Goals as goal

pub returns-in-Err : goal.returns-in-Err
returns-in-Err g c =
    let taken = c.in-Err.ensures.taken in
    cut refl c.in-Err.ensures.cause.later c.in-Err.ensures.cause.failed (take taken.count c.args.text.now) (
      taken.count,
      taken.cut,
      refl,
    ) taken.taken
