use Rattle.mp_fitting.proofs.Writing.{Fitting, guard_fit}
use Rattle.mp_fitting.proofs.guards_fit.Goals as goal

pub returns : goal.returns
returns c = λ env f form branches branch values at is among.
    let fitting : Fitting c.args.program.now = record {
      sound = c.sound.ensures;
      values = c.values.ensures;
      effects = c.effects.ensures;
      names = c.own_names.ensures;
      sorts = c.requires.sorts;
      sizes = c.requires.sizes;
    } in
    guard_fit c.args.program.now fitting env values f form branches branch at is among
