use Rattle.mp_rules.proofs.Moving.{one_move}
use Rattle.mp_rules.proofs.laws.one_move.Goals as goal

pub returns : goal.returns
returns c = one_move c.args.program.now c.sound.ensures c.effects.ensures c.requires
