use Rattle.mp_rules.proofs.Moving.{no_move}
use Rattle.mp_rules.proofs.laws.no_move.Goals as goal

pub returns : goal.returns
returns c = no_move c.args.program.now c.sound.ensures c.effects.ensures c.requires
