use Rattle.cif_list.proofs.Turns.{small_turn}
use Rattle.cif_list.proofs.turn.append_turns.Goals as goal

pub short_turn-requires : goal.short_turn-requires
short_turn-requires c = small_turn _ _ _ _ _ _ c.loop-turn.invariant c.in-Some.ensures.steps c.requires
