use Rattle.cif_list.proofs.Turns.{IsAdded}
use Rattle.cif_list.proofs.turn.append_turns.Given as goal

abbrev pub invariant-loop-turn : goal.invariant-loop-turn
invariant-loop-turn l = IsAdded l.initial.arena.items l.arena.items l.turns l.turn-iterator
