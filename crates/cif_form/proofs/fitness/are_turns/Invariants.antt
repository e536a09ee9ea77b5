use Rattle.std.proofs.Common.{◌↔◌, All}
use Rattle.std.specs.List.{flat_map}
use Rattle.cif_form.specs.Fits.{IsSmall, turn_numbers}
use Rattle.cif_form.proofs.fitness.are_turns.Given as goal

abbrev pub invariant-loop-turn : goal.invariant-loop-turn
invariant-loop-turn l =
    All IsSmall (flat_map turn_numbers l.turn-iterator) ↔ All IsSmall (flat_map turn_numbers l.turns)
