use Rattle.std.proofs.Common.{◌*◌, ◌^◌, take, map}
use Rattle.cif_list.specs.Turning.{wide_turn}
use Rattle.cif_place.specs.Placing.{scale_of}
use Rattle.cif_place.specs.Turning.{IsTurned, IsHeldTurned}
use Rattle.cif_place.proofs.turned.Turned.of_all.Given as goal

abbrev pub invariant-loop-turn : goal.invariant-loop-turn
invariant-loop-turn l = record {
  turned : IsTurned (scale_of l.ratio) (map wide_turn (take l.turn-index l.turns)) l.all;
  held : IsHeldTurned (2 ^ 40 * l.turn-index) l.all;
}
