use Rattle.std.proofs.Common.{◌≡◌, map, take}
use Rattle.nor_net.specs.Elements.{spot}
use Rattle.path_flat.specs.Numbers.{number_of}
use Rattle.path_flat.proofs.adding.add_gate.Given as goal

abbrev pub invariant-loop-input : goal.invariant-loop-input
invariant-loop-input l = l.numbered ≡ map (number_of l.numbers) (map (spot l.band) (take l.input-index l.inputs))
