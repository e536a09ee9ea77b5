use Rattle.std.proofs.Common.{◌≡◌, ◌++◌, length, take}
use Rattle.organelles.proofs.Tabling.{gates_of}
use Rattle.organelles.proofs.building.add_gates.Given as goal

abbrev pub invariant-loop-pair : goal.invariant-loop-pair
invariant-loop-pair l =
    l.net ≡ l.initial.net ++ gates_of l.a l.b l.end.0 (length l.initial.net) (take l.pair-index l.gates)
