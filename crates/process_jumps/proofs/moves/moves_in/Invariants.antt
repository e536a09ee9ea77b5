use Rattle.std.proofs.Common.{◌≡◌, ◌++◌, drop}
use Rattle.process_jumps.specs.Moves.{moves_in}
use Rattle.process_jumps.proofs.moves.moves_in.Given as goal

abbrev pub invariant-loop-index : goal.invariant-loop-index
invariant-loop-index l =
    moves_in l.forms l.enables ≡ l.moves ++ moves_in (drop l.index l.forms) (drop l.index l.enables)
