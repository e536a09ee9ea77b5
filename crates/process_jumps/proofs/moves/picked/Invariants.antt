use Rattle.std.proofs.Common.{◌≡◌, take}
use Rattle.process_jumps.specs.Moves.{picked}
use Rattle.process_jumps.proofs.moves.picked.Given as goal

abbrev pub invariant-loop-found : goal.invariant-loop-found
invariant-loop-found l = l.exprs ≡ picked l.group (take l.found-index l.moves)
