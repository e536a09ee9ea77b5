use Rattle.std.proofs.Common.{string_bytes}
use Rattle.board.proofs.Words.{Missed}
use Rattle.board.proofs.reading.part_named.Given as goal

abbrev pub invariant-loop-place : goal.invariant-loop-place
invariant-loop-place g l = Missed (λ p. string_bytes p.name) l.parts l.name l.place
