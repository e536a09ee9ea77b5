use Rattle.mp_base.specs.declared.pad.Pad.{Pad}
use Rattle.board.proofs.Words.{Missed}
use Rattle.board.proofs.reading.pad_named.Given as goal

abbrev pub invariant-loop-place : goal.invariant-loop-place
invariant-loop-place l = Missed (λ (p : Pad). p.name) l.pads l.name l.place
