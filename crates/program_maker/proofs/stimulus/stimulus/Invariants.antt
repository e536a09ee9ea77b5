use Rattle.std.proofs.Common.{codes}
use Rattle.program_maker.specs.Texts.{drawn_clock}
use Rattle.program_maker.proofs.Rows.{Kept}
use Rattle.program_maker.proofs.stimulus.stimulus.Given as goal

abbrev pub invariant-loop-k : goal.invariant-loop-k
invariant-loop-k l = Kept drawn_clock 2 l._k l.initial.draws.state l.draws.state (codes "clock reset=1\n") l.text.items
