use Rattle.std.proofs.Common.{take}
use Rattle.stimulus.specs.Rules.{AreGiven}
use Rattle.stimulus.proofs.lines.givens.Given as goal

abbrev pub invariant-loop-word : goal.invariant-loop-word
invariant-loop-word l = AreGiven l.inputs (take l.word-index l.words) l.all
