use Rattle.std.proofs.Common.{take}
use Rattle.stimulus.proofs.Apart.{AreApart}
use Rattle.stimulus.proofs.rules.are_few_apart.Given as goal

abbrev pub invariant-loop-i : goal.invariant-loop-i
invariant-loop-i l = AreApart (take l.i l.words)
