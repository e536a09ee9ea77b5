use Rattle.std.proofs.Common.{drop}
use Rattle.mp_weight.specs.Weighing.{AreCalls, calls_from}
use Rattle.mp_weight.proofs.calls.calls.Given as goal

abbrev pub invariant-loop-f : goal.invariant-loop-f
invariant-loop-f l = AreCalls l.cap l.forms l.f (calls_from l.f (drop l.f l.forms)) l.calls
