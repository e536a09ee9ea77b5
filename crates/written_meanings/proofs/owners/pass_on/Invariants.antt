use Rattle.std.proofs.Common.{take}
use Rattle.written_meanings.specs.Owners.{IsPassedOn}
use Rattle.written_meanings.proofs.owners.pass_on.Given as goal

abbrev pub invariant-loop-expr : goal.invariant-loop-expr
invariant-loop-expr l = IsPassedOn l.owner (take l.expr-index l.exprs) l.initial.owners l.owners
