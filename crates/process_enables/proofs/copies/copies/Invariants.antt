use Rattle.process_enables.specs.Copies.{AreCopiedFrom}
use Rattle.process_enables.proofs.copies.copies.Given as goal

abbrev pub invariant-loop-expr : goal.invariant-loop-expr
invariant-loop-expr l = AreCopiedFrom l.program l.layout.roles l.layout.cells l.expr l.exprs
