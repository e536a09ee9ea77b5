use Rattle.std.proofs.Common.{◌≡◌, map, take}
use Rattle.mp_program.specs.declared.program.Expr.{Expr}
use Rattle.form_effects.specs.Linked.{named}
use Rattle.form_effects.proofs.links.named_by.Given as goal

abbrev pub invariant-loop-expr : goal.invariant-loop-expr
invariant-loop-expr l =
    l.list.items ≡ map (λ (x : Expr). named l.program.defs x.kind) (take l.expr-index l.program.exprs)
