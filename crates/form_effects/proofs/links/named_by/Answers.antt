use Rattle.std.proofs.Common.{ap, ◌∙◌}
use Rattle.mp_program.specs.declared.program.Expr.{Expr}
use Rattle.form_effects.specs.Linked.{named}
use Rattle.form_effects.proofs.Entries.{made_more}
use Rattle.form_effects.proofs.links.named_by.Goals as goal

pub loop-expr-preserved : goal.loop-expr-preserved
loop-expr-preserved c =
    c.in_ok-push.ensures.items
    ∙ made_more (λ (x : Expr). named c.args.program.now.defs x.kind) c.as_slice-expr-items.result.now
    c.args.program.now.exprs
    c.loop-expr.list.items c.loop-expr.expr-index c.expr-item.result c.named.result
    c.as_slice-expr-items.ensures c.loop-expr-test.true c.expr-item.is
    (c.named.ensures ∙ ap (λ defs. named defs c.expr-item.result.kind) c.as_slice.ensures) c.loop-expr.invariant
