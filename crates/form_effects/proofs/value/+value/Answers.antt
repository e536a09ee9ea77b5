use Rattle.std.proofs.Common.{◌≤◌, sym, ◌∙◌, ap, length, map, arith, get_or}
use Rattle.std.proofs.lemmas.List.{get_or_past}
use Rattle.mp_base.specs.Apply.{apply}
use Rattle.mp_program.specs.declared.program.Expr.{Expr}
use Rattle.mp_program.specs.Values.{kind_value, value_of}
use Rattle.form_effects.specs.Linked.{named}
use Rattle.form_effects.proofs.Entries.{made_at}
use Rattle.mp_base.proofs.Entries.{entry}
use Rattle.form_effects.proofs.value.+value.Goals as goal

pub value-returns-in-Number : goal.value-returns-in-Number
value-returns-in-Number t c =
    let p = c.args.program.now in
    let env = c.args.env.now in
    sym (c.values.ensures env c.args.expr c.at-found.result.now
    (entry p.exprs c.args.expr c.requires.inside c.at-found.ensures)
    ∙ ap (λ k. kind_value p env k (value_of p env)) c.in-Number.is)

pub value-returns-then-i-env : goal.value-returns-then-i-env
value-returns-then-i-env t c =
    let p = c.args.program.now in
    let env = c.args.env.now in
    let x = c.at-found.result.now in
    let link =
    made_at (λ (e : Expr). named p.defs e.kind) p.exprs c.args.links.now.exprs.items c.args.expr x c.index-i.result.now
    c.requires.linked.exprs c.requires.inside c.at-found.ensures c.index-i.ensures in
    ap (λ k. get_or env k 0) (link ∙ ap (named p.defs) c.in-Named.is)
    ∙ sym (c.values.ensures env c.args.expr x
    (entry p.exprs c.args.expr c.requires.inside c.at-found.ensures)
    ∙ ap (λ k. kind_value p env k (value_of p env)) c.in-Named.is)

pub value-returns-else-i-env : goal.value-returns-else-i-env
value-returns-else-i-env t c =
    let p = c.args.program.now in
    let env = c.args.env.now in
    let x = c.at-found.result.now in
    let link =
    made_at (λ (e : Expr). named p.defs e.kind) p.exprs c.args.links.now.exprs.items c.args.expr x c.index-i.result.now
    c.requires.linked.exprs c.requires.inside c.at-found.ensures c.index-i.ensures in
    let past : length env ≤ c.index-i.result.now = omega arith in
    sym (get_or_past env c.index-i.result.now 0 past)
    ∙ ap (λ k. get_or env k 0) (link ∙ ap (named p.defs) c.in-Named.is)
    ∙ sym (c.values.ensures env c.args.expr x
    (entry p.exprs c.args.expr c.requires.inside c.at-found.ensures)
    ∙ ap (λ k. kind_value p env k (value_of p env)) c.in-Named.is)

pub value-returns-in-True : goal.value-returns-in-True
value-returns-in-True t c =
    let p = c.args.program.now in
    let env = c.args.env.now in
    sym (c.values.ensures env c.args.expr c.at-found.result.now
    (entry p.exprs c.args.expr c.requires.inside c.at-found.ensures)
    ∙ ap (λ k. kind_value p env k (value_of p env)) c.in-True.is)

pub value-returns-in-False : goal.value-returns-in-False
value-returns-in-False t c =
    let p = c.args.program.now in
    let env = c.args.env.now in
    sym (c.values.ensures env c.args.expr c.at-found.result.now
    (entry p.exprs c.args.expr c.requires.inside c.at-found.ensures)
    ∙ ap (λ k. kind_value p env k (value_of p env)) c.in-False.is)

pub value-returns-in-Apply : goal.value-returns-in-Apply
value-returns-in-Apply t c =
    let p = c.args.program.now in
    let env = c.args.env.now in
    c.applied.ensures
    ∙ ap (λ xs. apply p.width c.in-Apply.op c.in-Apply.index (map (value_of p env) xs)) c.as_slice.ensures
    ∙ sym (c.values.ensures env c.args.expr c.at-found.result.now
    (entry p.exprs c.args.expr c.requires.inside c.at-found.ensures)
    ∙ ap (λ k. kind_value p env k (value_of p env)) c.in-Apply.is)
