use Rattle.std.proofs.Common.{◌∙◌, ◌+◌, List, Option, None, ℕ, sym, ap, subst, length, arith, get_or}
use Rattle.std.specs.List.{filter_map}
use Rattle.std.proofs.lemmas.Option.{get_or_from_slice_get}
use Rattle.mp_base.specs.Entries.{IsAt}
use Rattle.mp_base.proofs.Entries.{entry, some_entry}
use Rattle.mp_written.specs.declared.program.Def.{Def}
use Rattle.mp_written.specs.declared.program.Expr.{Expr}
use Rattle.mp_written.specs.Functions.{functions, function_of}
use Rattle.written_meanings.specs.Functions.{AreFunctions}
use Rattle.written_meanings.specs.Meanings.{args_around, usable, argument, used}
use Rattle.written_meanings.proofs.MeantExprs.{AreMeant, meant_more, meaning_known}
use Rattle.written_meanings.proofs.meanings.meanings_of.Goals as goal

pub loop-e-preserved : goal.loop-e-preserved
loop-e-preserved c =
    let w = c.args.program.now in
    let n = c.loop-e.e in
    let x = c.expr-item.result in
    let m = c.meaning_of.result in
    let are = subst (λ (ds : List Def). AreFunctions (filter_map (λ (d : Def). function_of d d.what) ds)
    c.in_ok-functions.functions) c.as_slice.ensures c.in_ok-functions.ensures in
    let lt = c.loop-e-test.true in
    let size = c.in_ok-owners.ensures.size in
    let all = ap length c.as_slice-expr-items.ensures in
    let at = subst (λ (xs : List Expr). IsAt xs n x) c.as_slice-expr-items.ensures
    (entry c.as_slice-expr-items.result.now n lt c.expr-item.is) in
    let (o, here) = some_entry c.in_ok-owners.owners n (omega (arith, lt, size, all)) in
    let got = ap (λ (os : List (Option ℕ)). get_or os n None) c.as_slice-owners.ensures
    ∙ get_or_from_slice_get c.in_ok-owners.owners n o None here in
    subst (AreMeant w (n + 1)) (sym c.in_ok-push.ensures.ok)
    (meant_more w n x m c.loop-e.exprs at
    (meaning_known w n x m o c.in_ok-owners.owners c.in_ok-owners.ensures at here (c.meaning_of.ensures.owner ∙ got)
    (c.meaning_of.ensures.argument (functions w) are ∙ ap (λ p. argument (args_around (functions w) p) x.kind) got)
    (c.meaning_of.ensures.function (functions w) are ∙ ap (λ p. used (usable (functions w) p) x.kind) got))
    c.loop-e.invariant)

pub returns : goal.returns
returns c =
    let w = c.args.program.now in
    let are = subst (λ (ds : List Def). AreFunctions (filter_map (λ (d : Def). function_of d d.what) ds)
    c.in_ok-functions.functions) c.as_slice.ensures c.in_ok-functions.ensures in
    let le = c.loop-e-test.false in
    let end = c.loop-e.auto.e-end in
    let all = ap length c.as_slice-expr-items.ensures in
    let size = c.loop-e.invariant.size in
    record { bodies = are.bodies; as_many = omega (arith, size, le, end, all); exprs = c.loop-e.invariant.each }
