use Rattle.std.proofs.Common.{◌∙◌, ◌+◌, List, ap, sym, subst, length, arith, get_or, None, Option}
use Rattle.written_names.specs.declared.sorts.Sort as coded
use Rattle.written_meanings.specs.declared.meanings.Meaning.{Meaning}
use Rattle.written_names.specs.Sorting.{kind_sort}
use Rattle.written_names.proofs.ScopeSorts.{AreFirstSorts, sort_more, all_sorts}
use Rattle.written_names.proofs.MeantNames.{meaning_at, expr_at}
use Rattle.written_names.proofs.sorts.expr_sorts.Goals as goal

pub loop-e-preserved : goal.loop-e-preserved
loop-e-preserved c =
    let w = c.args.program.now in
    let t = c.args.names.now in
    let e = c.loop-e.e in
    let x = c.expr-item.result in
    let none : Meaning = record { owner = None; argument = None; function = None } in
    let fs = c.in_ok-functions.functions in
    let at = expr_at w.exprs c.as_slice-expr-items.result.now e x c.as_slice-expr-items.ensures c.loop-e-test.true
    c.expr-item.is in
    let m = get_or c.args.meanings.now.exprs e none in
    let found = c.expr_sort.ensures
    ∙ ap (λ (l : List (Option coded.Sort)). kind_sort w.defs t l x.kind (get_or c.as_slice-meant.result.now e none))
    c.as_slice.ensures
    ∙ ap (λ (l : List Meaning). kind_sort w.defs t fs x.kind (get_or l e none)) c.as_slice-meant.ensures in
    subst (AreFirstSorts w (e + 1)) (sym c.in_ok-push.ensures.ok)
    (sort_more w t c.requires.names fs e x m c.expr_sort.result c.loop-e.sorts c.in_ok-functions.ensures at
    (meaning_at w c.args.meanings.now e x none c.requires.meant at) found c.loop-e.invariant)

pub returns : goal.returns
returns c =
    let le = c.loop-e-test.false in
    let end = c.loop-e.auto.e-end in
    let all = ap length c.as_slice-expr-items.ensures in
    all_sorts c.args.program.now c.loop-e.e c.loop-e.sorts (omega (arith, le, end, all)) c.loop-e.invariant
