use Rattle.std.proofs.Common.{◌≡◌, ◌∙◌, List, ap, subst, length, arith, get_or, map, None, Option}
use Rattle.std.specs.Option.{option_map}
use Rattle.std.proofs.lemmas.List.{length-map}
use Rattle.written_names.specs.declared.sorts.Sort as coded
use Rattle.written_names.specs.Sorting.{meant}
use Rattle.mp_written.specs.Functions.{functions}
use Rattle.written_rules.specs.Sorts.{function_sorts}
use Rattle.written_meanings.specs.declared.functions.Body.{Body}
use Rattle.written_meanings.specs.Meanings.{body_of}
use Rattle.written_names.proofs.ScopeSorts.{body_at, body_found}
use Rattle.written_names.proofs.MeantNames.{meaning_at, expr_at}
use Rattle.written_names.specs.Sorting.{kind_sort}
use Rattle.mp_base.specs.Entries.{IsAt}
use Rattle.written_meanings.specs.declared.meanings.Meaning.{Meaning}
use Rattle.written_names.proofs.sorts.function_sorts.Goals as goal

pub bounds-exprs-e : goal.bounds-exprs-e
bounds-exprs-e c =
    let w = c.args.program.now in
    let d : Body = record { args = 0; expr = 0 } in
    let at = body_at w c.as_slice-body-items.result.now c.loop-body.body-index d
    (c.as_slice-body-items.ensures ∙ c.requires.meant.bodies) c.loop-body-test.true in
    let is = at.is in
    let low = at.low in
    let all = ap length c.as_slice-exprs.ensures in
    omega (arith, is, low, all)

pub loop-body-preserved : goal.loop-body-preserved
loop-body-preserved c =
    let w = c.args.program.now in
    let t = c.args.names.now in
    let n = c.loop-body.body-index in
    let d : Body = record { args = 0; expr = 0 } in
    let none : Meaning = record { owner = None; argument = None; function = None } in
    let items = c.as_slice-body-items.result.now in
    let at = body_at w items n d (c.as_slice-body-items.ensures ∙ c.requires.meant.bodies) c.loop-body-test.true in
    let x = c.index-exprs-e.result in
    let e = (get_or items n d).expr in
    let f = at.function in
    let low = at.low in
    let here = subst (λ k. IsAt w.exprs k x) at.is
    (expr_at w.exprs c.as_slice-exprs.result.now e x c.as_slice-exprs.ensures
    (let is = at.is in let all = ap length c.as_slice-exprs.ensures in
    omega (arith, is, low, all)) c.index-exprs-e.is) in
    let m = get_or c.args.meanings.now.exprs f.body none in
    let sort = c.expr_sort-sort.result in
    let found = c.expr_sort-sort.ensures
    ∙ ap (λ (l : List (Option coded.Sort)). kind_sort w.defs t l x.kind
    (get_or c.as_slice-meant.result.now e none)) c.as_slice.ensures
    ∙ ap (λ (l : List Meaning). kind_sort w.defs t c.loop-body.sorts x.kind (get_or l e none)) c.as_slice-meant.ensures
    ∙ ap (λ k. kind_sort w.defs t c.loop-body.sorts x.kind (get_or c.args.meanings.now.exprs k none)) at.is in
    ap (map (option_map meant)) c.in_ok-push.ensures.ok
    ∙ body_found w t c.requires.names c.loop-body.sorts n f x m sort c.loop-body.invariant at.at here
    (meaning_at w c.args.meanings.now f.body x none c.requires.meant here) found

pub bounds-meant-e : goal.bounds-meant-e
bounds-meant-e c =
    let w = c.args.program.now in
    let d : Body = record { args = 0; expr = 0 } in
    let at = body_at w c.as_slice-body-items.result.now c.loop-body.body-index d
    (c.as_slice-body-items.ensures ∙ c.requires.meant.bodies) c.loop-body-test.true in
    let is = at.is in
    let low = at.low in
    let size = c.requires.meant.as_many in
    let all = ap length c.as_slice-meant.ensures in
    omega (arith, is, low, size, all)

pub returns : goal.returns
returns c =
    let le = c.loop-body-test.false in
    let end = c.loop-body.auto.body-index-end in
    let all = ap length (c.as_slice-body-items.ensures ∙ c.requires.meant.bodies)
    ∙ length-map (functions c.args.program.now) body_of in
    let last : c.loop-body.body-index ≡ length (functions c.args.program.now) = omega (arith, le, end, all) in
    c.loop-body.invariant ∙ ap (function_sorts c.args.program.now) last
