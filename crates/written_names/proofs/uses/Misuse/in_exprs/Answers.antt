use Rattle.std.proofs.Common.{◌≡◌, ◌∙◌, ◌+◌, List, length, ap, sym, subst, arith, get_or, refl, None}
use Rattle.mp_rules.specs.Breaking.{IsEarliest, earlier_of}
use Rattle.written_meanings.specs.declared.meanings.Meaning.{Meaning}
use Rattle.written_names.specs.Misuse.{MisusesAt, misuse_at}
use Rattle.written_names.proofs.EarliestIndices.{AtFirst, earliest_more, earliest_of_all}
use Rattle.written_names.proofs.MeantNames.{meaning_at, expr_at}
use Rattle.written_names.proofs.MisusedNames.{misuse_earliest, misuse_within}
use Rattle.written_names.proofs.uses.Misuse.in_exprs.Goals as goal

pub loop-e-preserved : goal.loop-e-preserved
loop-e-preserved c =
    let w = c.args.program.now in
    let u = c.args.self in
    let t = c.args.names.now in
    let e = c.loop-e.e in
    let x = c.expr-item.result in
    let none : Meaning = record { owner = None; argument = None; function = None } in
    let at = expr_at w.exprs c.as_slice-expr-items.result.now e x c.as_slice-expr-items.ensures c.loop-e-test.true
    c.expr-item.is in
    let m = get_or c.args.meanings.now.exprs e none in
    let next = c.in_expr.ensures ∙ ap (λ (l : List Meaning). misuse_at u w.defs t x.place x.kind (get_or l e none))
    c.as_slice-meant.ensures in
    subst (IsEarliest (AtFirst (MisusesAt u w) (e + 1)))
    (sym (c.earlier_of-found.ensures ∙ ap (earlier_of c.loop-e.found) next))
    (earliest_more (MisusesAt u w) e c.loop-e.found (misuse_at u w.defs t x.place x.kind m) c.loop-e.invariant
    (misuse_earliest w t c.requires.names u c.requires.apart e x m at
    (meaning_at w c.args.meanings.now e x none c.requires.meant at) x.kind refl))

pub returns : goal.returns
returns c =
    let w = c.args.program.now in
    let le = c.loop-e-test.false in
    let end = c.loop-e.auto.e-end in
    let all = ap length c.as_slice-expr-items.ensures in
    earliest_of_all (MisusesAt c.args.self w) (length w.exprs) c.loop-e.found (misuse_within w c.args.self)
    (subst (λ n. IsEarliest (AtFirst (MisusesAt c.args.self w) n) c.loop-e.found)
    (let e : c.loop-e.e ≡ length w.exprs = omega (arith, le, end, all) in e) c.loop-e.invariant)
