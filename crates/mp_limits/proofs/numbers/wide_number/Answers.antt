use Rattle.std.proofs.Common.{◌≡◌, None, rules, tests}
use Rattle.std.proofs.lemmas.Iterator.{YieldsList-from_slice}
use Rattle.std.proofs.lemmas.Iterator.Consumers.{YieldsList-from_filter_map, fold_from_yields_List}
use Rattle.mp_program.specs.declared.program.Def.{Def}
use Rattle.mp_program.specs.declared.program.Expr.{Expr}
use Rattle.mp_rules.specs.Breaking.{earlier}
use Rattle.mp_limits.specs.Finding.{earliest_in, place_that, is_wide_constant, is_wide_number}
use Rattle.mp_limits.proofs.Wide.{def_place, expr_place, wide_earliest}
use Rattle.mp_limits.proofs.numbers.wide_number.Goals as goal

pub returns : goal.returns
returns c =
    let p = c.args.program.now in
    let first : c.fold-found.result
    ≡ earliest_in (place_that def_place (λ (d : Def). is_wide_constant p.width d.what)) None p.defs =
    fold_from_yields_List _ earlier _ _ c.fold-found.ensures.ran
    (YieldsList-from_filter_map _ (place_that def_place (λ (d : Def). is_wide_constant p.width d.what))
    (YieldsList-from_slice p.defs cc) c.filter_map.ensures.closure (λ x r q k. search (rules, tests)))
    (λ a x b q k. search (rules, tests)) in
    wide_earliest p c.fold.result
    (rw first at
    (fold_from_yields_List _ earlier _ _ c.fold.ensures.ran
    (YieldsList-from_filter_map _ (place_that expr_place (λ (e : Expr). is_wide_number p.width e.kind))
    (YieldsList-from_slice p.exprs cc) c.filter_map-2.ensures.closure (λ x r q k. search (rules, tests)))
    (λ a x b q k. search (rules, tests))))
