use Rattle.std.proofs.Common.{rules, tests}
use Rattle.std.proofs.lemmas.Iterator.{YieldsList-from_slice}
use Rattle.std.proofs.lemmas.Iterator.Consumers.{YieldsList-from_filter_map, fold_from_yields_List}
use Rattle.mp_program.specs.declared.program.Expr.{Expr}
use Rattle.mp_rules.specs.Breaking.{earlier}
use Rattle.mp_limits.specs.Finding.{place_that, is_past_word}
use Rattle.mp_limits.proofs.Wide.{expr_place, past_earliest}
use Rattle.mp_limits.proofs.numbers.bit_past_word.Goals as goal

pub returns : goal.returns
returns c =
    let p = c.args.program.now in
    past_earliest p c.fold.result
    (fold_from_yields_List _ earlier _ _ c.fold.ensures.ran
    (YieldsList-from_filter_map _ (place_that expr_place (λ (e : Expr). is_past_word p.width e.kind))
    (YieldsList-from_slice p.exprs cc) c.filter_map.ensures.closure (λ x r q k. search (rules, tests)))
    (λ a x b q k. search (rules, tests)))
