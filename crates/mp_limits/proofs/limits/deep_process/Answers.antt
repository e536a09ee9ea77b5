use Rattle.std.proofs.Common.{rules, tests}
use Rattle.std.proofs.lemmas.Iterator.{YieldsList-from_slice}
use Rattle.std.proofs.lemmas.Iterator.Consumers.{YieldsList-from_filter_map, fold_from_yields_List}
use Rattle.mp_rules.specs.Breaking.{earlier}
use Rattle.mp_limits.specs.Finding.{place_that}
use Rattle.mp_limits.proofs.Limited.{deep_earliest, depth_place, is_too_deep}
use Rattle.mp_limits.proofs.limits.deep_process.Goals as goal

pub returns : goal.returns
returns c =
    let p = c.args.program.now in
    deep_earliest p c.fold.result
    (fold_from_yields_List _ earlier _ _ c.fold.ensures.ran
    (YieldsList-from_filter_map _ (place_that depth_place is_too_deep)
    (YieldsList-from_slice p.processes cc) c.filter_map.ensures.closure (λ x r q k. search (rules, tests)))
    (λ a x b q k. search (rules, tests)))
