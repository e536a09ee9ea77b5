use Rattle.std.proofs.Common.{length, rules, tests}
use Rattle.std.specs.Prelude.{◌==◌}
use Rattle.std.proofs.lemmas.Iterator.{YieldsList-from_slice}
use Rattle.std.proofs.lemmas.Iterator.Consumers.{YieldsList-from_filter_map, fold_from_yields_List}
use Rattle.mp_program.specs.declared.program.Process.{Process}
use Rattle.mp_rules.specs.Breaking.{earlier}
use Rattle.mp_limits.specs.Finding.{place_that}
use Rattle.mp_limits.proofs.Present.{process_place, empty_earliest}
use Rattle.mp_limits.proofs.presence.empty_process.Goals as goal

pub returns : goal.returns
returns c =
    let p = c.args.program.now in
    empty_earliest p c.fold.result
    (fold_from_yields_List _ earlier _ _ c.fold.ensures.ran
    (YieldsList-from_filter_map _ (place_that process_place (λ (q : Process). length q.forms == 0))
    (YieldsList-from_slice p.processes cc) c.filter_map.ensures.closure (λ x r q k. search (rules, tests)))
    (λ a x b q k. search (rules, tests)))
