use Rattle.std.proofs.Common.{rules, tests}
use Rattle.std.proofs.lemmas.Iterator.{YieldsList-from_slice}
use Rattle.std.proofs.lemmas.Iterator.Consumers.{YieldsList-from_filter_map, fold_from_yields_List}
use Rattle.mp_rules.specs.Breaking.{earlier}
use Rattle.mp_limits.specs.Finding.{uneven_port}
use Rattle.mp_limits.proofs.Seen.{uneven_earliest}
use Rattle.mp_limits.proofs.pins.uneven_pins.Goals as goal

pub returns : goal.returns
returns c =
    let p = c.args.program.now in
    uneven_earliest p c.fold.result
    (fold_from_yields_List _ earlier _ _ c.fold.ensures.ran (YieldsList-from_filter_map _ (uneven_port p.width)
    (YieldsList-from_slice p.defs cc) c.filter_map.ensures.closure (λ x r q k. search (rules, tests)))
    (λ a x b q k. search (rules, tests)))
