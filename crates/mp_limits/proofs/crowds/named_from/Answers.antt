use Rattle.std.proofs.Common.{◌≡◌, None, rules, tests}
use Rattle.std.specs.Prelude.{nat_le}
use Rattle.std.proofs.lemmas.Iterator.{YieldsList-from_slice}
use Rattle.std.proofs.lemmas.Iterator.Consumers.{YieldsList-from_filter_map, fold_from_yields_List}
use Rattle.mp_program.specs.declared.program.Process.{Process}
use Rattle.mp_rules.specs.Breaking.{earlier}
use Rattle.mp_limits.specs.Finding.{earliest_in, place_that, is_from}
use Rattle.mp_limits.proofs.Wide.{def_place}
use Rattle.mp_limits.proofs.Present.{process_place}
use Rattle.mp_limits.proofs.crowds.named_from.Goals as goal

pub returns : goal.returns
returns c =
    let p = c.args.program.now in
    let first : c.fold-found.result ≡ earliest_in (place_that def_place (is_from c.args.offset)) None p.defs =
    fold_from_yields_List _ earlier _ _ c.fold-found.ensures.ran
    (YieldsList-from_filter_map _ (place_that def_place (is_from c.args.offset))
    (YieldsList-from_slice p.defs cc) c.filter_map.ensures.closure (λ x r q k. search (rules, tests)))
    (λ a x b q k. search (rules, tests)) in
    rw first at
    (fold_from_yields_List _ earlier _ _ c.fold.ensures.ran
    (YieldsList-from_filter_map _ (place_that process_place (λ (q : Process). nat_le c.args.offset (q.place).offset))
    (YieldsList-from_slice p.processes cc) c.filter_map-2.ensures.closure (λ x r q k. search (rules, tests)))
    (λ a x b q k. search (rules, tests)))
