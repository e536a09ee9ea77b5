use Rattle.std.proofs.Common.{sym, subst}
use Rattle.mp_rules.specs.Breaking.{IsUnbroken}
use Rattle.compile_laws.specs.Laws.{MakesChips}
use Rattle.plan_stats.proofs.Planning.{planned}
use Rattle.plan_stats.proofs.stats.plan_of.Goals as goal

pub chips_are_made-requires : goal.chips_are_made-requires
chips_are_made-requires c = subst IsUnbroken (sym c.program.ensures) c.unbroken.ensures

pub returns : goal.returns
returns c =
    planned c.args.checked.now.program c.in_ok-rtl.rtl c.plan.result
    (subst MakesChips c.program.ensures c.chips_are_made.ensures) c.in_ok-rtl.ensures c.plan.ensures.planned
    c.plan.ensures.bounded c.plan.ensures.emittable c.plan.ensures.measured
