use Rattle.plan_stats.proofs.CommandsExist.{plans_make}
use Rattle.plan_stats.proofs.laws.plans_make_chips.Goals as goal

pub returns : goal.returns
returns c = plans_make c.symbols_exist.ensures (record {
  walk = c.walk_is_unique.ensures.squares;
  limit = c.walk_is_counted.ensures.limit;
})
