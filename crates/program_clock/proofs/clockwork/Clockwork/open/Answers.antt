use Rattle.std.proofs.Common.{rules}
use Rattle.program_clock.proofs.Advancing.{bare_zero}
use Rattle.program_clock.proofs.clockwork.Clockwork.open.Goals as goal

pub invariant_of-result : goal.invariant_of-result
invariant_of-result c = record {
  linked = search rules;
  start = search rules;
  state = search rules;
  places = search rules;
  bare = search (rules, bare_zero);
  steady = search rules;
  env = search rules;
}
