use Rattle.std.proofs.Common.{refl}
use Rattle.made_run.proofs.summing.Summing.open.Goals as goal

pub returns-clause-fresh : goal.returns-clause-fresh
returns-clause-fresh c = record {
  pads = c.in_ok-circuit.ensures.pads;
  unknown = c.in_ok-circuit.ensures.unknown;
  begun = refl;
  sum = refl;
}
