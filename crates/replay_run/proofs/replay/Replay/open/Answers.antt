use Rattle.std.proofs.Common.{◌∙◌, sym, ap}
use Rattle.mask_net.specs.SizeLine.{size_text}
use Rattle.replay_run.proofs.replay.Replay.open.Goals as goal

pub invariant_of-result : goal.invariant_of-result
invariant_of-result c = record {
  unknown = c.in_ok-simulation.ensures.unknown;
  sized = c.in_ok-size.ensures ∙ ap size_text (sym c.in_ok-simulation.ensures.network);
}

pub returns-clause-network : goal.returns-clause-network
returns-clause-network c = c.in_ok-simulation.ensures.network

pub returns-clause-given : goal.returns-clause-given
returns-clause-given c = c.in_ok-simulation.ensures.given
