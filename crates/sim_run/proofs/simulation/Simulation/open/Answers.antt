use Rattle.std.proofs.Common.{◌∙◌, ap}
use Rattle.switch_net.specs.Values.{value_at}
use Rattle.sim_run.proofs.Transcripts.{all_unknown}
use Rattle.sim_run.proofs.simulation.Simulation.open.Goals as goal

pub returns-clause-unknown : goal.returns-clause-unknown
returns-clause-unknown c = ap value_at c.in_ok-circuit.ensures.unknown ∙ all_unknown c.args.network.nodes
