use Rattle.std.proofs.Common.{refl}
use Rattle.made_run.proofs.Running.{network_kept, summed_run}
use Rattle.made_run.proofs.run.run_along.Goals as goal

pub run-requires-clause-pads : goal.run-requires-clause-pads
run-requires-clause-pads c = c.requires.fresh.pads

pub returns-in-Ok-clause-network : goal.returns-in-Ok-clause-network
returns-in-Ok-clause-network c =
    let prints = c.run.ensures.printed in
    network_kept c.args.summing.now c.run.new.device _ prints.shown prints.runs

pub returns-in-Ok-clause-run : goal.returns-in-Ok-clause-run
returns-in-Ok-clause-run c =
    let before = c.args.summing.now in
    let fresh = c.requires.fresh in
    summed_run before.circuit.network c.args.given.now before c.run.new.device _ _ c.in-Ok.field-0 refl fresh.pads
    fresh.unknown fresh.begun fresh.sum c.in-Ok.ensures.printed
