use Rattle.sim_command.proofs.Simulating.{cut_shown, whole_shown}
use Rattle.sim_command.proofs.command.print.Goals as goal

pub returns-in_err-run : goal.returns-in_err-run
returns-in_err-run g c =
    let shows = c.in_err-run.ensures in
    let prints = shows.printed in
    cut_shown c.args.simulation.now.network c.args.simulation.now.given _ _ _ _ c.from_residual.result
    c.in_err-run.field-0.0 prints.end prints.text c.requires.has_pads c.from_residual.ensures.1
    (rw (c.requires.unknown) at prints.transcript) prints.taken shows.cause

pub returns : goal.returns
returns g c =
    let prints = c.in_ok-run.ensures.printed in
    whole_shown c.args.simulation.now.network c.args.simulation.now.given _ _ _ _ c.in_ok-run.field-0 tt
    prints.end prints.text c.requires.has_pads (rw (c.requires.unknown) at prints.transcript) prints.taken
    c.in_ok-run.ensures.cause
