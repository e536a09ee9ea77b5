use Rattle.std.proofs.Common.{refl, sym, subst₂}
use Rattle.switch_net.specs.Breaks.{HasPads}
use Rattle.sim_command.specs.Showing.{refused}
use Rattle.sim_command.proofs.Simulating.{few_inputs, few_clocks, opened_shown}
use Rattle.sim_command.proofs.command.show.Goals as goal

pub open-requires-clause-few_inputs : goal.open-requires-clause-few_inputs
open-requires-clause-few_inputs g c = few_inputs _ c.requires.few_inputs

pub open-requires-clause-few_clocks : goal.open-requires-clause-few_clocks
open-requires-clause-few_clocks g c = few_clocks _ c.requires.few_clocks

pub returns-in_err-simulation : goal.returns-in_err-simulation
returns-in_err-simulation g c =
    refused c.in_err-simulation.field-0.0 c.in_err-simulation.ensures.judged c.from_residual.ensures.1 refl refl

pub print-result-requires-clause-unknown : goal.print-result-requires-clause-unknown
print-result-requires-clause-unknown g c = c.in_ok-simulation.ensures.unknown

pub print-result-requires-clause-has_pads : goal.print-result-requires-clause-has_pads
print-result-requires-clause-has_pads g c =
    let opened = c.in_ok-simulation.ensures in
    subst₂ (λ net given. HasPads net given.pads) (sym opened.network) (sym opened.given) opened.judged

pub returns : goal.returns
returns g c =
    let opened = c.in_ok-simulation.ensures in
    opened_shown c.args.network c.in_ok-simulation.simulation.network c.args.given.now
    c.in_ok-simulation.simulation.given _ _ _ _ c.print-result.result opened.network opened.given c.print-result.ensures
