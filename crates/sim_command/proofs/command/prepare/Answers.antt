use Rattle.std.proofs.Common.{◌∙◌, Option, None, Result, Ok}
use Rattle.std.proofs.lemmas.Result.{IfOk-from_err}
use Rattle.outside.specs.Outside.{Files}
use Rattle.stimulus.specs.declared.given.Stimulus.{Stimulus}
use Rattle.outcome.specs.declared.halt.Halt.{Halt}
use Rattle.outcome.specs.Order.{Fault}
use Rattle.source_files.specs.Faults.{PadsFault}
use Rattle.mask_files.specs.Faults.{MaskFault}
use Rattle.sim_command.specs.Work.{SetUpFault}
use Rattle.outcome.proofs.Reasons.{ends_first, reason_second, reason_err, if_kept}
use Rattle.sim_command.proofs.Simulating.{is_set_up, keeps_twice}
use Rattle.sim_command.proofs.command.prepare.Goals as goal

pub returns-in_err-network-clause-reason : goal.returns-in_err-network-clause-reason
returns-in_err-network-clause-reason g c =
    reason_err (SetUpFault c.args.cif.now c.args.stimulus.now) _ _ _ _ c.from_residual.result c.from_residual.ensures.1
    (ends_first (MaskFault c.args.cif.now)
    (PadsFault None c.args.stimulus.now) _ _ _ c.in_err-network.field-0.0 c.in_err-network.ensures.reason)

pub returns-in_err-given-clause-reason : goal.returns-in_err-given-clause-reason
returns-in_err-given-clause-reason g c =
    let F : Files → Option Fault → Type 0 = MaskFault c.args.cif.now in
    let G : Files → Option Fault → Type 0 = PadsFault None c.args.stimulus.now in
    reason_second F G _ _ _ _ _ c.from_residual-in_err-given.result c.in_err-given.ensures.held
    c.in_ok-network.ensures.reason.0 c.in_ok-network.ensures.reason.1
    (reason_err G _ _ _ _ c.from_residual-in_err-given.result c.from_residual-in_err-given.ensures.1
    c.in_err-given.ensures.reason)

pub returns-clause-reason : goal.returns-clause-reason
returns-clause-reason g c =
    let F : Files → Option Fault → Type 0 = MaskFault c.args.cif.now in
    let G : Files → Option Fault → Type 0 = PadsFault None c.args.stimulus.now in
    let ok : Result Stimulus Halt = Ok c.in_ok-given.given in
    reason_second F G _ _ _ _ _ ok c.in_ok-given.ensures.held c.in_ok-network.ensures.reason.0
    c.in_ok-network.ensures.reason.1 c.in_ok-given.ensures.reason

pub returns-clause-set_up : goal.returns-clause-set_up
returns-clause-set_up g c =
    is_set_up c.args.cif.now c.args.stimulus.now c.in_ok-network.network c.in_ok-given.given _
    (if_kept _ _ _ c.in_ok-given.ensures.held c.in_ok-network.ensures.drawn) c.in_ok-given.ensures.read

pub returns-in_err-network-clause-few_inputs : goal.returns-in_err-network-clause-few_inputs
returns-in_err-network-clause-few_inputs g c = IfOk-from_err c.from_residual.result _ c.from_residual.ensures.0

pub returns-in_err-given-clause-few_inputs : goal.returns-in_err-given-clause-few_inputs
returns-in_err-given-clause-few_inputs g c = IfOk-from_err c.from_residual-in_err-given.result _
    c.from_residual-in_err-given.ensures.0

pub returns-clause-few_inputs : goal.returns-clause-few_inputs
returns-clause-few_inputs g c = c.in_ok-given.ensures.few_inputs

pub returns-in_err-network-clause-few_clocks : goal.returns-in_err-network-clause-few_clocks
returns-in_err-network-clause-few_clocks g c = IfOk-from_err c.from_residual.result _ c.from_residual.ensures.0

pub returns-in_err-given-clause-few_clocks : goal.returns-in_err-given-clause-few_clocks
returns-in_err-given-clause-few_clocks g c = IfOk-from_err c.from_residual-in_err-given.result _
    c.from_residual-in_err-given.ensures.0

pub returns-clause-few_clocks : goal.returns-clause-few_clocks
returns-clause-few_clocks g c = c.in_ok-given.ensures.few_clocks

pub returns-in_err-network-clause-set_up : goal.returns-in_err-network-clause-set_up
returns-in_err-network-clause-set_up g c = IfOk-from_err c.from_residual.result _ c.from_residual.ensures.0

pub returns-in_err-given-clause-set_up : goal.returns-in_err-given-clause-set_up
returns-in_err-given-clause-set_up g c = IfOk-from_err c.from_residual-in_err-given.result _
    c.from_residual-in_err-given.ensures.0

pub returns-in_err-network-clause-held : goal.returns-in_err-network-clause-held
returns-in_err-network-clause-held g c = c.in_err-network.ensures.held

pub returns-in_err-given-clause-held : goal.returns-in_err-given-clause-held
returns-in_err-given-clause-held g c = keeps_twice _ _ _ c.in_ok-network.ensures.held c.in_err-given.ensures.held

pub returns-clause-held : goal.returns-clause-held
returns-clause-held g c = keeps_twice _ _ _ c.in_ok-network.ensures.held c.in_ok-given.ensures.held

pub returns-in_err-network-clause-writes : goal.returns-in_err-network-clause-writes
returns-in_err-network-clause-writes g c = c.in_err-network.ensures.writes

pub returns-in_err-given-clause-writes : goal.returns-in_err-given-clause-writes
returns-in_err-given-clause-writes g c = c.in_err-given.ensures.writes ∙ c.in_ok-network.ensures.writes

pub returns-clause-writes : goal.returns-clause-writes
returns-clause-writes g c = c.in_ok-given.ensures.writes ∙ c.in_ok-network.ensures.writes
