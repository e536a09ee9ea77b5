use Rattle.std.proofs.Common.{refl}
use Rattle.sim_command.specs.Work.{work}
use Rattle.outcome.specs.World.{world_of}
use Rattle.outcome.proofs.EndsLemmas.{leaves_halted}
use Rattle.outcome.proofs.Silence.{quiet_same}
use Rattle.stages.proofs.Ending.{causes_halted}
use Rattle.sim_command.proofs.Simulating.{ends_set_up, shown_leaves, shown_causes, shown_quiet}
use Rattle.sim_command.proofs.command.sim.Goals as goal

pub show-requires-clause-few_inputs : goal.show-requires-clause-few_inputs
show-requires-clause-few_inputs g c = c.in_ok-network.ensures.few_inputs

pub show-requires-clause-few_clocks : goal.show-requires-clause-few_clocks
show-requires-clause-few_clocks g c = c.in_ok-network.ensures.few_clocks

pub returns-in_err-network-clause-content : goal.returns-in_err-network-clause-content
returns-in_err-network-clause-content g c =
    leaves_halted (work c.args.cif.now c.args.stimulus.now) c.in_err-network.field-0.0 c.from_residual.result _ _ _ _
    c.from_residual.ensures.1 c.in_err-network.ensures.held refl
    (ends_set_up c.args.cif.now c.args.stimulus.now _ _ _ c.in_err-network.field-0.0 c.in_err-network.ensures.reason)

pub returns-clause-content : goal.returns-clause-content
returns-clause-content g c =
    let told = c.in_ok-network.ensures in
    shown_leaves c.args.cif.now c.args.stimulus.now c.in_ok-network.field-0.network c.in_ok-network.field-0.given
    (world_of g.D.Depot.held g.D.Depot.read_faults g.D.Depot.write_faults g.O.Sink.held g.O.Sink.faults
    c.args.depot.now c.args.out.now)
    (world_of g.D.Depot.held g.D.Depot.read_faults g.D.Depot.write_faults g.O.Sink.held g.O.Sink.faults
    c.prepare.new.depot c.show.new.out)
    told.set_up told.reason c.show.result told.held told.writes c.show.ensures

pub returns-in_err-network-clause-silent : goal.returns-in_err-network-clause-silent
returns-in_err-network-clause-silent g c = quiet_same c.from_residual.result _

pub returns-clause-silent : goal.returns-clause-silent
returns-clause-silent g c =
    shown_quiet c.in_ok-network.field-0.network c.in_ok-network.field-0.given _ _ _ _ c.show.result c.show.ensures

pub returns-in_err-network-clause-causes : goal.returns-in_err-network-clause-causes
returns-in_err-network-clause-causes g c =
    causes_halted (work c.args.cif.now c.args.stimulus.now).First (g.D.Depot.held c.prepare.new.depot)
    c.in_err-network.field-0.0 c.from_residual.result _ _ c.from_residual.ensures.1
    (ends_set_up c.args.cif.now c.args.stimulus.now _ _ _ c.in_err-network.field-0.0 c.in_err-network.ensures.reason)
    c.in_err-network.ensures.writes refl

pub returns-clause-causes : goal.returns-clause-causes
returns-clause-causes g c =
    let told = c.in_ok-network.ensures in
    shown_causes c.args.cif.now c.args.stimulus.now c.in_ok-network.field-0.network c.in_ok-network.field-0.given
    (world_of g.D.Depot.held g.D.Depot.read_faults g.D.Depot.write_faults g.O.Sink.held g.O.Sink.faults
    c.args.depot.now c.args.out.now)
    (world_of g.D.Depot.held g.D.Depot.read_faults g.D.Depot.write_faults g.O.Sink.held g.O.Sink.faults
    c.prepare.new.depot c.show.new.out)
    told.set_up told.reason c.show.result told.writes c.show.ensures

pub returns-in_err-network-clause-held : goal.returns-in_err-network-clause-held
returns-in_err-network-clause-held g c = c.in_err-network.ensures.held

pub returns-clause-held : goal.returns-clause-held
returns-clause-held g c = c.in_ok-network.ensures.held

pub returns-in_err-network-clause-writes : goal.returns-in_err-network-clause-writes
returns-in_err-network-clause-writes g c = c.in_err-network.ensures.writes

pub returns-clause-writes : goal.returns-clause-writes
returns-clause-writes g c = c.in_ok-network.ensures.writes
