use Rattle.std.proofs.Common.{refl}
use Rattle.outcome.specs.World.{world_of}
use Rattle.outcome.proofs.EndsLemmas.{leaves_halted}
use Rattle.outcome.proofs.Silence.{quiet_same}
use Rattle.stages.proofs.Ending.{leaves_as, causes_as, causes_halted}
use Rattle.trace_command.specs.Traced.{Traces}
use Rattle.trace_command.specs.Work.{work}
use Rattle.trace_command.proofs.Shown.{leads}
use Rattle.trace_command.proofs.command.trace.Goals as goal

pub returns-in_err-made-clause-content : goal.returns-in_err-made-clause-content
returns-in_err-made-clause-content g c =
    leaves_halted (work c.args.source.now c.args.stimulus.now) c.in_err-made.field-0.0 c.from_residual.result _ _ _ _
    c.from_residual.ensures.1 c.in_err-made.ensures.held refl c.in_err-made.ensures.reason

pub returns-in_err-made-clause-causes : goal.returns-in_err-made-clause-causes
returns-in_err-made-clause-causes g c =
    causes_halted (work c.args.source.now c.args.stimulus.now).First (g.D.Depot.held c.prepare.new.depot)
    c.in_err-made.field-0.0 c.from_residual.result _ _ c.from_residual.ensures.1 c.in_err-made.ensures.reason
    c.in_err-made.ensures.writes refl

pub returns-in_err-made-clause-silent : goal.returns-in_err-made-clause-silent
returns-in_err-made-clause-silent g c = quiet_same c.from_residual.result _

pub returns-in_err-made-clause-held : goal.returns-in_err-made-clause-held
returns-in_err-made-clause-held g c = c.in_err-made.ensures.held

pub returns-in_err-made-clause-writes : goal.returns-in_err-made-clause-writes
returns-in_err-made-clause-writes g c = c.in_err-made.ensures.writes

pub returns-clause-content : goal.returns-clause-content
returns-clause-content g c =
    let made = c.in_ok-made.made in
    let told = c.in_ok-made.ensures in
    let source = c.args.source.now in
    let stimulus = c.args.stimulus.now in
    let held = g.D.Depot.held c.prepare.new.depot in
    leaves_as (work source stimulus) (Traces made.checked.program made.stimulus) c.show-shown.result _ _ _ told.held
    (record { writes = told.writes; prints = refl; text = refl })
    (leads source stimulus made.checked made.stimulus told.padded held told.reason.1 told.source told.stimulus)
    (c.show-shown.ensures.content (world_of g.D.Depot.held g.D.Depot.read_faults g.D.Depot.write_faults g.O.Sink.held
    g.O.Sink.faults c.prepare.new.depot c.args.out.now))

pub returns-clause-causes : goal.returns-clause-causes
returns-clause-causes g c =
    causes_as c.show-shown.result _ _ _ _ c.in_ok-made.ensures.reason.0
    (record { writes = c.in_ok-made.ensures.writes; prints = refl; text = refl })
    (c.show-shown.ensures.causes (world_of g.D.Depot.held g.D.Depot.read_faults g.D.Depot.write_faults g.O.Sink.held
    g.O.Sink.faults c.prepare.new.depot c.args.out.now))

pub returns-clause-silent : goal.returns-clause-silent
returns-clause-silent g c = c.show-shown.ensures.silent

pub returns-clause-held : goal.returns-clause-held
returns-clause-held g c = c.in_ok-made.ensures.held

pub returns-clause-writes : goal.returns-clause-writes
returns-clause-writes g c = c.in_ok-made.ensures.writes
