use Rattle.std.proofs.Common.{refl}
use Rattle.outcome.proofs.EndsLemmas.{leaves_halted}
use Rattle.outcome.proofs.Silence.{quiet_same}
use Rattle.stages.proofs.Ending.{leaves_as, causes_as, causes_halted}
use Rattle.replay_command.specs.Work.{work}
use Rattle.replay_command.specs.Played.{PlaysChipOf}
use Rattle.replay_command.proofs.Replaying.{leads}
use Rattle.replay_command.proofs.command.replay.Goals as goal

pub returns-in_err-made-clause-content : goal.returns-in_err-made-clause-content
returns-in_err-made-clause-content g c =
    leaves_halted (work c.args.source.now c.args.stimulus.now c.args.cif.now) c.in_err-made.field-0.0
    c.from_residual.result _ _ _ _ c.from_residual.ensures.1 c.in_err-made.ensures.held refl
    c.in_err-made.ensures.reason

pub returns-in_err-made-clause-causes : goal.returns-in_err-made-clause-causes
returns-in_err-made-clause-causes g c =
    causes_halted (work c.args.source.now c.args.stimulus.now c.args.cif.now).First
    (g.D.Depot.held c.prepare.new.depot) c.in_err-made.field-0.0 c.from_residual.result _ _ c.from_residual.ensures.1
    c.in_err-made.ensures.reason c.in_err-made.ensures.writes refl

pub returns-in_err-made-clause-silent : goal.returns-in_err-made-clause-silent
returns-in_err-made-clause-silent g c = quiet_same c.from_residual.result _

pub returns-clause-content : goal.returns-clause-content
returns-clause-content g c =
    let checked = c.in_ok-made.made.checked in
    let given = c.in_ok-made.made.stimulus in
    let told = c.in_ok-made.ensures in
    let source = c.args.source.now in
    let stimulus = c.args.stimulus.now in
    let cif = c.args.cif.now in
    leaves_as (work source stimulus cif) (PlaysChipOf checked.program given) c.play-played.result _ _ _ told.held
    (record { writes = told.writes; prints = refl; text = refl })
    (leads source stimulus cif checked given told.padded (g.D.Depot.held c.prepare.new.depot) told.reason.1 told.source
    told.stimulus)
    c.play-played.ensures.content

pub returns-clause-causes : goal.returns-clause-causes
returns-clause-causes g c =
    causes_as c.play-played.result _ _ _ _ c.in_ok-made.ensures.reason.0
    (record { writes = c.in_ok-made.ensures.writes; prints = refl; text = refl })
    c.play-played.ensures.causes

pub returns-clause-silent : goal.returns-clause-silent
returns-clause-silent g c = c.play-played.ensures.silent
