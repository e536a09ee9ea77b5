use Rattle.transcript.proofs.Transcripts.{transcript_exists, transcript_once}
use Rattle.sim_run.specs.Transcript.{NetworkSteps}
use Rattle.sim_run.proofs.Transcripts.{can_step, steps_on, steps_once}
use Rattle.sim_run.proofs.laws.transcripts_exist.Goals as goal

pub returns-clause-exist : goal.returns-clause-exist
returns-clause-exist c net given before has =
    let exist = c.circuits_run.ensures.exist in
    transcript_exists (NetworkSteps net given.pads) given (steps_on net given.pads exist has) before
    (can_step net given.pads exist has before)

pub returns-clause-once : goal.returns-clause-once
returns-clause-once c net given before v w text other a b =
    transcript_once (NetworkSteps net given.pads)
    (steps_once net given.pads c.circuits_run.ensures.once) given before v w text other a b
