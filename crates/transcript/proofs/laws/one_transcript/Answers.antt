use Rattle.transcript.proofs.Transcripts.{transcript_once}
use Rattle.transcript.proofs.laws.one_transcript.Goals as goal

pub returns : goal.returns
returns g c one given before v w text other a b = transcript_once g.D.Device.steps one given before v w text other a b
