use Rattle.transcript.proofs.Transcripts.{transcript_exists}
use Rattle.transcript.proofs.laws.transcripts_exist.Goals as goal

pub returns : goal.returns
returns g c given on before can = transcript_exists g.D.Device.steps given on before can
