use Rattle.transcript.proofs.Unique.{one_transcript}
use Rattle.transcript.proofs.transcripts_are_unique.Goals as goal

pub returns : goal.returns
returns c = one_transcript
