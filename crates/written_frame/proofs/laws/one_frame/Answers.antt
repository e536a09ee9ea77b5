use Rattle.written_frame.proofs.Frames.{frame, frame_is, one_frame}
use Rattle.written_frame.proofs.laws.one_frame.Goals as goal

pub returns : goal.returns
returns c = λ w. (frame w, frame_is w, one_frame w)
