use Rattle.board.proofs.Calls.{calls_loop}
use Rattle.board.proofs.laws.calls_loop.Goals as goal

pub returns : goal.returns
returns g c = calls_loop g.D.Device.steps
