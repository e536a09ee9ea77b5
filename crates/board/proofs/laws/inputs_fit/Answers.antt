use Rattle.board.proofs.Ready.{inputs_fit}
use Rattle.board.proofs.laws.inputs_fit.Goals as goal

pub returns : goal.returns
returns c w clock faces = inputs_fit w.links faces clock 0 (w.pads).inputs
