use Rattle.board.proofs.Widths.{ones}
use Rattle.board.proofs.pads.all_bits.Goals as goal

pub returns : goal.returns
returns c = ones c.args.pad.now c.bits_of.result c.bits_of.ensures
