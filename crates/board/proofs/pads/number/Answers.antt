use Rattle.board.proofs.Widths.{shown_number}
use Rattle.board.proofs.pads.number.Goals as goal

pub returns : goal.returns
returns c = shown_number c.args.word c.args.pad.now c.all_bits.result c.all_bits.ensures
