use Rattle.board.proofs.Widths.{masked}
use Rattle.mp_base.specs.PadBits.{bit_count}
use Rattle.board.proofs.pads.within.Goals as goal

pub returns : goal.returns
returns c = masked c.args.value c.all_bits.result (bit_count c.args.pad.now.width) c.all_bits.ensures
