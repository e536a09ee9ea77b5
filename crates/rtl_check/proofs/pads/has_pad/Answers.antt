use Rattle.rtl_check.proofs.OneCell.{pad_of}
use Rattle.rtl_check.proofs.pads.has_pad.Goals as goal

pub returns-in-Some : goal.returns-in-Some
returns-in-Some c =
    pad_of c.args.pads.now c.args.index c.args.word c.in-Some.pad.now c.is_for.result c.in-Some.ensures c.is_for.ensures
