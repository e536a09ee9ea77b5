use Rattle.mp_base.proofs.SamePads.{same_pads}
use Rattle.datapath_finish.proofs.finishing.pads_of.Goals as goal

pub returns : goal.returns
returns c = same_pads c.in_ok-pads.pads c.args.rtl.now.pads c.in_ok-pads.ensures.0 c.in_ok-pads.ensures.1
