use Rattle.rtl_check.proofs.OneCell.{reset_kind}
use Rattle.rtl_check.proofs.reset.is_reset_kind.Goals as goal

pub returns-in-Some : goal.returns-in-Some
returns-in-Some c =
    reset_kind c.args.pads.now c.args.kind c.in-Input.number c.in-Some.pad.now c.is_reset_pad.result c.in-Input.is
    c.in-Some.ensures c.is_reset_pad.ensures
