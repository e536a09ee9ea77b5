use Rattle.std.proofs.Common.{codes}
use Rattle.mask_svg.specs.Pictures.{name_text, named_text}
use Rattle.mask_svg.proofs.Appended.{called}
use Rattle.mask_svg.proofs.writing.push_named.Goals as goal

pub returns : goal.returns
unfolding named_text
returns c =
    called c.push_name_of.result c.args.text.now.items (codes ")'><circle r='.2'/><text x='.3'>")
    (name_text c.args.label.now) c.push_name_of.new.text.items c.in_ok-extend_from_slice.ensures.items
    c.push_name_of.ensures
