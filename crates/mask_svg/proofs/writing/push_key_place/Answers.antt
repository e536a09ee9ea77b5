use Rattle.mask_svg.specs.Pictures.{key_corner_text, key_place_text, key_size_text}
use Rattle.mask_svg.proofs.Appended.{called}
use Rattle.mask_svg.proofs.writing.push_key_place.Goals as goal

pub returns : goal.returns
unfolding key_place_text
returns c =
    let frame = c.args.frame in
    called c.push_key_size.result c.args.text.now.items (key_corner_text frame) (key_size_text frame)
    c.push_key_size.new.text.items c.in_ok-push_key_corner.ensures c.push_key_size.ensures
