use Rattle.std.proofs.Common.{codes, neg_ℤ, ◌++◌, ◌∙◌, ap, SFits, rules, to_z-of_z, w64}
use Rattle.mask_svg.specs.Pictures.{corner_move, tagged, top_move}
use Rattle.mask_svg.proofs.Appended.{called}
use Rattle.mask_svg.proofs.writing.push_corner_move.Goals as goal

pub returns : goal.returns
unfolding corner_move
returns c =
    let old = c.args.text.now.items in
    let frame = c.args.frame in
    let letters = codes ") translate(" in
    let fits : SFits w64 frame.left = search rules in
    called c.push_top_move.result old (tagged letters (neg_ℤ frame.left)) (top_move frame)
    c.push_top_move.new.text.items
    (c.in_ok-push_negated.ensures ∙ ap (λ z. old ++ tagged letters (neg_ℤ z)) (to_z-of_z fits))
    c.push_top_move.ensures
