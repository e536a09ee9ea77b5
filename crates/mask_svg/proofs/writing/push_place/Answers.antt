use Rattle.std.proofs.Common.{codes, neg_ℤ, ◌++◌, ◌∙◌, ap, SFits, rules, to_z-of_z, w64}
use Rattle.mask_svg.specs.Pictures.{place_text, tagged}
use Rattle.mask_svg.proofs.Appended.{ended, more}
use Rattle.mask_svg.proofs.writing.push_place.Goals as goal

pub returns : goal.returns
unfolding place_text
returns c =
    let old = c.args.text.now.items in
    let label = c.args.label.now in
    let before = codes "<g transform='translate(" in
    let wide : SFits w64 label.x = search rules in
    let high : SFits w64 label.y = search rules in
    ended c.extend_from_slice.result old (tagged before label.x ++ tagged (codes " ") (neg_ℤ label.y)) (codes ")")
    (more old (tagged before label.x) (tagged (codes " ") (neg_ℤ label.y))
    (c.in_ok-push_tagged.ensures ∙ ap (λ z. old ++ tagged before z) (to_z-of_z wide))
    (c.in_ok-push_negated.ensures
    ∙ ap (λ z. c.push_tagged.new.text.items ++ tagged (codes " ") (neg_ℤ z)) (to_z-of_z high)))
    c.extend_from_slice.ensures.items
