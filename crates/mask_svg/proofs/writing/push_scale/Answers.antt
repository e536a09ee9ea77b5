use Rattle.std.proofs.Common.{codes, pos, ◌*◌, ◌++◌, ◌∙◌, ap}
use Rattle.mask_svg.specs.Frames.{unit_count}
use Rattle.mask_svg.specs.Pictures.{grain_name, scale_text, tagged}
use Rattle.mask_svg.proofs.Appended.{ended, more}
use Rattle.mask_svg.proofs.writing.push_scale.Goals as goal

pub returns : goal.returns
unfolding scale_text
returns c =
    let old = c.args.text.now.items in
    let frame = c.args.frame in
    let length = tagged (codes "<text x='11' y='7.5'>") (pos (10 * unit_count frame)) in
    ended c.extend_from_slice-2.result old (length ++ grain_name frame) (codes "</text>\n</g>\n")
    (more old length (grain_name frame)
    (c.in_ok-push_count.ensures ∙ ap (λ n. old ++ tagged (codes "<text x='11' y='7.5'>") (pos (10 * n)))
    c.unit_count.ensures.value)
    (c.in_ok-extend_from_slice.ensures.items ∙ ap (λ t. c.push_count.new.text.items ++ t) c.grain_name.ensures))
    c.extend_from_slice-2.ensures.items
