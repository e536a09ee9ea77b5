use Rattle.std.proofs.Common.{codes, ◌++◌, ◌∙◌, ap}
use Rattle.std.specs.List.{flat_map}
use Rattle.mask_svg.specs.Frames.{unit}
use Rattle.mask_svg.specs.Pictures.{label_text, labels_text}
use Rattle.mask_svg.proofs.Appended.{ended, more}
use Rattle.mask_svg.proofs.writing.push_labels.Goals as goal

pub returns : goal.returns
unfolding labels_text
returns c =
    let old = c.args.text.now.items in
    let labels = c.args.labels.now in
    let head = codes "<g font-size='1'>\n" in
    let names = flat_map (label_text (unit c.args.frame) labels) labels in
    ended c.extend_from_slice-2.result old (head ++ names) (codes "</g>\n")
    (more old head names c.in_ok-extend_from_slice.ensures.items
    (c.in_ok-push_all.ensures
    ∙ ap (λ n. c.extend_from_slice.new.self.items ++ flat_map (label_text n labels) labels) c.unit.ensures))
    c.extend_from_slice-2.ensures.items
