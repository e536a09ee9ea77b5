use Rattle.std.proofs.Common.{ℕ, ◌≡◌, [], ◌∷◌, ◌++◌, ◌∙◌, ap, arith}
use Rattle.std.specs.Prelude.{max}
use Rattle.array_form.specs.Lists.{mark, tap_tile}
use Rattle.slice_form.specs.PathWires.{side_of, open_gap}
use Rattle.slice_form.specs.Whole.{path_of}
use Rattle.slice_layout.specs.Links.{carry_by}
use Rattle.slice_joints.proofs.taps.push_open_end.Goals as goal

pub returns : goal.returns
returns c =
    let old = c.args.marks.now.items in
    let gap : ℕ = c.open_gap-gap.result in
    let e : gap ≡ open_gap (path_of c.args.path.now) (carry_by c.args.link) = c.open_gap-gap.ensures in
    let t = c.tap_tile.ensures ∙ (ap tap_tile c.side_of.ensures ∙ ap (λ z. tap_tile (side_of z)) e) in
    let b : max gap 1 ≡ max 1 gap = omega arith in
    let band = c.max.ensures ∙ (b ∙ ap (max 1) e) in
    c.in_ok-push.ensures.items ∙ (λ j. old ++ mark (t j) (band j) 0 c.args.column ∷ [])
