use Rattle.std.proofs.Common.{ℕ, suc, ◌≡◌, ◌+◌, [], ◌∷◌, ◌++◌, ◌∙◌, ap, arith}
use Rattle.std.specs.Prelude.{slice_index}
use Rattle.array_form.specs.Lists.{mark, tap_tile}
use Rattle.slice_form.specs.PathWires.{side_of}
use Rattle.slice_layout.proofs.Growth.{two_more}
use Rattle.slice_joints.proofs.taps.push_link.Goals as goal

pub returns : goal.returns
returns c =
    let row : ℕ → ℕ = slice_index c.args.tracks.now.row in
    let old = c.args.marks.now.items in
    let k : ℕ = c.args.k in
    let column : ℕ = c.args.column in
    let next : k + 1 ≡ suc k = omega arith in
    let t = c.tap_tile.ensures ∙ ap tap_tile c.side_of.ensures in
    let s = c.tap_tile-2.ensures ∙ (ap tap_tile c.side_of-2.ensures ∙ ap (λ z. tap_tile (side_of z)) next) in
    let x = c.marked.ensures ∙ (λ j. mark (t j) (suc k) (suc (row (c.below.ensures j))) column) in
    let y = c.marked-2.ensures ∙ (λ j. mark (s j) (suc k) (suc (row (c.above.ensures j))) column) in
    two_more old _ _ c.marked.result c.marked-2.result c.in_ok-push.ensures.items c.in_ok-push-2.ensures.items
    ∙ (λ j. old ++ x j ∷ y j ∷ [])
