use Rattle.std.proofs.Common.{ℕ, suc, ◌≡◌, ◌+◌, [], ◌∷◌, ◌++◌, ◌∙◌, ap, length, arith}
use Rattle.std.specs.Prelude.{slice_index}
use Rattle.tile_cells.specs.declared.tile.Tile.TheVariants.{TapL}
use Rattle.array_form.specs.Lists.{mark}
use Rattle.slice_layout.proofs.Growth.{three_more}
use Rattle.slice_joints.proofs.taps.push_slice_trunks.Goals as goal

pub returns : goal.returns
returns c =
    let row : ℕ → ℕ = slice_index c.args.tracks.now.row in
    let k : ℕ = c.args.k in
    let nets : ℕ = c.len-nets.result in
    let n = c.len-nets.ensures.len in
    let a : nets ≡ length c.args.path.now.slices.net + 0 = omega arith in
    let b : nets + 1 ≡ length c.args.path.now.slices.net + 1 = omega arith in
    let d : nets + 2 ≡ length c.args.path.now.slices.net + 2 = omega arith in
    let x = c.marked.ensures ∙ ap (λ z. mark TapL (suc k) (suc (row z)) 1) a in
    let y = c.marked-2.ensures ∙ ap (λ z. mark TapL (suc k) (suc (row z)) 2) b in
    let z = c.marked-3.ensures ∙ ap (λ z. mark TapL (suc k) (suc (row z)) 3) d in
    three_more c.args.marks.now.items _ _ _ c.marked.result c.marked-2.result c.marked-3.result
    c.in_ok-push.ensures.items c.in_ok-push-2.ensures.items c.in_ok-push-3.ensures.items
    ∙ (λ j. c.args.marks.now.items ++ x j ∷ y j ∷ z j ∷ [])
