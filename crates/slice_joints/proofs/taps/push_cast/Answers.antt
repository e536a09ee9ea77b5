use Rattle.std.proofs.Common.{ℕ, ◌≡◌, suc, ◌++◌, ◌∙◌, ap, map, arith}
use Rattle.std.specs.Prelude.{slice_index}
use Rattle.std.specs.List.{range_with_len}
use Rattle.tile_cells.specs.declared.tile.Tile.TheVariants.{TapL}
use Rattle.array_form.specs.Lists.{mark}
use Rattle.slice_form.specs.Whole.{path_of, cast_of}
use Rattle.slice_layout.proofs.Growth.{each_grown}
use Rattle.slice_joints.proofs.Joined.{cast_tapped}
use Rattle.slice_joints.proofs.taps.push_cast.Goals as goal

pub loop-k-preserved : goal.loop-k-preserved
loop-k-preserved c =
    let row : ℕ → ℕ = slice_index c.args.tracks.now.row in
    each_grown c.args.marks.now.items
    (λ b. mark TapL b (suc (row c.cast_at-net.result.slice.0)) c.cast_column-column.result)
    c.loop-k.k _ _ c.marked.result c.loop-k.invariant c.in_ok-push.ensures.items c.marked.ensures

pub returns : goal.returns
returns c =
    let p = path_of c.args.path.now in
    let row : ℕ → ℕ = slice_index c.args.tracks.now.row in
    let end : c.loop-k.k ≡ p.width = omega arith in
    cast_tapped p c.args.i (cast_of c.cast_at-net.result) c.cast_at-net.ensures.is row c.cast_column-column.result
    c.cast_column-column.ensures c.args.marks.now.items _
    (c.loop-k.invariant ∙ ap (λ n. c.args.marks.now.items ++ map
    (λ b. mark TapL b (suc (row c.cast_at-net.result.slice.0)) c.cast_column-column.result) (range_with_len 1 n)) end)
