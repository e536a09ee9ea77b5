use Rattle.std.proofs.Common.{◌≡◌, ◌++◌}
use Rattle.std.specs.Prelude.{map, slice_index, suc}
use Rattle.tile_cells.specs.declared.tile.Tile.TheVariants.{TapL}
use Rattle.array_form.specs.Lists.{mark}
use Rattle.std.specs.List.{range_with_len}
use Rattle.slice_joints.proofs.taps.push_cast.Given as goal

abbrev pub invariant-loop-k : goal.invariant-loop-k
invariant-loop-k l = l.marks.items
    ≡ l.fn.marks.items ++ map (λ b. mark TapL b (suc (slice_index l.tracks.row l.net)) l.column) (range_with_len 1 l.k)
