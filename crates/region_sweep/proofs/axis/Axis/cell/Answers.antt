-- The search by halving counts the marks.
use Rattle.std.proofs.Common.{rules, ◌≡◌, sym, subst}
use Rattle.std.specs.Prelude.{int_le}
use Rattle.std.specs.Int.{w64}
use Rattle.std.specs.List.{slice_range}
use Rattle.std.proofs.lemmas.Int.{to_z-of_z}
use Rattle.std.proofs.lemmas.List.Sorted.{IsPartitionPoint-from_clause}
use Rattle.region_sweep.specs.Grid.{Ascending, Surrounds}
use Rattle.region_sweep.proofs.Axes.{cell_from_part, part_rises, parted}
use Rattle.region_sweep.proofs.axis.Axis.cell.Goals as goal

pub returns : goal.returns
returns c =
    let axis = c.args.self.now in
    let place = c.args.place in
    let from = c.stretch-from.result.0 in
    let to = c.stretch-from.result.1 in
    let around : Surrounds axis.marks.items place from to =
    subst (λ z. Surrounds axis.marks.items z from to) (to_z-of_z w64 place c.ranges.place)
    c.stretch-from.ensures in
    let same : c.as_slice.result.now ≡ axis.marks.items = c.as_slice.ensures.value in
    let up : Ascending (slice_range axis.marks.items from to) =
    part_rises axis.marks.items from to axis.ascending around.ordered around.within in
    let upper : Ascending (slice_range c.as_slice.result.now from to) = rw same up in
    let point =
    IsPartitionPoint-from_clause (λ m. int_le m place) _ _ c.partition_point-inside.ensures.partitioned
    (parted _ place upper) (λ a r q k. search rules) in
    cell_from_part axis.marks.items place from to _ axis.ascending around
    (rw (sym same) c.partition_point-inside.ensures.bound) (rw (sym same) point)
