-- Sorted and without doubles, coordinates are marks.
use Rattle.std.proofs.Common.{arith}
use Rattle.std.proofs.lemmas.List.Filters.{dedup_is}
use Rattle.region_sweep.proofs.Axes.{sorted_rises, same_marks}
use Rattle.region_sweep.proofs.axis.Axis.new.Goals as goal

pub invariant_of-result : goal.invariant_of-result
invariant_of-result c = record {
  ascending = sorted_rises _ _ c.sort_unstable.ensures.sorted (dedup_is _ _ _ c.dedup.ensures.filtered);
  few = omega arith;
}

pub returns : goal.returns
returns c = λ z. same_marks _ _ _ z c.sort_unstable.ensures.permutation (dedup_is _ _ _ c.dedup.ensures.filtered)
