use Rattle.std.proofs.Common.{rules, subst, IsPermutation}
use Rattle.std.proofs.lemmas.List.Sorted.{IsNonDecreasingBy-from_sort_by_key}
use Rattle.track_assign.proofs.Whole.{longs}
use Rattle.track_assign.proofs.packing.sorted_entries.Goals as goal

pub returns-clause-ascending : goal.returns-clause-ascending
returns-clause-ascending c =
    IsNonDecreasingBy-from_sort_by_key (λ e. e.first) _ c.sort_unstable_by_key.ensures.sorted (λ a r q k. search rules)

pub returns-clause-long : goal.returns-clause-long
returns-clause-long c =
    let sorted = c.sort_unstable_by_key.new.self.items in
    longs c.args.intervals.now sorted
    (subst (λ es. IsPermutation es sorted) c.in_ok-entries.ensures c.sort_unstable_by_key.ensures.permutation)
