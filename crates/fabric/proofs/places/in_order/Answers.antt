use Rattle.std.proofs.Common.{rules}
use Rattle.std.proofs.lemmas.List.Sorted.{IsNonDecreasingBy-from_sort_by_key}
use Rattle.fabric.specs.declared.places.Entry.{Entry}
use Rattle.fabric.proofs.places.in_order.Goals as goal

pub returns-clause-sorted : goal.returns-clause-sorted
returns-clause-sorted c =
    IsNonDecreasingBy-from_sort_by_key (λ (e : Entry). e.key) _ c.in_ok-sort_by_key.ensures.sorted
    (λ a r called k. search rules)
