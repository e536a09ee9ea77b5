use Rattle.std.proofs.Common.{rules}
use Rattle.std.proofs.lemmas.List.Sorted.{IsNonDecreasingBy-from_sort_by_key}
use Rattle.task_schedule.specs.declared.scheduling.Entry.{Entry}
use Rattle.task_schedule.proofs.scheduling.sorted_entries.Goals as goal

pub returns-clause-rising : goal.returns-clause-rising
returns-clause-rising c =
    IsNonDecreasingBy-from_sort_by_key (λ (e : Entry). e.moment) _ c.sort_unstable_by_key.ensures.sorted
    (λ a r q k. search rules)
