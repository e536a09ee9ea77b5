use Rattle.std.proofs.Common.{rules, subst, ◌∙◌, IsPermutation}
use Rattle.std.proofs.lemmas.List.Sorted.{IsNonDecreasingBy-from_sort_by_key}
use Rattle.pad_order.specs.declared.order.Entry.{Entry}
use Rattle.pad_order.proofs.order.rising.Goals as goal

pub returns-clause-permuted : goal.returns-clause-permuted
returns-clause-permuted c =
    subst (λ es. IsPermutation es c.sort_unstable_by_key.new.self.items)
    (c.into_vec-sorted.ensures ∙ c.in_ok-entries.ensures) c.sort_unstable_by_key.ensures.permutation

pub returns-clause-ascending : goal.returns-clause-ascending
returns-clause-ascending c =
    IsNonDecreasingBy-from_sort_by_key (λ (e : Entry). e.height) _ c.sort_unstable_by_key.ensures.sorted
    (λ a r q k. search rules)
