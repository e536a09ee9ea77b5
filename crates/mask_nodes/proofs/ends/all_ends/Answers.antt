use Rattle.std.proofs.Common.{rules, subst, sym, length}
use Rattle.std.proofs.lemmas.List.Sorted.{IsNonDecreasingBy-from_sort_by_key}
use Rattle.union_find.specs.declared.pair.Pair.{Pair}
use Rattle.piece_classes.specs.Linking.{Gains}
use Rattle.mask_nodes.specs.Ends.{IsGivenBy, IsEndOf}
use Rattle.mask_nodes.proofs.Ending.{ends_sorted}
use Rattle.mask_nodes.proofs.ends.all_ends.Goals as goal

pub returns-clause-sorted : goal.returns-clause-sorted
returns-clause-sorted c =
    IsNonDecreasingBy-from_sort_by_key (λ (x : Pair). x.a) _ c.in_ok-sort_by_key.ensures.sorted
    (λ a r q k. search rules)

pub returns-clause-each : goal.returns-clause-each
returns-clause-each c =
    let P : Pair
    → Type 0 = IsGivenBy
    (IsEndOf c.args.numbers.now c.args.pieces.now c.args.channels.now c.args.nodes.now) c.args.touching.now
    (length c.args.touching.now) in
    ends_sorted P c.into_vec-ends.result.items c.sort_by_key.new.self.items
    (subst (λ xs. Gains xs c.into_vec-ends.result.items P) c.new-ends.ensures
    (subst (λ xs. Gains c.new-ends.result xs P) (sym c.into_vec-ends.ensures) c.in_ok-list_ends.ensures))
    c.in_ok-sort_by_key.ensures.permutation
