use Rattle.std.proofs.Common.{rules, sym, subst, arith}
use Rattle.std.specs.Cmp.{IsStrictWeakOrder}
use Rattle.std.specs.List.Sorted.{IsPermutation}
use Rattle.std.specs.Ordering.{eq_by_cmp, is_lt}
use Rattle.std.proofs.lemmas.Fn.{dedup_same}
use Rattle.std.proofs.lemmas.List.Sorted.{answers_always, ranks_by}
use Rattle.slice_symbols.specs.declared.standing.Standing.{Standing}
use Rattle.slice_symbols.specs.Ordered.{EachOnce}
use Rattle.slice_symbols.specs.Standing.{standing_cmp}
use Rattle.slice_symbols.proofs.InOrder.{once_each}
use Rattle.slice_symbols.proofs.Orders.{standing_total, same_standing}
use Rattle.slice_symbols.proofs.standing.in_order.Goals as goal

pub returns : goal.returns
returns c =
    let sorted = c.sort_unstable_by.new.self.items in
    let left = c.dedup_by.new.self.items in
    let weak : IsStrictWeakOrder (λ (r q : Standing). is_lt (standing_cmp r q)) =
    ranks_by standing_total (λ (r : Standing). r) in
    let ascending = c.sort_unstable_by.ensures.sorted (λ (r q : Standing). is_lt (standing_cmp r q)) weak
    (answers_always _ _ _ (λ f a r g h. search rules)) in
    let kept = dedup_same _ (eq_by_cmp standing_cmp) _ (λ x y b f' x' y' k. search rules) sorted left
    c.dedup_by.ensures.filtered in
    let p = subst (λ rs. IsPermutation rs sorted) c.into_vec-standing.ensures c.sort_unstable_by.ensures.permutation in
    subst (EachOnce standing_cmp c.args.standing) (sym c.from_vec.ensures)
    (once_each standing_cmp standing_total same_standing c.args.standing sorted left p ascending kept
    (let few = c.dedup_by.ensures.bound in omega (arith, few)))
