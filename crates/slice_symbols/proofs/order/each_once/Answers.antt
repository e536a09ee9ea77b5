use Rattle.std.proofs.Common.{rules, sym, subst, arith}
use Rattle.std.specs.Cmp.{IsStrictWeakOrder}
use Rattle.std.specs.List.Sorted.{IsPermutation}
use Rattle.std.specs.Ordering.{eq_by_cmp, is_lt}
use Rattle.std.proofs.lemmas.Fn.{dedup_same}
use Rattle.std.proofs.lemmas.List.Sorted.{answers_always, ranks_by}
use Rattle.lam_geom.specs.declared.rect.Rect.{Rect}
use Rattle.slice_symbols.specs.Ordered.{EachOnce, rect_cmp}
use Rattle.slice_symbols.proofs.InOrder.{once_each}
use Rattle.slice_symbols.proofs.Orders.{rect_total, same_rect}
use Rattle.slice_symbols.proofs.order.each_once.Goals as goal

pub returns : goal.returns
returns c =
    let sorted = c.sort_unstable_by.new.self.items in
    let left = c.dedup_by.new.self.items in
    let weak : IsStrictWeakOrder (λ (r q : Rect). is_lt (rect_cmp r q)) = ranks_by rect_total (λ (r : Rect). r) in
    let ascending = c.sort_unstable_by.ensures.sorted (λ (r q : Rect). is_lt (rect_cmp r q)) weak
    (answers_always _ _ _ (λ f a r g h. search rules)) in
    let kept = dedup_same _ (eq_by_cmp rect_cmp) _ (λ x y b f' x' y' k. search rules) sorted left
    c.dedup_by.ensures.filtered in
    let p = subst (λ rs. IsPermutation rs sorted) c.into_vec-rects.ensures c.sort_unstable_by.ensures.permutation in
    subst (EachOnce rect_cmp c.args.rects) (sym c.from_vec.ensures)
    (once_each rect_cmp rect_total same_rect c.args.rects sorted left p ascending kept
    (let few = c.dedup_by.ensures.bound in omega (arith, few)))
