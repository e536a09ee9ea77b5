use Rattle.std.proofs.Common.{◌≡◌, ◌∙◌, List, ap, subst, sym, arith}
use Rattle.std.specs.Prelude.{Any}
use Rattle.settle_order.specs.declared.order.Order.{Order}
use Rattle.settle_order.specs.Order.{IsServing}
use Rattle.settle_order.specs.Orders.{Orderings}
use Rattle.settle_order.proofs.orders.Orders.recall.Goals as goal

pub returns-then-is_serving-clause-served : goal.returns-then-is_serving-clause-served
returns-then-is_serving-clause-served c _ =
    let same : c.self.inside.orders.items ≡ c.args.self.now.orders = ap (λ (x : Orderings). x.orders) c.self.view_is in
    subst (λ (xs : List Order). Any (IsServing c.args.drive.now) xs) same (
      c.self.inside.last,
      c.index.result.now,
      omega arith,
      sym c.index.ensures,
      c.is_serving.ensures
          c.if-is_serving.true,
    )

pub returns-in-Some-clause-served : goal.returns-in-Some-clause-served
returns-in-Some-clause-served c _ =
    let same : c.self.inside.orders.items ≡ c.args.self.now.orders = ap (λ (x : Orderings). x.orders) c.self.view_is in
    subst (λ (xs : List Order). Any (IsServing c.args.drive.now) xs) (c.deref.ensures.value ∙ same) c.in-Some.ensures
