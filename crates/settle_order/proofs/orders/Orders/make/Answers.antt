use Rattle.std.proofs.Common.{◌≡◌, List, ap, subst, sym, arith}
use Rattle.std.specs.Prelude.{All}
use Rattle.settle_order.specs.declared.order.Order.{Order}
use Rattle.settle_order.specs.declared.order.Demand.{Demand}
use Rattle.settle_order.specs.Order.{Serves}
use Rattle.settle_order.specs.Orders.{Orderings, IsSound}
use Rattle.std.proofs.Common.{ℕ}
use Rattle.std.proofs.lemmas.List.{length-set}
use Rattle.std.proofs.lemmas.List.Elements.{All-set}
use Rattle.settle_order.proofs.orders.Orders.make.Goals as goal

pub returns-then-index-len-clause-sound : goal.returns-then-index-len-clause-sound
returns-then-index-len-clause-sound c =
    let channels = c.args.network.now.channels in
    let same : c.self.inside.orders.items ≡ c.args.self.now.orders = ap (λ (x : Orderings). x.orders) c.self.view_is in
    subst (λ (xs : List Order). All (IsSound channels) xs) (sym same) c.requires.sound

pub returns-clause-sound : goal.returns-clause-sound
returns-clause-sound c =
    let channels = c.args.network.now.channels in
    let same : c.self.inside.orders.items ≡ c.args.self.now.orders = ap (λ (x : Orderings). x.orders) c.self.view_is in
    All-set (IsSound channels) c.self.inside.orders.items c.self.inside.next _
    (λ made. subst (λ (ds : List Demand). Serves channels ds c.make.new.order.ranks.items) c.deref.ensures.value
    (subst (λ (rs : List ℕ). Serves channels c.deref.result.now rs) c.deref-2.ensures.value
    (c.is_order-order.ensures made)))
    (subst (λ (xs : List Order). All (IsSound channels) xs) (sym same) c.requires.sound)

pub returns-clause-served : goal.returns-clause-served
returns-clause-served c serving = (
  c.self.inside.next,
  c.index.result.now,
  (let sized = length-set c.self.inside.orders.items c.self.inside.next in omega arith),
  sym c.index.ensures,
  c.is_serving.ensures serving,
)
