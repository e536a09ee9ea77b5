use Rattle.std.proofs.Common.{◌≡◌, ◌∙◌, List, ap, subst, sym}
use Rattle.std.specs.Prelude.{All}
use Rattle.settle_order.specs.declared.order.Order.{Order}
use Rattle.settle_order.specs.Orders.{Orderings, IsSound}
use Rattle.settle_order.proofs.Keeping.{order_from}
use Rattle.settle_order.proofs.orders.Orders.find.Goals as goal

pub returns-then-recall-clause-order : goal.returns-then-recall-clause-order
returns-then-recall-clause-order c _ =
    order_from c.args.network.now.channels c.args.self.now c.args.drive.now c.requires.sound
    (c.recall.ensures.served c.if-recall.true)

pub returns-then-self-gt0-clause-sound : goal.returns-then-self-gt0-clause-sound
returns-then-self-gt0-clause-sound c =
    let channels = c.args.network.now.channels in
    let same : c.self.inside.orders.items ≡ c.args.self.now.orders =
    ap (λ (x : Orderings). x.orders) (c.self.view_is ∙ c.recall.ensures.same) in
    subst (λ (xs : List Order). All (IsSound channels) xs) (sym same) c.requires.sound

pub returns-clause-order : goal.returns-clause-order
returns-clause-order c found =
    order_from c.args.network.now.channels c.make-found.new.self c.args.drive.now c.make-found.ensures.sound
    (c.make-found.ensures.served found)
