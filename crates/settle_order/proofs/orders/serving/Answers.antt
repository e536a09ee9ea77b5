use Rattle.std.proofs.Common.{sym, arith}
use Rattle.settle_order.proofs.orders.serving.Goals as goal

pub returns-then-is_serving : goal.returns-then-is_serving
returns-then-is_serving c = (
  c.loop-index.index,
  c.index-orders-index.result,
  omega arith,
  sym c.index-orders-index.is,
  c.is_serving.ensures
      c.if-is_serving.true,
)
