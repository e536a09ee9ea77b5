use Rattle.std.proofs.Common.{ℕ, List, inl, inr, subst}
use Rattle.std.specs.Prelude.{Contains, ◌≢◌}
use Rattle.mp_base.specs.declared.value.Trit.{Trit}
use Rattle.mp_base.specs.declared.value.Trit.TheVariants.{X}
use Rattle.switch_net.specs.Values.{value_at}
use Rattle.node_clusters.specs.Board.{setting_of}
use Rattle.settle_events.proofs.Climbing.{stuck_from}
use Rattle.settle_events.proofs.evaluate.evaluate.Goals as goal

pub returns-else-low-clause-stuck : goal.returns-else-low-clause-stuck
returns-else-low-clause-stuck c still =
    let v = value_at c.args.values.now in
    let ones = c.fill.new.self.ones.members in
    stuck_from (setting_of c.args.board.now) v v v c.fill.new.self.cluster.members c.fill.new.self.zeros.members ones
    c.fill.ensures.cluster.cluster.undriven c.fill.ensures.cluster.zeros c.fill.ensures.cluster.ones
    (c.write-low.ensures.none c.if-low.false)
    (subst (λ (vs : List Trit). (n : ℕ) → Contains ones n → value_at vs n ≢ X)
    (c.write-low.ensures.same c.if-low.false) (c.write-high.ensures.none still))
    c.args.node c.fill.ensures.cluster.own

pub returns-else-low-clause-marked : goal.returns-else-low-clause-marked
returns-else-low-clause-marked c still n q =
    let v = value_at c.args.values.now in
    let zeros = c.fill.new.self.zeros.members in
    let ones = c.fill.new.self.ones.members in
    elim (c.mark.ensures n q) [
      | inl r ↦ inl r
      | inr r ↦ inr
          (stuck_from (setting_of c.args.board.now) v v v c.fill.new.self.cluster.members zeros ones
          c.fill.ensures.cluster.cluster.undriven c.fill.ensures.cluster.zeros c.fill.ensures.cluster.ones
          (c.write-low.ensures.none c.if-low.false)
          (subst (λ (vs : List Trit). (n : ℕ) → Contains ones n → value_at vs n ≢ X)
          (c.write-low.ensures.same c.if-low.false) (c.write-high.ensures.none still))
          n r)
    ]
