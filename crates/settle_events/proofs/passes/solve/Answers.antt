use Rattle.std.proofs.Common.{inl, inr, None, arith}
use Rattle.std.proofs.lemmas.Bool.{cases_lt}
use Rattle.std.proofs.lemmas.List.{get_or_past}
use Rattle.mp_base.specs.declared.value.Trit.TheVariants.{X}
use Rattle.switch_net.specs.Values.{value_at}
use Rattle.node_clusters.specs.Board.{setting_of}
use Rattle.node_clusters.proofs.Unknown.{past_nodes}
use Rattle.settle_events.proofs.Climbing.{climbs_start, settled_from}
use Rattle.settle_events.proofs.passes.solve.Goals as goal

pub loop-changed-init : goal.loop-changed-init
loop-changed-init c =
    (c.requires.sets, climbs_start (setting_of c.args.board.now) (value_at c.start.new.values) c.start.ensures)

pub returns-then-not-changed-clause-settled : goal.returns-then-not-changed-clause-settled
returns-then-not-changed-clause-settled c =
    let b = c.args.board.now in
    let s = setting_of b in
    let v = value_at c.pass-changed.new.values in
    let net = b.network.now in
    let drive_sized = c.requires.moment.drive_sized in
    let before_sized = c.requires.moment.before_sized in
    settled_from s c.nodes_are_given.ensures.once v c.pass-changed.ensures.climbs
    (λ n. elim (cases_lt n net.nodes) [
      | inl lt ↦ c.pass-changed.ensures.stuck c.if-not-changed.true n lt
      | inr far ↦ λ _ _. past_nodes s v net.nodes n c.nodes_are_given.ensures.reach net.ends_in far
          (get_or_past b.drive.now n None (omega arith)) (get_or_past b.before.now n X (omega arith))
    ])
