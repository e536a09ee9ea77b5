use Rattle.std.proofs.lemmas.Bool.{iff_false}
use Rattle.switch_net.specs.Values.{value_at}
use Rattle.node_clusters.specs.Board.{setting_of}
use Rattle.node_clusters.proofs.Giving.{given_opposed, given_held, given_kept, given_mixed}
use Rattle.node_clusters.proofs.give.tell_given.Goals as goal

pub returns-then-meets-clause-given : goal.returns-then-meets-clause-given
returns-then-meets-clause-given c =
    given_opposed (setting_of c.args.board.now)
    (value_at c.args.values.now) c.args.value c.args.cluster.now.members c.requires.cluster
    c.nodes_are_given.ensures.reach
    c.spread.new.set.members c.spread-then-meets.new.set.members
    (c.meets.ensures.0 c.if-meets.true) c.spread.ensures.reached c.spread-then-meets.ensures.reached

pub returns-then-meets-2-clause-given : goal.returns-then-meets-2-clause-given
returns-then-meets-2-clause-given c =
    given_held (setting_of c.args.board.now)
    (value_at c.args.values.now) c.args.value c.args.cluster.now.members c.requires.cluster
    c.nodes_are_given.ensures.reach
    c.spread-then-meets-2.new.set.members c.clear.new.self.members (iff_false c.meets.ensures c.if-meets.false)
    (c.meets-else-meets.ensures.0 c.if-meets-2.true) c.spread-then-meets-2.ensures.reached c.clear.ensures.none

pub returns-then-all_had-clause-given : goal.returns-then-all_had-clause-given
returns-then-all_had-clause-given c =
    given_kept (setting_of c.args.board.now)
    (value_at c.args.values.now) c.args.value c.args.cluster.now.members c.requires.cluster
    c.nodes_are_given.ensures.reach
    c.copy.new.to.members c.clear-else-meets-2.new.self.members
    (iff_false c.meets-else-meets.ensures c.if-meets-2.false)
    (c.all_had.ensures.0 c.if-all_had.true) c.copy.ensures.members c.clear-else-meets-2.ensures.none

pub returns-else-all_had-clause-given : goal.returns-else-all_had-clause-given
returns-else-all_had-clause-given c =
    given_mixed (setting_of c.args.board.now)
    (value_at c.args.values.now) c.args.value c.args.cluster.now.members c.requires.cluster
    c.nodes_are_given.ensures.reach
    c.clear-else-all_had.new.self.members c.clear-else-meets-2.new.self.members
    (iff_false c.meets-else-meets.ensures c.if-meets-2.false)
    (iff_false c.all_had.ensures c.if-all_had.false) c.clear-else-all_had.ensures.none
