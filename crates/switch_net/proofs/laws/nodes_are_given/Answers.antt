use Rattle.std.proofs.Common.{inl, inr}
use Rattle.mp_base.proofs.Values.{same_trit_or_not}
use Rattle.switch_net.proofs.Rounds.{gives_kept, gives_once}
use Rattle.switch_net.proofs.Marks.{gives_by_reach}
use Rattle.switch_net.proofs.laws.nodes_are_given.Goals as goal

pub returns-clause-grow : goal.returns-clause-grow
returns-clause-grow c = gives_kept

pub returns-clause-once : goal.returns-clause-once
returns-clause-once c s v n b d g h =
    elim (same_trit_or_not b d) [ inl e ↦ e | inr ne ↦ absurd (gives_once s v n b d ne g h) ]

pub returns-clause-reach : goal.returns-clause-reach
returns-clause-reach c = gives_by_reach
