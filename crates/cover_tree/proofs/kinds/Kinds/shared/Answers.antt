use Rattle.cover_tree.proofs.Sets.{share_none, share_all, share_nothing}
use Rattle.cover_tree.proofs.kinds.Kinds.shared.Goals as goal

-- src/kinds.rt
pub returns-then-set-eq0-clause-some : goal.returns-then-set-eq0-clause-some
returns-then-set-eq0-clause-some c = share_none c.args.self c.args.plane c.if-set-eq0.true

-- src/kinds.rt
pub returns-then-set-self-clause-some : goal.returns-then-set-self-clause-some
returns-then-set-self-clause-some c = share_all c.args.self c.args.plane c.if-set-self.true

-- src/kinds.rt
pub returns-clause-none : goal.returns-clause-none
returns-clause-none c = share_nothing c.args.self c.args.plane c.if-set-eq0.false c.if-set-self.false
