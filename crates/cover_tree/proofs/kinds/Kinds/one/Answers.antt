use Rattle.std.proofs.Common.{arith}
use Rattle.std.proofs.lemmas.Nat.{one_shl}
use Rattle.cover_tree.specs.Kinds.{index}
use Rattle.cover_tree.proofs.Sets.{one_kind}
use Rattle.cover_tree.proofs.kinds.Kinds.one.Goals as goal

-- src/kinds.rt
pub returns-clause-only : goal.returns-clause-only
returns-clause-only c = one_kind c.args.set _ (one_shl (index c.args.set) 32 (omega arith))
