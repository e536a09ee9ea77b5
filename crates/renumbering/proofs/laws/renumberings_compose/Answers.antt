use Rattle.std.proofs.Common.{refl}
use Rattle.renumbering.proofs.Composing.{flip, then, same_turns, same_composes}
use Rattle.renumbering.proofs.laws.renumberings_compose.Goals as goal

pub returns-clause-turn : goal.returns-clause-turn
returns-clause-turn c n m r = (flip n m r, refl, refl, refl, refl)

pub returns-clause-then : goal.returns-clause-then
returns-clause-then c n m k r s = (then n m k r s, (λ x. refl), (λ x. refl))

pub returns-clause-same_turns : goal.returns-clause-same_turns
returns-clause-same_turns c = same_turns

pub returns-clause-same_composes : goal.returns-clause-same_composes
returns-clause-same_composes c = same_composes
