-- The pairs so far fit.
use Rattle.std.proofs.Common.{take}
use Rattle.std.specs.Prelude.{All}
use Rattle.rule_rows.specs.Closed.{PairFits}
use Rattle.rule_rows.proofs.legs.have_long_legs.Given as goal

abbrev pub invariant-loop-pair : goal.invariant-loop-pair
invariant-loop-pair l = All (PairFits l.tiles) (take l.pair-index l.pairs)
