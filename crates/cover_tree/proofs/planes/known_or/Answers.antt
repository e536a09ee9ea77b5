use Rattle.std.proofs.lemmas.Nat.Bits.{bit_at_ones}
use Rattle.cover_tree.proofs.planes.known_or.Goals as goal

-- src/planes.rt
pub returns-then-known : goal.returns-then-known
returns-then-known c = λ i l. rw c.if-known.true (bit_at_ones 32 i l)
