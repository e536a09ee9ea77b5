-- The flags of the tiles that the sweep found.
use Rattle.rule_tiles.proofs.cuts.cuts_of.Goals as goal

pub odd_flags-requires : goal.odd_flags-requires
odd_flags-requires c = rw (c.as_slice.ensures, c.as_slice-2.ensures) c.in_ok-swept.ensures.pairs

pub returns-clause-odd : goal.returns-clause-odd
returns-clause-odd c = rw c.as_slice.ensures at c.in_ok-odd.ensures
