-- Swaps that a run can make.
use Rattle.std.specs.Prelude.{◌<◌, ◌≤◌, ℕ, List, All, AllPairs, length}
use Rattle.board.specs.declared.link.Link.{Link}
use Rattle.board.specs.Loop.{Exchange}

-- the swaps are in the order of their clocks, and each is of one of these clocks and of a link
pub record AreTimely (links : List Link) (clocks : ℕ) (swaps : List Exchange) : Type 0 where
  pub in_order : AllPairs (λ (s t : Exchange). s.clock ≤ t.clock) swaps
  pub within : All (λ (s : Exchange). s.clock < clocks) swaps
  pub linked : All (λ (s : Exchange). s.link < length links) swaps
