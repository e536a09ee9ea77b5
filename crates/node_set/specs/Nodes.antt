-- Sets of nodes below a number.
use Rattle.std.specs.Prelude.{◌≡◌, ◌<◌, ◌≤◌, ◌^◌, ℕ, List, length, slice_index}

-- the nodes that were added, and the number that all nodes are below
pub record Nodes : Type 0 where
  pub room : ℕ
  pub members : List ℕ

-- `order` holds each node once, and `place` says where
pub record IsPlaced (count : ℕ) (order place : List ℕ) : Type 0 where
  pub counted : count ≤ length order
  pub sized : length place ≡ length order
  pub narrow : length order < 2 ^ 32
  pub nodes : (k : ℕ) → k < length order → slice_index order k < length order
  pub places : (n : ℕ) → n < length order → slice_index place n < length order
  pub at_place : (n : ℕ) → n < length order → slice_index order (slice_index place n) ≡ n
  pub place_at : (k : ℕ) → k < length order → slice_index place (slice_index order k) ≡ k
