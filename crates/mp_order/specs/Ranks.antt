-- Ranks and weights of definitions that tell of chains.
use Rattle.std.specs.Prelude.{◌≡◌, ◌≢◌, ℕ, ◌+◌, ◌<◌, ◌≤◌, List, length, slice_index}
use Rattle.mp_program.specs.declared.program.Def.{Def}
use Rattle.mp_program.specs.declared.program.Program.{Program}
use Rattle.mp_program.specs.Reads.{Reads}
use Rattle.mp_order.specs.Demands.{IsDriven}

-- ranks don't rise from a definition to one that it reads, and fall where the first is not loose
pub record IsRanking (p : Program) (ranks loose : List ℕ) : Type 0 where
  pub weak : (a b : ℕ) → Reads p a b → slice_index ranks b ≤ slice_index ranks a
  pub strict : (a b : ℕ) → Reads p a b → slice_index loose a ≡ 0 → slice_index ranks b < slice_index ranks a

-- the driven definitions stand in a list, each at its rank, which counts from 1
pub record IsListing (p : Program) (ranks order : List ℕ) : Type 0 where
  pub all : (d : ℕ) (x : Def) → IsDriven p d x
      → (k : ℕ) × (k < length order) × (slice_index order k ≡ d) × (slice_index ranks d ≡ k + 1)
  pub only : (k : ℕ) → k < length order
      → ((x : Def) × IsDriven p (slice_index order k) x) × (slice_index ranks (slice_index order k) ≡ k + 1)

-- the target has the greatest weight and demands some weight, and each other definition of some weight demands a
-- greater one
pub record Climbs (demands weights : List ℕ) (target : ℕ) : Type 0 where
  pub top : 0 < slice_index weights target
  pub begins : 0 < slice_index demands target
  pub below : (d : ℕ) → slice_index weights d ≤ slice_index weights target
  pub rises : (d : ℕ) → 0 < slice_index weights d → d ≢ target → slice_index weights d < slice_index demands d
