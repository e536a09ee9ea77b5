-- In which bodies expressions stand, as they are gone over.
use Rattle.std.specs.Prelude.{◌≡◌, ℕ, ◌<◌, List, Option, Some, length, slice_get, Contains}
use Rattle.mp_base.specs.Entries.{IsAt}
use Rattle.mp_written.specs.declared.program.Expr.{Expr}
use Rattle.mp_written.specs.declared.program.Program.{Program}
use Rattle.mp_written.specs.Tree.{operands}
use Rattle.written_meanings.specs.Meanings.{IsOwner}

-- what expression e stands in directly stands before the index n
abbrev pub StandsInFirst : Program → ℕ → ℕ → Type 0
StandsInFirst w n e = (b : ℕ) (y : Expr) → IsAt w.exprs b y → Contains (operands y.kind) e → b < n

-- owners are those of the expressions that stand in one before the index n, if they stand in one
pub record AreOwners (w : Program) (n : ℕ) (owners : List (Option ℕ)) : Type 0 where
  pub size : length owners ≡ length w.exprs
  pub each : (e : ℕ) (o : Option ℕ) → IsAt owners e o → StandsInFirst w n e → IsOwner w e o

-- these expressions get an owner, and all others keep theirs
pub record IsPassedOn (owner : Option ℕ) (exprs : List ℕ) (old new : List (Option ℕ)) : Type 0 where
  pub size : length new ≡ length old
  pub passed : (e : ℕ) → Contains exprs e → slice_get new e ≡ Some owner
  pub kept : (e : ℕ) → ¬ Contains exprs e → slice_get new e ≡ slice_get old e
