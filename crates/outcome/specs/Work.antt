-- A piece of work on some files, and what it leaves of its output.
use Rattle.std.specs.Prelude.{◌≡◌, ℕ, ◌<◌, List, length, take, Option, Some, None}
use Rattle.outside.specs.Outside.{Files}
use Rattle.outside.specs.Transfer.{Holds, HoldsPart}
use Rattle.mp_base.specs.declared.refusal.Broken.{Broken}
use Rattle.outcome.specs.Order.{Fault, Breaks}

-- What a piece of work owes: its first fault on some files in the order of work, or that there is none; the file that
-- it writes; and the bytes of that file and the text that it may show of some files.
pub record Work : Type 1 where
  pub First : Files → Option Fault → Type 0
  pub target : Option (List ℕ)
  pub Shows : Files → List ℕ → List ℕ → Type 0

-- a first part, but not all
abbrev pub IsPartOf : List ℕ → List ℕ → Type 0
IsPartOf part whole = (count : ℕ) × (count < length whole) × (part ≡ take count whole)

-- the target has these bytes, and no other file changes
abbrev pub Stores : Option (List ℕ) → List ℕ → Files → Files → Type 0
Stores None bytes old new = new ≡ old
Stores (Some name) bytes old new = Holds name bytes old new

-- nothing changes, or the target has a first part of these bytes, and no other file changes
abbrev pub StoresPart : Option (List ℕ) → List ℕ → Files → Files → Type 0
StoresPart None bytes old new = ⊥
StoresPart (Some name) bytes old new = HoldsPart name bytes old new

-- no rule is broken, and the whole output was given
pub record IsDone (work : Work) (old new : Files) (printed : List ℕ) : Type 0 where
  pub fault : work.First old None
  pub chip : List ℕ
  pub shows : work.Shows old chip printed
  pub stored : Stores work.target chip old new

-- a rule is the first that is broken, and this is true of its line; no file changes
pub record IsRefused (work : Work) (Line : Broken → Type 0) (old new : Files) : Type 0 where
  pub broken : Broken
  pub fault : work.First old (Some (Breaks broken))
  pub kept : new ≡ old
  pub line : Line broken
