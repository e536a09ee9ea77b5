-- The first fault of some files, where stages of work come one after another.
use Rattle.std.specs.Prelude.{◌≡◌, ◌⊎◌, ℕ, ◌≤◌, ◌<◌, List, [], length, Option, Some, None, unwrap_or}
use Rattle.outside.specs.Outside.{Files}
use Rattle.mp_base.specs.declared.refusal.Family.TheVariants.{L}
use Rattle.mp_base.specs.declared.refusal.Spot.TheVariants.{Named}
use Rattle.mp_base.specs.declared.refusal.Broken.{Broken}

-- why nothing is made of the files: one whose turn has come is not held, or a rule is broken
pub data Fault : Type 0 where
  Stray : Fault
  Breaks : Broken → Fault

-- the first fault of two stages: that of the first, or else that of the second
abbrev pub Then : (P Q : Option Fault → Type 0) → Option Fault → Type 0
Then P Q None = P None × Q None
Then P Q (Some fault) = P (Some fault) ⊎ (P None × Q (Some fault))

-- the first broken rule, as a fault
abbrev pub OfRule : (Option Broken → Type 0) → Option Fault → Type 0
OfRule R None = R None
OfRule R (Some Stray) = ⊥
OfRule R (Some (Breaks broken)) = R (Some broken)

-- L1: the file of this name is too long
abbrev pub too_long : List ℕ → Broken
too_long name = record { rule = record { family = L; number = 1 }; spot = Named name }

-- a file of this name, with this content where it is held, can be read up to a limit
abbrev pub OfLength : ℕ → List ℕ → Option (List ℕ) → Option Fault → Type 0
OfLength limit name None fault = fault ≡ Some Stray
OfLength limit name (Some bytes) None = length bytes ≤ limit
OfLength limit name (Some bytes) (Some fault) = (limit < length bytes) × (fault ≡ Breaks (too_long name))

-- a file: its length, and then its rules
abbrev pub OfFile : ℕ → (List ℕ → Option Broken → Type 0) → List ℕ → Option (List ℕ) → Option Fault → Type 0
OfFile limit Rules name content = Then (OfLength limit name content) (OfRule (Rules (unwrap_or content [])))

-- the content that was read
abbrev pub IsContent : ℕ → Option (List ℕ) → List ℕ → Type 0
IsContent limit content text = (content ≡ Some text) × (length text ≤ limit)

-- the files are told, and the first fault is a file that is not held
abbrev pub IsStrayBy : (Files → Option Fault → Type 0) → Option Files → Type 0
IsStrayBy First None = ⊥
IsStrayBy First (Some files) = First files (Some Stray)
