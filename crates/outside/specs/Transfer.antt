-- What is read and written of whole files.
use Rattle.std.specs.Prelude.{◌≡◌, ◌⊎◌, ℕ, ◌+◌, ◌≤◌, ◌<◌, List, [], length, take, Option, Some, None, Result, OnOk}
use Rattle.std.specs.Prelude.{IsErrOf, Vec, Bool, true, false}
use Rattle.std.specs.FinMap.{insert}
use Rattle.std.specs.declared.alloc.Global.{Global}
use Rattle.outside.specs.Outside.{Files, Rose}
use Rattle.outside.specs.declared.transfer.ReadError.{ReadError}
use Rattle.outside.specs.declared.transfer.ReadError.TheVariants.{Failed, NoMemory}

-- what was read of a file up to a limit: all of it, or nothing where it is longer
abbrev pub IsReading : Option (List ℕ) → ℕ → Option (Vec ℕ Global) → Type 0
IsReading None limit text = ⊥
IsReading (Some bytes) limit (Some text) = (text.items ≡ bytes) × (length bytes ≤ limit)
IsReading (Some bytes) limit None = limit < length bytes

-- what was read so far
abbrev pub IsFront : Option (List ℕ) → List ℕ → Type 0
IsFront None text = text ≡ []
IsFront (Some bytes) text = text ≡ take (length text) bytes

-- what was read grew by a piece of the file, and is all of it where there was none
abbrev pub AddsPiece : Option (List ℕ) → List ℕ → List ℕ → Bool → Type 0
AddsPiece None old new more = ⊥
AddsPiece (Some bytes) old new more = IsFront (Some bytes) old → IsFront (Some bytes) new × (more ≡ false → new ≡ bytes)

-- by at least one byte and at most room, or not at all
abbrev pub SizeGrows : ℕ → ℕ → ℕ → Bool → Type 0
SizeGrows old new room true = (old < new) × (new ≤ old + room)
SizeGrows old new room false = new ≡ old

-- only the answer that the depot failed comes with a fault, and only with one, or where the file is not held
pub record FileReadHasCause {T : Type 0} (before now : ℕ) (stray : Type 0) (result : Result T ReadError) : Type 0 where
  pub later : before ≤ now
  pub ok : OnOk result (now ≡ before)
  pub memory : IsErrOf result NoMemory → now ≡ before
  pub failed : IsErrOf result Failed → Rose before now ⊎ stray

-- the file has these bytes, and no other changes
abbrev pub Holds : List ℕ → List ℕ → Files → Files → Type 0
Holds name bytes old new = new ≡ insert old name bytes

-- nothing changed, or the file holds a first part of the bytes
abbrev pub HoldsPart : List ℕ → List ℕ → Files → Files → Type 0
HoldsPart name bytes old new =
    (new ≡ old) ⊎ ((count : ℕ) × (count < length bytes) × Holds name (take count bytes) old new)
