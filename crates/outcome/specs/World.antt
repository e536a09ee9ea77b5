-- What work can see of the outside, and what it did there, by its status.
use Rattle.std.specs.Prelude.{◌≡◌, ◌⊎◌, ℕ, ◌≤◌, List, [], ⊤, Option, Some, None}
use Rattle.outside.specs.Outside.{Files, Rose, WhereTold, Keeps, Gains}
use Rattle.outcome.specs.Work.{Work, IsPartOf, Stores, StoresPart, IsDone, IsRefused}
use Rattle.outcome.specs.Line.{line_of}
use Rattle.outcome.specs.declared.status.Status.{Status}
use Rattle.outcome.specs.declared.status.Status.TheVariants.{Done, Refused, Usage, ReadFault, WriteFault, NoMemory}

-- what is told of the files and of the output, and the counts of faults
pub record World : Type 0 where
  pub files : Option Files
  pub text : Option (List ℕ)
  pub reads : ℕ
  pub writes : ℕ
  pub prints : ℕ

-- the world of a depot and a sink, by their meanings
abbrev pub world_of : {D O : Type 0} → (D → Option Files) → (D → ℕ) → (D → ℕ) → (O → Option (List ℕ)) → (O → ℕ) → D → O
    → World
world_of files reads writes text prints depot out = record {
  files = files depot;
  text = text out;
  reads = reads depot;
  writes = writes depot;
  prints = prints out;
}

-- a write of a file failed; no print did, and nothing was printed
pub record StoreFailed (before after : World) : Type 0 where
  pub later : before.writes ≤ after.writes
  pub failed : Rose before.writes after.writes
  pub prints : after.prints ≡ before.prints
  pub text : after.text ≡ before.text

-- a print failed, and no write of a file
pub record PrintFailed (before after : World) : Type 0 where
  pub later : before.prints ≤ after.prints
  pub failed : Rose before.prints after.prints
  pub writes : after.writes ≡ before.writes

-- a fault is answered only where its count rose, or a file is told to be stray; and else no count changes
abbrev pub HasCauses : Status → Type 0 → World → World → Type 0
HasCauses ReadFault stray before after = (before.reads ≤ after.reads) × (Rose before.reads after.reads ⊎ stray)
    × (after.writes ≡ before.writes) × (after.prints ≡ before.prints)
HasCauses WriteFault stray before after =
    (after.reads ≡ before.reads) × (StoreFailed before after ⊎ PrintFailed before after)
HasCauses status stray before after = (after.reads ≡ before.reads) × (after.writes ≡ before.writes)
    × (after.prints ≡ before.prints)

-- without a target no file is written, and no write fails
abbrev pub SparesFiles : Option (List ℕ) → Option Files → Option Files → ℕ → ℕ → Type 0
SparesFiles None before after faults now = Keeps before after × (now ≡ faults)
SparesFiles (Some name) before after faults now = ⊤

-- after these nothing was printed, whatever the files are
abbrev pub IsSilent : Status → Option (List ℕ) → Option (List ℕ) → Type 0
IsSilent ReadFault before after = after ≡ before
IsSilent NoMemory before after = after ≡ before
IsSilent status before after = ⊤

-- some bytes were printed, and where the files are told P holds of both worlds, of the old and the new files and of
-- these bytes
pub record Leaves (P : World → World → Files → Files → List ℕ → Type 0) (before after : World) : Type 0 where
  pub printed : List ℕ
  pub gained : WhereTold (Gains printed) before.text after.text
  pub told : WhereTold (λ old new. P before after old new printed) before.files after.files

-- no rule is broken; a write failed, a part of the file was stored and nothing printed, or a print failed, the file was
-- stored and a part of the text printed
pub record IsCutShort (work : Work) (before after : World) (old new : Files) (printed : List ℕ) : Type 0 where
  pub fault : work.First old None
  pub chip : List ℕ
  pub text : List ℕ
  pub shows : work.Shows old chip text
  pub part : (StoreFailed before after × (printed ≡ []) × StoresPart work.target chip old new)
      ⊎ (PrintFailed before after × IsPartOf printed text × Stores work.target chip old new)

-- what work did, and told of its end
abbrev pub DidWork : Work → Status → World → World → Files → Files → List ℕ → Type 0
DidWork work Done before after old new printed = IsDone work old new printed
DidWork work Refused before after old new printed = IsRefused work (λ broken. printed ≡ line_of broken) old new
DidWork work Usage before after old new printed = ⊥
DidWork work ReadFault before after old new printed = (new ≡ old) × (printed ≡ [])
DidWork work WriteFault before after old new printed =
    (PrintFailed before after × IsRefused work (λ broken. IsPartOf printed (line_of broken)) old new)
    ⊎ IsCutShort work before after old new printed
DidWork work NoMemory before after old new printed = (new ≡ old) × (printed ≡ [])

-- a part of a text was gained
abbrev pub GainsPart : List ℕ → List ℕ → List ℕ → Type 0
GainsPart text old new = (part : List ℕ) × IsPartOf part text × Gains part old new

-- a text was printed whole under a status, or in part under a write fault
pub data IsSaid (status : Status) (text : List ℕ) (before after : Option (List ℕ)) (faults now : ℕ)
    (result : Status) : Type 0 where
  whole : result ≡ status → now ≡ faults → WhereTold (Gains text) before after
      → IsSaid status text before after faults now result
  cut : result ≡ WriteFault → faults ≤ now → Rose faults now → (part : List ℕ) → IsPartOf part text
      → WhereTold (Gains part) before after → IsSaid status text before after faults now result

-- a refusal's line was printed, or memory for it was missing
abbrev pub IsTold : List ℕ → Option (List ℕ) → Option (List ℕ) → ℕ → ℕ → Status → Type 0
IsTold line before after faults now result = IsSaid Refused line before after faults now result
    ⊎ ((result ≡ NoMemory) × (after ≡ before) × (now ≡ faults))
