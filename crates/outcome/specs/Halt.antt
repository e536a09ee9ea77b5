-- How work ends before its line or its status is told.
use Rattle.std.specs.Prelude.{◌≡◌, ◌⊎◌, ℕ, ◌≤◌, List, [], ⊤, Option, Some, None, Result, Ok, Err, IfSome, MatchResult}
use Rattle.outside.specs.Outside.{Files, Rose}
use Rattle.mp_base.specs.declared.refusal.Refusal.{Refusal}
use Rattle.mp_base.specs.declared.refusal.Refusal.TheVariants as refusal
use Rattle.outside.specs.declared.transfer.ReadError.{ReadError}
use Rattle.outside.specs.declared.transfer.ReadError.TheVariants as read_error
use Rattle.outcome.specs.Order.{Fault, Breaks, IsStrayBy}
use Rattle.outcome.specs.Work.{Work, IsDone}
use Rattle.outcome.specs.World.{World, IsCutShort}
use Rattle.outcome.specs.declared.status.Status.{Status}
use Rattle.outcome.specs.declared.status.Status.TheVariants as status
use Rattle.outcome.specs.declared.halt.Halt.{Halt}
use Rattle.outcome.specs.declared.halt.Halt.TheVariants.{Refused, ReadFault, WriteFault, NoMemory}

-- the status of an end, if its line can be printed
abbrev pub status_of : {T : Type 0} → Result T Halt → Status
status_of (Ok done) = status.Done
status_of (Err (Refused broken)) = status.Refused
status_of (Err ReadFault) = status.ReadFault
status_of (Err WriteFault) = status.WriteFault
status_of (Err NoMemory) = status.NoMemory

abbrev pub halt_of : Refusal → Halt
halt_of (refusal.Broken broken) = Refused broken
halt_of refusal.NoMemory = NoMemory

abbrev pub halt_of_read : ReadError → Halt
halt_of_read read_error.Failed = ReadFault
halt_of_read read_error.NoMemory = NoMemory

-- why reading and judging ended, by the first fault of its stage and the count of read faults
abbrev pub EndsBy : (Files → Option Fault → Type 0) → Option Files → ℕ → ℕ → Halt → Type 0
EndsBy First files before now (Refused broken) = (now ≡ before) × IfSome files (λ f. First f (Some (Breaks broken)))
EndsBy First files before now ReadFault = (before ≤ now) × (Rose before now ⊎ IsStrayBy First files)
EndsBy First files before now WriteFault = ⊥
EndsBy First files before now NoMemory = now ≡ before

-- the same of a result, which is Ok only where there is no fault
abbrev pub HasReason : {T : Type 0} → (Files → Option Fault → Type 0) → Option Files → ℕ → ℕ → Result T Halt → Type 0
HasReason First files before now result =
    MatchResult result (λ _. (now ≡ before) × IfSome files (λ f. First f None)) (EndsBy First files before now)

-- work that ended early has printed nothing, but where a write failed
abbrev pub IsQuiet : {T : Type 0} → Result T Halt → Option (List ℕ) → Option (List ℕ) → Type 0
IsQuiet (Ok done) before after = ⊤
IsQuiet (Err (Refused broken)) before after = after ≡ before
IsQuiet (Err ReadFault) before after = after ≡ before
IsQuiet (Err WriteFault) before after = ⊤
IsQuiet (Err NoMemory) before after = after ≡ before

-- what work did by its end, where it has printed only its output
abbrev pub Ends : {T : Type 0} → Work → Result T Halt → World → World → Files → Files → List ℕ → Type 0
Ends work (Ok done) before after old new printed = IsDone work old new printed
Ends work (Err (Refused broken)) before after old new printed =
    work.First old (Some (Breaks broken)) × (new ≡ old) × (printed ≡ [])
Ends work (Err ReadFault) before after old new printed = (new ≡ old) × (printed ≡ [])
Ends work (Err WriteFault) before after old new printed = IsCutShort work before after old new printed
Ends work (Err NoMemory) before after old new printed = (new ≡ old) × (printed ≡ [])
