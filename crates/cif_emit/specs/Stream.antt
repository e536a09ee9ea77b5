-- Texts that are written in pieces, of which some wait.
use Rattle.std.specs.Prelude.{ℕ, ◌≡◌, ◌<◌, ◌≤◌, List, ◌++◌, length, Option, Result, Ok, Err, OnOk, OnErr}
use Rattle.outside.specs.declared.transfer.Fault.{Fault}
use Rattle.outside.specs.declared.transfer.Fault.TheVariants.{Write, NoMemory}
use Rattle.outside.specs.Outside.{WhereTold, Gains, Rose}

-- a first part of the text was written; at `Ok` the rest waits, and else there is one
pub record PutsOff {T E : Type 0} (before after : Option (List ℕ)) (text waiting : List ℕ)
    (result : Result T E) : Type 0 where
  pub front : List ℕ
  pub rest : List ℕ
  pub split : text ≡ front ++ rest
  pub written : WhereTold (Gains front) before after
  pub waits : OnOk result (rest ≡ waiting)
  pub cut : OnErr result (0 < length rest)

-- a write fault comes only where the count of faults rose, and it rises with no other answer
abbrev pub FaultHasCause : {T : Type 0} → ℕ → ℕ → Result T Fault → Type 0
FaultHasCause before now (Ok v) = now ≡ before
FaultHasCause before now (Err Write) = (before ≤ now) × Rose before now
FaultHasCause before now (Err NoMemory) = now ≡ before
