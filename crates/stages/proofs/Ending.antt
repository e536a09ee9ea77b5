-- How work in two stages ends.
use Rattle.std.proofs.Common.{◌≡◌, ◌≤◌, ◌⊎◌, ℕ, List, sym, subst, inl, inr, Option, Some, None, Result, Ok, Err, IfSome}
use Rattle.std.proofs.Common.{◌∙◌}
use Rattle.std.specs.Prelude.{IsErrAnd}
use Rattle.outside.specs.Outside.{Files, Rose, WhereTold, Keeps, Gains}
use Rattle.outcome.specs.Order.{Fault, IsStrayBy}
use Rattle.outcome.specs.Work.{Work}
use Rattle.outcome.specs.World.{World, Leaves, HasCauses, IsCutShort, StoreFailed, PrintFailed}
use Rattle.outcome.specs.Halt.{Ends, EndsBy, status_of}
use Rattle.outcome.specs.declared.halt.Halt.{Halt}
use Rattle.outcome.specs.declared.halt.Halt.TheVariants.{Refused, ReadFault, WriteFault, NoMemory}
use Rattle.stages.specs.Stages.{second, LeadsTo}

module _ (before after : World) (work : Work) (Gives : List ℕ → List ℕ → Type 0) (files new : Files)
    (printed : List ℕ) (leads : LeadsTo work Gives files) where
  cut_short : IsCutShort (second work.target Gives) before after files new printed
      → IsCutShort work before after files new printed
  cut_short cut = record {
    fault = leads.0;
    chip = cut.chip;
    text = cut.text;
    shows = leads.1 cut.chip cut.text cut.shows;
    part = cut.part;
  }

  -- work ends as its second stage does
  pub ends_as : {T : Type 0} (result : Result T Halt)
      → Ends (second work.target Gives) result before after files new printed
      → Ends work result before after files new printed
  ends_as (Ok v) done = record {
    fault = leads.0;
    chip = done.chip;
    shows = leads.1 done.chip printed done.shows;
    stored = done.stored;
  }
  ends_as (Err (Refused broken)) ends = absurd ends.0
  ends_as (Err ReadFault) ends = ends
  ends_as (Err WriteFault) cut = cut_short cut
  ends_as (Err NoMemory) ends = ends

-- nothing was printed, and no write and no print failed
pub record OnlyReads (before middle : World) : Type 0 where
  pub writes : middle.writes ≡ before.writes
  pub prints : middle.prints ≡ before.prints
  pub text : middle.text ≡ before.text

-- what failed in a second stage failed in the work
module _ (before middle after : World) (only : OnlyReads before middle) where
  store_since : StoreFailed middle after → StoreFailed before after
  store_since why = record {
    later = subst (λ n. n ≤ after.writes) only.writes why.later;
    failed = subst (λ n. Rose n after.writes) only.writes why.failed;
    prints = why.prints ∙ only.prints;
    text = why.text ∙ only.text;
  }

  print_since : PrintFailed middle after → PrintFailed before after
  print_since why = record {
    later = subst (λ n. n ≤ after.prints) only.prints why.later;
    failed = subst (λ n. Rose n after.prints) only.prints why.failed;
    writes = why.writes ∙ only.writes;
  }

  since : {A B C D : Type 0} → (StoreFailed middle after × A × B) ⊎ (PrintFailed middle after × C × D)
      → (StoreFailed before after × A × B) ⊎ (PrintFailed before after × C × D)
  since (inl (why, a, b)) = inl (store_since why, a, b)
  since (inr (why, c, d)) = inr (print_since why, c, d)

  pub ends_since : {T : Type 0} (work : Work) (files new : Files) (printed : List ℕ) (result : Result T Halt)
      → Ends work result middle after files new printed → Ends work result before after files new printed
  ends_since work files new printed (Ok v) done = done
  ends_since work files new printed (Err (Refused broken)) ends = ends
  ends_since work files new printed (Err ReadFault) ends = ends
  ends_since work files new printed (Err WriteFault) cut = record {
    fault = cut.fault;
    chip = cut.chip;
    text = cut.text;
    shows = cut.shows;
    part = since cut.part;
  }
  ends_since work files new printed (Err NoMemory) ends = ends

-- what a second stage leaves of the files in the middle is said of those at entry
module _ (P Q : Files → Files → List ℕ → Type 0) where
  told_on : (printed : List ℕ) (x m y : Option Files) → Keeps x m
      → IfSome m (λ files. (new : Files) (printed : List ℕ) → P files new printed → Q files new printed)
      → WhereTold (λ old new. P old new printed) m y → WhereTold (λ old new. Q old new printed) x y
  told_on printed x m None kept on told = tt
  told_on printed x None (Some c) kept on told = absurd told
  told_on printed None (Some b) (Some c) kept on told = absurd kept
  told_on printed (Some a) (Some b) (Some c) kept on told =
      subst (λ files. Q files c printed) kept (on c printed told)

pub leaves_on : (P Q : World → World → Files → Files → List ℕ → Type 0) (before middle after : World)
    → Keeps before.files middle.files → middle.text ≡ before.text
    → IfSome middle.files
    (λ files. (new : Files) (printed : List ℕ) → P middle after files new printed → Q before after files new printed)
    → Leaves P middle after → Leaves Q before after
leaves_on P Q before middle after kept same on left = record {
  printed = left.printed;
  gained = subst (λ text. WhereTold (Gains left.printed) text after.text) same left.gained;
  told = told_on (P middle after) (Q before after) left.printed before.files middle.files after.files kept on left.told;
}

if_leads : (before middle after : World) → OnlyReads before middle → (work : Work) (Gives : List ℕ → List ℕ → Type 0)
    {T : Type 0} (result : Result T Halt) (held : Option Files) → IfSome held (LeadsTo work Gives)
    → IfSome held (λ files. (new : Files) (printed : List ℕ)
    → Ends (second work.target Gives) result middle after files new printed
    → Ends work result before after files new printed)
if_leads before middle after only work Gives result None leads = tt
if_leads before middle after only work Gives result (Some files) leads =
    λ new printed ends. ends_since before middle after only work files new printed result
    (ends_as middle after work Gives files new printed leads result ends)

-- work leaves what its second stage leaves
pub leaves_as : (work : Work) (Gives : List ℕ → List ℕ → Type 0) {T : Type 0} (result : Result T Halt)
    (before middle after : World) → Keeps before.files middle.files → OnlyReads before middle
    → IfSome middle.files (LeadsTo work Gives) → Leaves (Ends (second work.target Gives) result) middle after
    → Leaves (Ends work result) before after
leaves_as work Gives result before middle after kept only leads left =
    leaves_on (Ends (second work.target Gives) result) (Ends work result) before middle after kept only.text
    (if_leads before middle after only work Gives result middle.files leads) left

-- a second stage's faults are those of the work
pub causes_as : {T : Type 0} (result : Result T Halt) (stray : Type 0) (before middle after : World)
    → middle.reads ≡ before.reads → OnlyReads before middle
    → HasCauses (status_of result) ⊥ middle after → HasCauses (status_of result) stray before after
causes_as (Ok v) stray before middle after r only causes =
    (causes.0 ∙ r, causes.1 ∙ only.writes, causes.2 ∙ only.prints)
causes_as (Err (Refused broken)) stray before middle after r only causes =
    (causes.0 ∙ r, causes.1 ∙ only.writes, causes.2 ∙ only.prints)
causes_as (Err NoMemory) stray before middle after r only causes =
    (causes.0 ∙ r, causes.1 ∙ only.writes, causes.2 ∙ only.prints)
causes_as (Err ReadFault) stray before middle after r only causes = (
  subst (λ n. n ≤ after.reads) r causes.0,
  inl (subst (λ n. Rose n after.reads) r (risen causes.1)),
  causes.2 ∙ only.writes,
  causes.3 ∙ only.prints,
)
  where
    risen : Rose middle.reads after.reads ⊎ ⊥ → Rose middle.reads after.reads
    risen (inl rose) = rose
    risen (inr none) = absurd none
causes_as (Err WriteFault) stray before middle after r only causes = (causes.0 ∙ r, either causes.1)
  where
    either : StoreFailed middle after ⊎ PrintFailed middle after → StoreFailed before after ⊎ PrintFailed before after
    either (inl store) = inl (store_since before middle after only store)
    either (inr print) = inr (print_since before middle after only print)

-- work that ended in its first stage tells no fault without its cause
pub causes_halted : (First : Files → Option Fault → Type 0) (held : Option Files) (halt : Halt)
    (result : Result (Unit {0}) Halt) (before after : World) → IsErrAnd result (λ e. e ≡ halt)
    → EndsBy First held before.reads after.reads halt → after.writes ≡ before.writes → after.prints ≡ before.prints
    → HasCauses (status_of result) (IsStrayBy First held) before after
causes_halted First held halt (Ok v) before after is ends w p = absurd is
causes_halted First held halt (Err e) before after is ends w p =
    subst (λ h. HasCauses (status_of {T = Unit {0}} (Err h)) (IsStrayBy First held) before after) (sym is)
    (by halt ends)
  where
    by : (h : Halt) → EndsBy First held before.reads after.reads h
        → HasCauses (status_of {T = Unit {0}} (Err h)) (IsStrayBy First held) before after
    by (Refused broken) ends = (ends.0, w, p)
    by ReadFault ends = (ends.0, ends.1, w, p)
    by WriteFault ends = absurd ends
    by NoMemory ends = (ends, w, p)
