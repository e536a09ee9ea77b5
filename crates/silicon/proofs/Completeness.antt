-- What the clauses of a run leave no choice of.
use Rattle.std.proofs.Common.{◌≡◌, ◌⊎◌, ◌<◌, ℕ, List, refl, ap, subst, inl, inr, Option, Some, None, arith}
use Rattle.outside.specs.Outside.{Files, WhereTold, Rose}
use Rattle.command_line.specs.Command.{Command}
use Rattle.outcome.specs.Order.{Fault, Stray, Breaks}
use Rattle.outcome.specs.World.{World, StoreFailed, PrintFailed}
use Rattle.board.specs.Face.{Face}
use Rattle.board_command.specs.Parts.{Lent}
use Rattle.silicon.specs.Faults.{IsFirstFault, IsStrayFor}
use Rattle.silicon.specs.Run.{Did}
use Rattle.silicon.specs.Complete.{IsRun, AnyRose, AnyGreater, CountsNothing, status_by}
use Rattle.outcome.specs.declared.status.Status.{Status}
use Rattle.outcome.specs.declared.status.Status.TheVariants.{Done, Refused, Usage, ReadFault, WriteFault, NoMemory}

-- what is told of files that are told
told_of : {X : Type 0} (R : X → X → Type 0) (x y : Option X) (old new : X) → x ≡ Some old → y ≡ Some new
    → WhereTold R x y → R old new
told_of R x y old new e f told = subst (λ z. WhereTold R z (Some new)) e (subst (λ z. WhereTold R x z) f told)

-- a command has one first fault
abbrev pub OneFault : Type 0
OneFault = (lent : Lent) (command : Command) (files : Files) (a b : Option Fault) → IsFirstFault lent command files a
    → IsFirstFault lent command files b → a ≡ b

-- a write or a print failed
written : (before after : World) → StoreFailed before after ⊎ PrintFailed before after → AnyRose before after
written before after (inl store) = inr (inl store.failed)
written before after (inr print) = inr (inr print.failed)

module _ (one : OneFault) (lent : Lent) (left : List Face) (command : Command) (before after : World)
    (old new : Files) (fault : Option Fault)
    (first : IsFirstFault lent command old fault) (still : AnyRose before after → ⊥) where
  -- this fault and no other is the first
  by_fault : (other : Option Fault) → IsFirstFault lent command old other → status_by other ≡ status_by fault
  by_fault other is = ap status_by (one lent command old other fault is first)

  -- the reads failed since a file is not held
  by_stray : Rose before.reads after.reads ⊎ IsStrayFor lent (Some command) after.files → after.files ≡ Some new
      → new ≡ old → status_by (Some Stray) ≡ status_by fault
  by_stray (inl rose) is kept = absurd (still (inl rose))
  by_stray (inr stray) is kept =
      let there : IsFirstFault lent command new (Some Stray) =
      subst (λ files. IsStrayFor lent (Some command) files) is stray in
      by_fault (Some Stray) (subst (λ files. IsFirstFault lent command files (Some Stray)) kept there)

  pub owed : (status : Status) → IsRun lent left (Some command) status before after → before.files ≡ Some old
      → after.files ≡ Some new → (status ≡ status_by fault) ⊎ (status ≡ NoMemory)
  owed Done run e f =
      let did = told_of (λ a b. Did lent left (Some command) Done before after a b run.content.printed) _ _ old new e f
      run.content.told in
      inl (by_fault None did.0.fault)
  owed Refused run e f =
      let did = told_of (λ a b. Did lent left (Some command) Refused before after a b run.content.printed) _ _ old new
      e f run.content.told in
      inl (by_fault (Some (Breaks did.0.broken)) did.0.fault)
  owed Usage run e f = absurd run.form
  owed ReadFault run e f =
      let did = told_of (λ a b. Did lent left (Some command) ReadFault before after a b run.content.printed) _ _ old new
      e f run.content.told in
      inl (by_stray run.causes.1 f did.0.0)
  owed WriteFault run e f = absurd (still (written before after run.causes.1))
  owed NoMemory run e f = inr refl

-- words in no form
pub no_form : (lent : Lent) (left : List Face) (status : Status) (before after : World)
    → IsRun lent left None status before after → (AnyRose before after → ⊥) → (status ≡ Usage) ⊎ (status ≡ NoMemory)
no_form lent left Done before after run still = absurd run.form
no_form lent left Refused before after run still = absurd run.form
no_form lent left Usage before after run still = inl refl
no_form lent left ReadFault before after run still = absurd run.form
no_form lent left WriteFault before after run still = absurd (still (written before after run.causes.1))
no_form lent left NoMemory before after run still = inr refl

-- no file is stray where nothing is told
stray_untold : (lent : Lent) (words : Option Command) (files : Option Files) → files ≡ None
    → IsStrayFor lent words files → ⊥
stray_untold lent None files e stray = stray
stray_untold lent (Some command) files e stray = subst (λ f. IsStrayFor lent (Some command) f) e stray

pub no_read_fault : (lent : Lent) (left : List Face) (words : Option Command) (status : Status) (before after : World)
    → IsRun lent left words status before after → after.files ≡ None → (AnyRose before after → ⊥)
    → status ≡ ReadFault → ⊥
no_read_fault lent left words status before after run untold still is =
    let failed : IsRun lent left words ReadFault before after =
    subst (λ s. IsRun lent left words s before after) is run in
    read failed.causes.1
  where
    read : Rose before.reads after.reads ⊎ IsStrayFor lent words after.files → ⊥
    read (inl rose) = still (inl rose)
    read (inr stray) = stray_untold lent words after.files untold stray

pub no_write_fault : (lent : Lent) (left : List Face) (words : Option Command) (status : Status) (before after : World)
    → IsRun lent left words status before after → (AnyRose before after → ⊥) → status ≡ WriteFault → ⊥
no_write_fault lent left words status before after run still is =
    let failed : IsRun lent left words WriteFault before after =
    subst (λ s. IsRun lent left words s before after) is run in
    still (written before after failed.causes.1)

-- equal counts are not greater
same_counts : (a b c d e f : ℕ) → b ≡ a → d ≡ c → f ≡ e → (a < b) ⊎ (c < d) ⊎ (e < f) → ⊥
same_counts a b c d e f p q r (inl less) = omega (arith, p, less)
same_counts a b c d e f p q r (inr (inl less)) = omega (arith, q, less)
same_counts a b c d e f p q r (inr (inr less)) = omega (arith, r, less)

pub greater : (lent : Lent) (left : List Face) (words : Option Command) (status : Status) (before after : World)
    → IsRun lent left words status before after → AnyGreater before after → (status ≡ ReadFault) ⊎ (status ≡ WriteFault)
greater lent left words Done before after run more =
    absurd (same_counts _ _ _ _ _ _ run.causes.0 run.causes.1 run.causes.2 more)
greater lent left words Refused before after run more =
    absurd (same_counts _ _ _ _ _ _ run.causes.0 run.causes.1 run.causes.2 more)
greater lent left words Usage before after run more =
    absurd (same_counts _ _ _ _ _ _ run.causes.0 run.causes.1 run.causes.2 more)
greater lent left words ReadFault before after run more = inl refl
greater lent left words WriteFault before after run more = inr refl
greater lent left words NoMemory before after run more =
    absurd (same_counts _ _ _ _ _ _ run.causes.0 run.causes.1 run.causes.2 more)

-- a count that stands at 0 didn't rise
stays : (before now : ℕ) → before ≡ 0 → now ≡ 0 → Rose before now → ⊥
stays before now p q (inl more) = omega (arith, p, q, more)
stays before now p q (inr last) = omega (arith, q, last)

pub none_rose : (before after : World) → CountsNothing before → CountsNothing after → AnyRose before after → ⊥
none_rose before after p q (inl rose) = stays _ _ p.0 q.0 rose
none_rose before after p q (inr (inl rose)) = stays _ _ p.1 q.1 rose
none_rose before after p q (inr (inr rose)) = stays _ _ p.2 q.2 rose
