-- Why no fault is told without its cause.
use Rattle.std.proofs.Common.{◌≡◌, ◌≤◌, sym, subst, inl, inr, Result, Ok, Err}
use Rattle.std.specs.Prelude.{IsErrAnd}
use Rattle.outside.specs.Outside.{Rose}
use Rattle.outcome.specs.World.{World, HasCauses}
use Rattle.outcome.specs.Halt.{status_of}
use Rattle.outcome.specs.declared.halt.Halt.{Halt}
use Rattle.outcome.specs.declared.halt.Halt.TheVariants.{WriteFault, NoMemory}

pub without_memory : (result : Result (Unit {0}) Halt) (stray : Type 0) (before after : World)
    → IsErrAnd result (λ e. e ≡ NoMemory) → after.reads ≡ before.reads → after.writes ≡ before.writes → after.prints
    ≡ before.prints → HasCauses (status_of result) stray before after
without_memory (Ok v) stray before after is r w p = absurd is
without_memory (Err e) stray before after is r w p = subst
    (λ h. HasCauses (status_of {T = Unit {0}} (Err h)) stray before after) (sym is) (r, w, p)

pub print_failed : (result : Result (Unit {0}) Halt) (stray : Type 0) (before after : World)
    → IsErrAnd result (λ e. e ≡ WriteFault) → after.reads ≡ before.reads → after.writes ≡ before.writes
    → before.prints ≤ after.prints → Rose before.prints after.prints → HasCauses (status_of result) stray before after
print_failed (Ok v) stray before after is r w p rose = absurd is
print_failed (Err e) stray before after is r w p rose = subst
    (λ h. HasCauses (status_of {T = Unit {0}} (Err h)) stray before after) (sym is) (
      r,
      inr (record { later = p; failed = rose; writes = w }),
    )

pub store_failed : (result : Result (Unit {0}) Halt) (stray : Type 0) (before after : World)
    → IsErrAnd result (λ e. e ≡ WriteFault) → after.reads ≡ before.reads → before.writes ≤ after.writes
    → Rose before.writes after.writes → after.prints ≡ before.prints → after.text ≡ before.text
    → HasCauses (status_of result) stray before after
store_failed (Ok v) stray before after is r w rose p t = absurd is
store_failed (Err e) stray before after is r w rose p t = subst
    (λ h. HasCauses (status_of {T = Unit {0}} (Err h)) stray before after) (sym is) (
      r,
      inl (record { later = w; failed = rose; prints = p; text = t }),
    )
