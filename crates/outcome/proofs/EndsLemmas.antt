-- How work ends, from what its stages did.
use Rattle.std.proofs.Common.{◌≡◌, ℕ, List, [], take, refl, sym, ap, subst, inl, inr, Option, Some, None, Result, Ok}
use Rattle.std.proofs.Common.{Err, IfSome, arith}
use Rattle.std.specs.Prelude.{IsErrAnd}
use Rattle.outside.specs.Outside.{Files, WhereTold, Keeps, Gains}
use Rattle.outside.specs.Piece.{TakesAll}
use Rattle.outside.specs.declared.calls.Failed.{Failed}
use Rattle.outcome.specs.Order.{Breaks}
use Rattle.outcome.specs.Work.{Work, IsDone, IsPartOf, Stores, StoresPart}
use Rattle.outcome.specs.World.{World, Leaves, IsCutShort, StoreFailed, PrintFailed}
use Rattle.outcome.specs.Halt.{EndsBy, Ends}
use Rattle.outcome.specs.declared.halt.Halt.{Halt}
use Rattle.outcome.specs.declared.halt.Halt.TheVariants.{Refused, ReadFault, WriteFault, NoMemory}
use Rattle.outside.proofs.Told.{gains_nothing}
use Rattle.outside.proofs.Written.{gained}

-- ended while it read and judged
halted_told : (work : Work) (halt : Halt) (before after : World) (x y : Option Files) (r r' : ℕ) → Keeps x y
    → EndsBy (work.First) y r r' halt
    → WhereTold (λ old new. Ends {T = Unit {0}} work (Err halt) before after old new []) x y
halted_told work halt before after x None r r' kept e = tt
halted_told work halt before after None (Some b) r r' kept e = absurd kept
halted_told work (Refused broken) before after (Some a) (Some b) r r' kept e =
    (subst (λ files. work.First files (Some (Breaks broken))) kept e.1, kept, refl)
halted_told work ReadFault before after (Some a) (Some b) r r' kept e = (kept, refl)
halted_told work WriteFault before after (Some a) (Some b) r r' kept e = absurd e
halted_told work NoMemory before after (Some a) (Some b) r r' kept e = (kept, refl)

-- a result that is this error
err_is : (result : Result (Unit {0}) Halt) (halt : Halt) → IsErrAnd result (λ e. e ≡ halt) → result ≡ Err halt
err_is (Ok v) halt h = absurd h
err_is (Err e) halt h = ap Err h

pub leaves_halted : (work : Work) (halt : Halt) (result : Result (Unit {0}) Halt) (before after : World)
    (r r' : ℕ) → IsErrAnd result (λ e. e ≡ halt) → Keeps before.files after.files → after.text ≡ before.text
    → EndsBy (work.First) after.files r r' halt → Leaves (Ends work result) before after
leaves_halted work halt result before after r r' is kept same e = record {
  printed = [];
  gained = subst (λ text. WhereTold (Gains []) before.text text) (sym same) (gains_nothing before.text);
  told = subst (λ res. WhereTold (λ old new. Ends work res before after old new []) before.files after.files)
      (sym (err_is result halt is)) (halted_told work halt before after before.files after.files r r' kept e);
}

-- what was found of the files as they were read, m, holds of those at entry, x; the target was then stored
module _ (work : Work) (chip text : List ℕ) where
  -- no rule is broken, and this is the output
  abbrev Finds : Option Files → Type 0
  Finds held = IfSome held (λ files. work.First files None)
      × IfSome held (λ files. work.Shows files chip text)

  done_told : (x m y : Option Files) → Keeps x m → Finds m → WhereTold (Stores work.target chip) m y
      → WhereTold (λ old new. IsDone work old new text) x y
  done_told x m None kept finds stored = tt
  done_told x None (Some c) kept finds stored = absurd stored
  done_told None (Some b) (Some c) kept finds stored = absurd kept
  done_told (Some a) (Some b) (Some c) kept finds stored = record {
    fault = subst (λ files. work.First files None) kept finds.0;
    chip = chip;
    shows = subst (λ files. work.Shows files chip text) kept finds.1;
    stored = subst (λ files. Stores work.target chip files c) kept stored;
  }

  cut_told : (before after : World) → PrintFailed before after → (part : List ℕ) (x m y : Option Files) → Keeps x m
      → Finds m → IsPartOf part text → WhereTold (Stores work.target chip) m y
      → WhereTold (λ old new. IsCutShort work before after old new part) x y
  cut_told before after why part x m None kept finds first stored = tt
  cut_told before after why part x None (Some c) kept finds first stored = absurd stored
  cut_told before after why part None (Some b) (Some c) kept finds first stored = absurd kept
  cut_told before after why part (Some a) (Some b) (Some c) kept finds first stored = record {
    fault = subst (λ files. work.First files None) kept finds.0;
    chip = chip;
    text = text;
    shows = subst (λ files. work.Shows files chip text) kept finds.1;
    part = inr (why, first, subst (λ files. Stores work.target chip files c) kept stored);
  }

  stored_in_part : (before after : World) → StoreFailed before after → (x m y : Option Files) → Keeps x m → Finds m
      → WhereTold (StoresPart work.target chip) m y
      → WhereTold (λ old new. IsCutShort work before after old new []) x y
  stored_in_part before after why x m None kept finds stored = tt
  stored_in_part before after why x None (Some c) kept finds stored = absurd stored
  stored_in_part before after why None (Some b) (Some c) kept finds stored = absurd kept
  stored_in_part before after why (Some a) (Some b) (Some c) kept finds stored = record {
    fault = subst (λ files. work.First files None) kept finds.0;
    chip = chip;
    text = text;
    shows = subst (λ files. work.Shows files chip text) kept finds.1;
    part = inl (why, refl, subst (λ files. StoresPart work.target chip files c) kept stored);
  }

  -- the whole text was printed
  pub leaves_done : {T E : Type 0} (v : T) (w : Unit {0}) (before after : World) (m : Option Files)
      → Keeps before.files m → Finds m → WhereTold (Stores work.target chip) m after.files
      → TakesAll {T = T} {E = E} Gains before.text after.text text (Ok v) → Leaves (Ends work (Ok w)) before after
  leaves_done v w before after m kept finds stored taken = record {
    printed = text;
    gained = gained v before.text after.text text taken;
    told = done_told before.files m after.files kept finds stored;
  }

  -- a part of the text was printed
  pub leaves_cut : {T E : Type 0} (e : E) (result : Result (Unit {0}) Halt) (before after : World) (m : Option Files)
      → IsErrAnd result (λ h. h ≡ WriteFault) → PrintFailed before after → Keeps before.files m → Finds m
      → WhereTold (Stores work.target chip) m after.files
      → TakesAll {T = T} Gains before.text after.text text (Err e) → Leaves (Ends work result) before after
  leaves_cut e result before after m is why kept finds stored taken = record {
    printed = take taken.count text;
    gained = taken.taken;
    told = subst
        (λ res. WhereTold (λ old new. Ends work res before after old new (take taken.count text))
        before.files after.files)
        (sym (err_is result WriteFault is))
        (cut_told before after why (take taken.count text) before.files m after.files kept finds
        (taken.count, taken.cut, refl) stored);
  }

  -- a part of the file was stored
  pub leaves_stored_in_part : (result : Result (Unit {0}) Halt) (before after : World) (m : Option Files)
      → IsErrAnd result (λ h. h ≡ WriteFault) → StoreFailed before after → Keeps before.files m → Finds m
      → WhereTold (StoresPart work.target chip) m after.files → Leaves (Ends work result) before after
  leaves_stored_in_part result before after m is why kept finds stored = record {
    printed = [];
    gained = subst (λ text. WhereTold (Gains []) before.text text) (sym why.text) (gains_nothing before.text);
    told = subst (λ res. WhereTold (λ old new. Ends work res before after old new []) before.files after.files)
        (sym (err_is result WriteFault is))
        (stored_in_part before after why before.files m after.files kept finds stored);
  }

pub nothing_printed : (x : Option (List ℕ)) → TakesAll {T = Unit {0}} {E = Failed} Gains x x [] (Ok tt)
nothing_printed x = record { count = 0; within = omega arith; all = refl; cut = tt; taken = gains_nothing x }
