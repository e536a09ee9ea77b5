-- A file that is read piece by piece.
use Rattle.std.proofs.Common.{◌≡◌, ℕ, ◌+◌, ◌-◌, ◌≤◌, ◌<◌, List, ◌++◌, length, take, drop, refl, sym, ap, subst, ◌∙◌}
use Rattle.std.proofs.Common.{arith, Option, Some, None, Bool, true, false, nat_lt, IfSome, length-append}
use Rattle.std.proofs.Math.Seq.{take-add}
use Rattle.std.proofs.lemmas.List.{append-nil, take_all, length-drop, length-take, length-take-le}
use Rattle.std.proofs.lemmas.Bool.Decides.{nat_tests}
use Rattle.outside.specs.Outside.{Files, GivesPiece}
use Rattle.std.specs.FinMap.{get}
use Rattle.outside.specs.Transfer.{IsFront, IsReading, AddsPiece, SizeGrows}

zero_of : (n : ℕ) → nat_lt 0 n ≡ false → n ≡ 0
zero_of n e = grind (arith, nat_tests)

positive_of : (n : ℕ) → nat_lt 0 n ≡ true → 0 < n
positive_of n e = grind (arith, nat_tests)

front_grows : (bytes old piece new : List ℕ) (n : ℕ) → n ≤ length bytes - length old
    → piece ≡ take n (drop (length old) bytes) → new ≡ old ++ piece → old ≡ take (length old) bytes
    → new ≡ take (length new) bytes
front_grows bytes old piece new n within is grown front =
    let size : length new ≡ length old + n =
    ap length grown ∙ length-append old piece
    ∙ ap (λ k. length old + k) (ap length is ∙ length-take-le n _ (omega (arith, length-drop (length old) bytes))) in
    let whole : old ++ piece ≡ take (length old + n) bytes =
    rw take-add (ap (λ xs. xs ++ piece) front ∙ ap (λ xs. take (length old) bytes ++ xs) is) in
    grown ∙ whole ∙ ap (λ k. take k bytes) (sym size)

all_read : (bytes old piece new : List ℕ) (n : ℕ) → n ≡ 0 → length bytes ≤ length old
    → piece ≡ take n (drop (length old) bytes) → new ≡ old ++ piece → old ≡ take (length old) bytes → new ≡ bytes
all_read bytes old piece new n none end is grown front =
    grown ∙ ap (λ xs. old ++ xs) (is ∙ ap (λ k. take k (drop (length old) bytes)) none) ∙ append-nil old ∙ front
    ∙ take_all _ _ end

-- what a read gave goes behind what was read
pub added : (o : Option (List ℕ)) (old buf new : List ℕ) (n : ℕ) → new ≡ old ++ take n buf → 0 < length buf
    → GivesPiece o (length old) n buf → AddsPiece o old new (nat_lt 0 n)
added None old buf new n grown room gave = gave
added (Some bytes) old buf new n grown room gave = λ front. (
  front_grows bytes old (take n buf) new n gave.0 gave.1 grown front,
  λ ended.
      all_read bytes old (take n buf) new n (zero_of n ended) (gave.2 room (zero_of n ended)) gave.1 grown front,
)

sized_by : (old new room n : ℕ) (b : Bool) → nat_lt 0 n ≡ b → new ≡ old + n → n ≤ room → SizeGrows old new room b
sized_by old new room n true test e le = let h : 0 < n = positive_of n test in (omega arith, omega arith)
sized_by old new room n false test e le = let h : n ≡ 0 = zero_of n test in omega arith

pub sized : (old new room n : ℕ) → new ≡ old + n → n ≤ room → SizeGrows old new room (nat_lt 0 n)
sized old new room n e le = sized_by old new room n _ refl e le

-- more was read than the limit
pub too_long : (o : Option (List ℕ)) (text : List ℕ) (limit : ℕ) → limit < length text → IsFront o text
    → IsReading o limit None
too_long None text limit more front = let none : length text ≡ 0 = ap length front in omega arith
too_long (Some bytes) text limit more front =
    let size : length text ≡ length (take (length text) bytes) = ap length front in
    omega (arith, length-take (length text) bytes)

pub added_told : (held : Option Files) (name old buf new : List ℕ) (at n : ℕ) → at ≡ length old
    → new ≡ old ++ take n buf → 0 < length buf → IfSome held (λ files. GivesPiece (get files name) at n buf)
    → IfSome held (λ files. AddsPiece (get files name) old new (nat_lt 0 n))
added_told None name old buf new at n place grown room gave = tt
added_told (Some files) name old buf new at n place grown room gave =
    added (get files name) old buf new n grown room (subst (λ k. GivesPiece (get files name) k n buf) place gave)

pub too_long_told : (held : Option Files) (name text : List ℕ) (limit : ℕ) → limit < length text
    → IfSome held (λ files. IsFront (get files name) text)
    → IfSome held (λ files. IsReading (get files name) limit None)
too_long_told None name text limit more front = tt
too_long_told (Some files) name text limit more front = too_long (get files name) text limit more front
