-- Texts that were cut short, before others, for all crates above.
use Rattle.std.proofs.Common.{Option, List, ℕ, Result, ◌≡◌, Err, ◌++◌, subst, sym}
use Rattle.outside.specs.Piece.{TakesAll}
use Rattle.outside.specs.Outside.{Gains}
use Rattle.outside.proofs.Written.{cut_before}

-- a text that was cut short, before another, where the answer is an error that is known
pub cut_at : {T E : Type 0} (x y : Option (List ℕ)) (a later : List ℕ) (e f : E) (r : Result T E) → r ≡ Err f
    → TakesAll {T = T} {E = E} Gains x y a (Err e) → TakesAll {T = T} {E = E} Gains x y (a ++ later) r
cut_at {T} {E} x y a later e f r is taken =
    let P : Result T E → Type 0 = λ q. TakesAll {T = T} {E = E} Gains x y (a ++ later) q in
    subst P (sym is) (cut_before {S = T} {T = T} e f x y a later taken)
