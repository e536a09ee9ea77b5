-- A text that is cut short.
use Rattle.std.proofs.Common.{◌≡◌, ◌∙◌, ℕ, ◌+◌, ◌<◌, ◌≤◌, List, ◌++◌, length, take, Option, Err, sym, ap, subst, arith}
use Rattle.std.proofs.lemmas.List.{length-append, take-append-le}
use Rattle.std.proofs.Math.Seq.{take-append-add}
use Rattle.outside.specs.Outside.{WhereTold, Gains}
use Rattle.outside.specs.Piece.{TakesAll}
use Rattle.outside.proofs.Told.{gains_twice}

-- a first text was gained, and of the next, before another, a first part, but not all
pub cut_short : {T E : Type 0} (e f : E) (x y z : Option (List ℕ)) (a b later all : List ℕ) → a ++ (b ++ later) ≡ all
    → WhereTold (Gains a) x y → TakesAll {T = T} {E = E} Gains y z b (Err e)
    → (t : TakesAll {T = T} {E = E} Gains x z all (Err f)) × (length a ≤ t.count)
cut_short e f x y z a b later all is p q =
    let le : q.count ≤ length b = q.within in
    let lt : q.count < length b = q.cut in
    let most : length (a ++ (b ++ later)) ≡ length a + length (b ++ later) = length-append a (b ++ later) in
    let more : length (b ++ later) ≡ length b + length later = length-append b later in
    let long : length (a ++ (b ++ later)) ≡ length all = ap length is in
    let P : List ℕ → Type 0 = λ text. WhereTold (Gains text) x z in
    let part : take (length a + q.count) (a ++ (b ++ later)) ≡ a ++ take q.count b =
    take-append-add a (b ++ later) q.count ∙ ap (λ text. a ++ text) (take-append-le q.count b later le) in (
      record {
        count = length a + q.count;
        within = omega (arith, le, most, more, long);
        all = tt;
        cut = omega (arith, lt, most, more, long);
        taken = subst P (sym part ∙ ap (take (length a + q.count)) is) (gains_twice a (take q.count b) x y z p q.taken);
      },
      omega arith,
    )
