-- Texts that are written one behind another.
use Rattle.std.proofs.Common.{◌≡◌, ◌∙◌, ℕ, ◌+◌, ◌<◌, List, ◌++◌, length, take, Option, Result, Ok, Err, refl, sym, ap}
use Rattle.std.proofs.Common.{subst, arith}
use Rattle.std.proofs.lemmas.List.{length-append, take-append-le}
use Rattle.std.proofs.Math.Seq.{take-length, take-append-add}
use Rattle.std.specs.Prelude.{OnOk, OnErr}
use Rattle.outside.specs.Outside.{WhereTold, Gains, HasCause}
use Rattle.outside.specs.Piece.{TakesAll}
use Rattle.outside.proofs.Told.{gains_twice}

-- a text that was written whole was gained
pub gained : {T E : Type 0} (v : T) (x y : Option (List ℕ)) (text : List ℕ)
    → TakesAll {T = T} {E = E} Gains x y text (Ok v)
    → WhereTold (Gains text) x y
gained v x y text taken =
    let P : List ℕ → Type 0 = λ t. WhereTold (Gains t) x y in
    subst P (ap (λ n. take n text) taken.all ∙ take-length text) taken.taken

-- a text that was gained was written whole
pub written : {T E : Type 0} (v : T) (x y : Option (List ℕ)) (text : List ℕ) → WhereTold (Gains text) x y
    → TakesAll {T = T} {E = E} Gains x y text (Ok v)
written v x y text gains = record {
  count = length text;
  within = omega arith;
  all = refl;
  cut = tt;
  taken = let P : List ℕ → Type 0 = λ t. WhereTold (Gains t) x y in subst P (sym (take-length text)) gains;
}

-- a text behind one that was gained
pub gained_then : {T E : Type 0} (x y z : Option (List ℕ)) (a b : List ℕ) (r : Result T E) → WhereTold (Gains a) x y
    → TakesAll {T = T} {E = E} Gains y z b r → TakesAll {T = T} {E = E} Gains x z (a ++ b) r
gained_then {T} {E} x y z a b r first next = record {
  count = length a + next.count;
  within = omega (arith, length-append a b, next.within);
  all = whole r next.all;
  cut = part r next.cut;
  taken = rw take-append-add (gains_twice a (take next.count b) x y z first next.taken);
}
  where
    whole : (q : Result T E) → OnOk q (next.count ≡ length b) → OnOk q (length a + next.count ≡ length (a ++ b))
    whole (Ok v) e = omega (arith, e, length-append a b)
    whole (Err f) e = tt

    part : (q : Result T E) → OnErr q (next.count < length b) → OnErr q (length a + next.count < length (a ++ b))
    part (Ok v) e = tt
    part (Err f) e = omega (arith, e, length-append a b)

-- a text behind one that was written whole
pub written_then : {S F T E : Type 0} (v : S) (x y z : Option (List ℕ)) (a b : List ℕ) (r : Result T E)
    → TakesAll {T = S} {E = F} Gains x y a (Ok v) → TakesAll {T = T} {E = E} Gains y z b r
    → TakesAll {T = T} {E = E} Gains x z (a ++ b) r
written_then v x y z a b r first next = gained_then x y z a b r (gained v x y a first) next

-- a text that was cut short, before another
pub cut_before : {S F T E : Type 0} (e : F) (f : E) (x y : Option (List ℕ)) (a later : List ℕ)
    → TakesAll {T = S} {E = F} Gains x y a (Err e) → TakesAll {T = T} {E = E} Gains x y (a ++ later) (Err f)
cut_before e f x y a later taken = record {
  count = taken.count;
  within = omega (arith, length-append a later, taken.within);
  all = tt;
  cut = omega (arith, length-append a later, taken.cut);
  taken = let P : List ℕ → Type 0 = λ t. WhereTold (Gains t) x y in subst P
      (sym (take-append-le taken.count a later taken.within)) taken.taken;
}

-- a text was gained, and the next one, before another, was cut short
pub cut_behind : {S F T E : Type 0} (e : F) (f : E) (x y z : Option (List ℕ)) (a b later : List ℕ)
    → WhereTold (Gains a) x y
    → TakesAll {T = S} {E = F} Gains y z b (Err e) → TakesAll {T = T} {E = E} Gains x z (a ++ (b ++ later)) (Err f)
cut_behind {S} {F} {T} {E} e f x y z a b later first next =
    gained_then {T = T} x y z a (b ++ later) (Err f) first (cut_before {S = S} {T = T} e f y z b later next)

-- the cause of a fault behind calls that met none
pub cause_then : {S F T E : Type 0} (a b c : ℕ) (e : F) (f : E) → b ≡ a → HasCause {T = S} {E = F} b c (Err e)
    → HasCause {T = T} {E = E} a c (Err f)
cause_then {S} {F} {T} {E} a b c e f same cause =
    let P : ℕ → Type 0 = λ n. HasCause {T = T} {E = E} n c (Err f) in
    subst P same (record { later = cause.later; ok = tt; failed = cause.failed })
