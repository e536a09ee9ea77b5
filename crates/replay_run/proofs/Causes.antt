-- The cause of a fault, of calls one after another.
use Rattle.std.proofs.Common.{◌≡◌, ℕ, sym, subst, Result, Ok, Err}
use Rattle.outside.specs.Outside.{HasCause}

-- behind a call that met none
pub cause_behind : {S F T E : Type 0} (v : S) (a b c : ℕ) (r : Result T E) → HasCause {T = S} {E = F} a b (Ok v)
    → HasCause {T = T} {E = E} b c r → HasCause {T = T} {E = E} a c r
cause_behind {S} {F} {T} {E} v a b c r first next =
    let P : ℕ → Type 0 = λ n. HasCause {T = T} {E = E} n c r in subst P first.ok next

-- of an error that was passed on
pub cause_passed : {S F T E : Type 0} (e : F) (f : E) (a b : ℕ) (r : Result T E) → r ≡ Err f
    → HasCause {T = S} {E = F} a b (Err e) → HasCause {T = T} {E = E} a b r
cause_passed {S} {F} {T} {E} e f a b r is cause =
    let P : Result T E → Type 0 = λ q. HasCause {T = T} {E = E} a b q in
    subst P (sym is) (record { later = cause.later; ok = tt; failed = cause.failed })
