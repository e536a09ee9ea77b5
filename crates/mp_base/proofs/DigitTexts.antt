-- Digits of a text, and what they say, for all crates above.
use Rattle.std.proofs.Common.{ℕ, ◌≡◌, true, ◌-◌, ◌∙◌, arith, false, inl, inr, List, ◌<◌, length}
use Rattle.std.proofs.Common.{get_or, take, ◌+◌, ◌*◌, ap}
use Rattle.std.specs.Char.{digit_value}
use Rattle.std.proofs.lemmas.Bool.{and_parts, cond-false, le-ltb, leb-true, cond-true, lt-ltb}
use Rattle.std.proofs.lemmas.Bool.{and_cases, leb-false}
use Rattle.std.specs.Prelude.{nat_le, nat_lt}
use Rattle.std.specs.Int.{IsInRange}
use Rattle.std.specs.Str.Parse.{AllDigits, digits_value}
use Rattle.std.proofs.lemmas.Int.Digits.{digits_more, digits_value_more}
use Rattle.mp_base.specs.Token.{is_digit}

pub digit_is : (c : ℕ) → is_digit c ≡ true → digit_value c ≡ c - 48
digit_is c h =
    let parts = and_parts (nat_le 48 c) (nat_le c 57) h in
    cond-false (nat_lt c 48) 36 _ (le-ltb c 48 (leb-true 48 c parts.0))
    ∙ cond-true (nat_lt c 58) (c - 48) _ (lt-ltb c 58 (omega (arith, leb-true c 57 parts.1)))

pub digit_range : (c : ℕ) → is_digit c ≡ true → IsInRange 48 57 c
digit_range c is = let h = and_parts _ _ is in (leb-true 48 c h.0, leb-true c 57 h.1)

pub no_digit : (c : ℕ) → is_digit c ≡ false → IsInRange 48 57 c → ⊥
no_digit c not h = elim (and_cases _ _ not) [
  | inl low ↦ omega (arith, leb-false 48 c low, h.0)
  | inr high ↦ omega (arith, leb-false c 57 high, h.1)
]

-- a digit more
pub more_digits : (ds : List ℕ) (i : ℕ) → i < length ds → is_digit (get_or ds i 0) ≡ true → AllDigits 10 (take i ds)
    → AllDigits 10 (take (i + 1) ds)
more_digits ds i lt is before =
    let h = digit_range (get_or ds i 0) is in
    digits_more 10 ds i lt before (omega (arith, digit_is (get_or ds i 0) is, h.0, h.1))

pub more_value : (ds : List ℕ) (i : ℕ) → i < length ds → is_digit (get_or ds i 0) ≡ true
    → digits_value 10 (take (i + 1) ds) ≡ digits_value 10 (take i ds) * 10 + (get_or ds i 0 - 48)
more_value ds i lt is =
    digits_value_more 10 ds i lt ∙ ap (λ d. digits_value 10 (take i ds) * 10 + d) (digit_is (get_or ds i 0) is)
