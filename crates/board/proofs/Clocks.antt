-- The numbers that words of five digits spell.
use Rattle.std.proofs.Common.{◌≡◌, ℕ, ◌<◌, ◌≤◌, ◌^◌, ◌==◌, arith, rules, true, false, List, length, [], ◌∷◌, None, Err}
use Rattle.std.proofs.Common.{inl, inr, true≢false}
use Rattle.std.specs.Char.{is_ascii_digit}
use Rattle.std.specs.List.{list_all}
use Rattle.std.specs.Str.Parse.{ParsesUnsigned, digits_value}
use Rattle.std.proofs.lemmas.Str.Parse.{IsNumeralModel, numerals_by_value, parse_digits, digits_value_short}
use Rattle.std.proofs.lemmas.Bool.{cases_lt}
use Rattle.board.specs.Plans.{clock_of}

digits : IsNumeralModel (λ ds. list_all is_ascii_digit ds ≡ true) (digits_value 10)
digits = numerals_by_value _ (search rules)

some_of : (word : List ℕ) → (length word == 0) ≡ false → 0 < length word
some_of [] e = absurd (true≢false e)
some_of (b ∷ bs) e = omega arith

at_least : {n most : ℕ} {P : Type 0} → (P × (n < most) → ⊥) → P → most ≤ n
at_least {n} {most} none p = elim (cases_lt n most) [
  | inl below ↦ absurd (none (p, below))
  | inr least ↦ least
]

-- such a number is read
pub unread : {E : Type 0} (word : List ℕ) (e : E) → list_all is_ascii_digit word ≡ true → (length word == 0) ≡ false
    → length word ≤ 5 → ParsesUnsigned 32 10 word (Err e) → None ≡ clock_of word
unread word e all some few fails =
    let past : 2 ^ 32 ≤ digits_value 10 word = at_least (parse_digits digits 32 word (Err e) fails all)
    (some_of word some) in
    let short : digits_value 10 word < 10 ^ 5 = digits_value_short digits word 5 all few in
    absurd (omega (arith, past, short))
