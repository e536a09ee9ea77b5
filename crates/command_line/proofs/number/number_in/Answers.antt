use Rattle.std.proofs.Common.{◌≡◌, ℕ, ◌<◌, ◌≤◌, ◌^◌, arith, rules, Bool, true, false, not, ◌&&◌, List, length, [], ◌∷◌}
use Rattle.std.proofs.Common.{◌∙◌, ◌==◌, Some, None, Err, inl, inr, true≢false, cond, nat_lt, refl, sym, lt-ltb}
use Rattle.std.specs.Char.{is_ascii_digit}
use Rattle.std.specs.List.{list_all}
use Rattle.std.specs.Str.Parse.{ParsesUnsigned, digits_value}
use Rattle.std.proofs.lemmas.Str.Parse.{IsNumeralModel, numerals_by_value, parse_digits}
use Rattle.std.proofs.lemmas.Bool.{cases_lt}
use Rattle.command_line.specs.Number.{is_within, number_in}
use Rattle.command_line.proofs.number.number_in.Goals as goal

digits : IsNumeralModel (λ ds. list_all is_ascii_digit ds ≡ true) (digits_value 10)
digits = numerals_by_value _ (search rules)

out_of_range : (a b c : Bool) (n : ℕ) → cond (a && (b && (c && false))) (Some n) None ≡ None
out_of_range false b c n = refl
out_of_range true false c n = refl
out_of_range true true false n = refl
out_of_range true true true n = refl

too_large : (most least least_digits : ℕ) (word : List ℕ) → most < digits_value 10 word
    → number_in least_digits least most word ≡ None
too_large most least k word past =
    rw (lt-ltb most (digits_value 10 word) past)
    (out_of_range (list_all is_ascii_digit word) (is_within 1 k (length word))
    (not (nat_lt (digits_value 10 word) least)) (digits_value 10 word))

some_of : (word : List ℕ) → (length word == 0) ≡ false → 0 < length word
some_of [] e = absurd (true≢false e)
some_of (b ∷ bs) e = omega arith

at_least : {n most : ℕ} {P : Type 0} → (P × (n < most) → ⊥) → P → most ≤ n
at_least {n} {most} none p = elim (cases_lt n most) [
  | inl below ↦ absurd (none (p, below))
  | inr least ↦ least
]

unread : {E : Type 0} (k least most : ℕ) (word : List ℕ) (e : E) → list_all is_ascii_digit word ≡ true
    → (length word == 0) ≡ false → most < 2 ^ 64
    → ParsesUnsigned 64 10 word (Err e) → None ≡ number_in k least most word
unread k least most word e all some few fails =
    let past : 2 ^ 64 ≤ digits_value 10 word = at_least (parse_digits digits 64 word (Err e) fails all)
    (some_of word some) in
    sym (too_large most least k word (omega arith))

pub returns-in_default-3 : goal.returns-in_default-3
returns-in_default-3 c = unread c.args.digits c.args.least c.args.most c.args.word.now c.in_default.field-0
    (search rules) (sym c.is_empty.ensures ∙ c.if-is_empty.false) (omega arith) (search rules)
