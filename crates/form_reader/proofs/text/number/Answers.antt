use Rattle.std.proofs.Common.{◌≡◌, ℕ, ◌+◌, ◌-◌, ◌*◌, ◌<◌, ◌^◌, List, true, arith, get_or, take, length, ◌∙◌, ap, sym}
use Rattle.std.specs.List.{list_all}
use Rattle.std.specs.Str.Parse.{digits_value}
use Rattle.std.specs.Char.{digit_value}
use Rattle.std.proofs.lemmas.Int.Digits.{digits_value_more}
use Rattle.std.proofs.lemmas.Str.Parse.{digits_value-take-le}
use Rattle.mp_base.specs.Token.{is_digit}
use Rattle.mp_base.proofs.DigitTexts.{digit_is}
use Rattle.form_reader.proofs.Gaps.{list_all_at}
use Rattle.form_reader.proofs.text.number.Goals as goal

-- one digit more
step : (xs : List ℕ) (i number : ℕ) → i < length xs → list_all is_digit xs ≡ true
    → number ≡ digits_value 10 (take i xs) → digits_value 10 (take (i + 1) xs) ≡ number * 10 + (get_or xs i 0 - 48)
step xs i number lt digits is =
    digits_value_more 10 xs i lt ∙ ap (λ z. z * 10 + digit_value (get_or xs i 0)) (sym is)
    ∙ ap (λ z. number * 10 + z) (digit_is (get_or xs i 0) (list_all_at is_digit xs i digits lt))

pub loop-digit-preserved : goal.loop-digit-preserved
loop-digit-preserved c =
    let next =
    step c.args.digits.now c.loop-digit.digit-index c.loop-digit.number c.loop-digit-test.true c.requires
    c.loop-digit.invariant in
    let tens = c.in_ok-checked_mul.ensures in
    let sum = c.in_ok-number.ensures in
    omega (arith, next, tens, sum)

pub returns-in_err-checked_mul : goal.returns-in_err-checked_mul
returns-in_err-checked_mul c =
    let next =
    step c.args.digits.now c.loop-digit.digit-index c.loop-digit.number c.loop-digit-test.true c.requires
    c.loop-digit.invariant in
    let past : c.loop-digit.number * 10 < 2 ^ 64 → ⊥ = c.in_err-checked_mul.ensures in
    rw c.from_residual.ensures
    (omega (arith, next, past, digits_value-take-le 10 c.args.digits.now (c.loop-digit.digit-index + 1) (omega arith)))

pub returns-in_err-number : goal.returns-in_err-number
returns-in_err-number c =
    let next =
    step c.args.digits.now c.loop-digit.digit-index c.loop-digit.number c.loop-digit-test.true c.requires
    c.loop-digit.invariant in
    let tens = c.in_ok-checked_mul.ensures in
    let past : c.in_ok-checked_mul.field-0 + (get_or c.args.digits.now c.loop-digit.digit-index 0 - 48) < 2 ^ 64
    → ⊥ = c.in_err-number.ensures in
    rw c.from_residual-in_err-number.ensures
    (omega (
      arith,
      next,
      tens,
      past,
      digits_value-take-le 10 c.args.digits.now (c.loop-digit.digit-index + 1)
          (omega arith),
    ))
