use Rattle.std.proofs.Common.{◌≡◌, ◌+◌, ◌-◌, ◌*◌, ◌<◌, ◌^◌, true, get_or, sym, ◌∙◌, ap, subst, arith, rules}
use Rattle.std.specs.Str.Parse.{digits_value, AllDigits}
use Rattle.std.proofs.lemmas.List.{take_all}
use Rattle.mp_base.specs.Token.{is_digit}
use Rattle.mp_base.proofs.DigitTexts.{no_digit, more_digits, more_value}
use Rattle.stimulus_lines.proofs.Numbers.{number_digit, number_front}
use Rattle.stimulus_lines.proofs.form.number.Goals as goal

pub returns-then-not-is_digit : goal.returns-then-not-is_digit
returns-then-not-is_digit c = λ n h.
    no_digit _ (sym c.is_digit.ensures ∙ c.if-not-is_digit.true)
    (number_digit c.args.digits.now c.loop-digit.digit-index n c.loop-digit-test.true h)

pub returns-in_err-checked_mul : goal.returns-in_err-checked_mul
returns-in_err-checked_mul c =
    let past : c.loop-digit.number * 10 < 2 ^ 64 → ⊥ = c.in_err-checked_mul.ensures in
    let is : is_digit (get_or c.args.digits.now c.loop-digit.digit-index 0) ≡ true =
    sym c.is_digit.ensures ∙ c.if-not-is_digit.false in
    let value = more_value c.args.digits.now c.loop-digit.digit-index c.loop-digit-test.true is in
    rw c.from_residual.ensures
    (λ n h. omega (
      arith,
      past,
      value,
      c.loop-digit.invariant.number,
      number_front c.args.digits.now
          (c.loop-digit.digit-index + 1) n h,
    ))

pub returns-in_err-number : goal.returns-in_err-number
returns-in_err-number c =
    let past : c.in_ok-checked_mul.field-0 + (get_or c.args.digits.now c.loop-digit.digit-index 0 - 48) < 2 ^ 64
    → ⊥ = c.in_err-number.ensures in
    let is : is_digit (get_or c.args.digits.now c.loop-digit.digit-index 0) ≡ true =
    sym c.is_digit.ensures ∙ c.if-not-is_digit.false in
    let value = more_value c.args.digits.now c.loop-digit.digit-index c.loop-digit-test.true is in
    rw c.from_residual-in_err-number.ensures
    (λ n h. omega (
      arith,
      past,
      value,
      c.in_ok-checked_mul.ensures,
      c.loop-digit.invariant.number,
      number_front c.args.digits.now
          (c.loop-digit.digit-index + 1) n h,
    ))

pub loop-digit-preserved : goal.loop-digit-preserved
loop-digit-preserved c =
    let is : is_digit (get_or c.args.digits.now c.loop-digit.digit-index 0) ≡ true =
    sym c.is_digit.ensures ∙ c.if-not-is_digit.false in
    let value = more_value c.args.digits.now c.loop-digit.digit-index c.loop-digit-test.true is in
    record {
      digits =
          more_digits c.args.digits.now c.loop-digit.digit-index c.loop-digit-test.true is
          c.loop-digit.invariant.digits;
      number = omega (arith, value, c.in_ok-checked_mul.ensures, c.in_ok-number.ensures, c.loop-digit.invariant.number);
      below = search rules;
    }

pub returns : goal.returns
returns c =
    let all = take_all c.loop-digit.digit-index c.args.digits.now c.loop-digit-test.false in (
      (search rules, subst (λ ds. AllDigits 10 ds) all c.loop-digit.invariant.digits),
      omega
          arith,
      c.loop-digit.invariant.number ∙ ap (digits_value 10) all,
      c.loop-digit.invariant.below,
    )
