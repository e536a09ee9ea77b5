use Rattle.std.proofs.Common.{◌≡◌, ◌+◌, true, get_or, sym, ◌∙◌, arith}
use Rattle.std.proofs.lemmas.Str.Parse.{digit_at, digits_value-take-le}
use Rattle.mp_base.specs.Token.{is_digit}
use Rattle.mp_base.proofs.DigitTexts.{no_digit, more_digits, more_value}
use Rattle.cif_flat.proofs.label.natural.Goals as goal

pub returns-then-not-is_digit-clause-none : goal.returns-then-not-is_digit-clause-none
returns-then-not-is_digit-clause-none c = λ n l h.
    no_digit _ (sym c.is_digit.ensures ∙ c.if-not-is_digit.true)
    (digit_at c.args.digits.now c.loop-digit.digit-index h.0.1 c.loop-digit-test.true)

pub returns-then-number-ge-NUMBER_LIMIT-clause-none : goal.returns-then-number-ge-NUMBER_LIMIT-clause-none
returns-then-number-ge-NUMBER_LIMIT-clause-none c = λ n l h.
    let is : is_digit (get_or c.args.digits.now c.loop-digit.digit-index 0) ≡ true =
    sym c.is_digit.ensures ∙ c.if-not-is_digit.false in
    let value = more_value c.args.digits.now c.loop-digit.digit-index c.loop-digit-test.true is in
    let front = digits_value-take-le 10 c.args.digits.now (c.loop-digit.digit-index + 1) (omega arith) in
    omega (arith, value, front, h.1, c.loop-digit.invariant.number)

pub loop-digit-preserved : goal.loop-digit-preserved
loop-digit-preserved c =
    let is : is_digit (get_or c.args.digits.now c.loop-digit.digit-index 0) ≡ true =
    sym c.is_digit.ensures ∙ c.if-not-is_digit.false in
    let value = more_value c.args.digits.now c.loop-digit.digit-index c.loop-digit-test.true is in
    record {
      digits =
          more_digits c.args.digits.now c.loop-digit.digit-index c.loop-digit-test.true is
          c.loop-digit.invariant.digits;
      number = omega (arith, value, c.loop-digit.invariant.number);
      below = omega arith;
    }
