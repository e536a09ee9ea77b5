-- The digits of numbers, as bytes of lines.
use Rattle.std.proofs.Common.{◌≡◌, ℕ, ◌+◌, ◌%◌, ◌<◌, ◌^◌, List, [], ◌∷◌, ◌++◌, Bool, true, false, refl, ◌∙◌, ap, length}
use Rattle.std.proofs.Common.{arith, lit<, length-append}
use Rattle.std.specs.Prelude.{not, ◌&&◌, ◌||◌, ◌==◌, nat_le, decimal}
use Rattle.std.specs.List.{list_all}
use Rattle.std.proofs.lemmas.Bool.{and_parts, leb-true, le-leb, ne_eqb, and_from}
use Rattle.std.proofs.lemmas.Fmt.{decimal_by_steps}
use Rattle.mp_base.specs.Token.{is_digit}
use Rattle.stimulus_lines.specs.Words.{is_blank}
use Rattle.mp_base.specs.Lines.{is_feed}

pub all_append : (test : ℕ → Bool) (xs ys : List ℕ) → list_all test xs ≡ true → list_all test ys ≡ true
    → list_all test (xs ++ ys) ≡ true
all_append test [] ys h g = g
all_append test (x ∷ xs) ys h g =
    let p = and_parts (test x) (list_all test xs) h in
    and_from (test x) (list_all test (xs ++ ys)) p.0 (all_append test xs ys p.1 g)

pub all_weaker : (test other : ℕ → Bool) (xs : List ℕ) → ((x : ℕ) → test x ≡ true → other x ≡ true)
    → list_all test xs ≡ true → list_all other xs ≡ true
all_weaker test other [] weaker h = refl
all_weaker test other (x ∷ xs) weaker h =
    let p = and_parts (test x) (list_all test xs) h in
    and_from (other x) (list_all other xs) (weaker x p.0) (all_weaker test other xs weaker p.1)

digit_is : (n : ℕ) → n < 10 → is_digit (48 + n) ≡ true
digit_is n h = and_from (nat_le 48 (48 + n)) (nat_le (48 + n) 57) (le-leb 48 (48 + n) (omega arith))
    (le-leb (48 + n) 57 (omega (arith, h)))

-- a numeral is of digits, of which there is one
record IsDigits (ds : List ℕ) : Type 0 where
  pub digits : list_all is_digit ds ≡ true
  pub some : 0 < length ds

digits_are : (n : ℕ) → n < 2 ^ 64 → IsDigits (decimal n)
digits_are n small = decimal_by_steps (λ n ds. IsDigits ds)
    (λ n h. record { digits = and_from (is_digit (48 + n)) true (digit_is n h) refl; some = lit< tt })
    (λ n ds h d. record {
      digits = all_append is_digit ds ((48 + n % 10) ∷ []) d.digits
          (and_from (is_digit (48 + n % 10)) true (digit_is (n % 10) (omega arith)) refl);
      some = omega (arith, length-append ds ((48 + n % 10) ∷ []));
    }) n small

pub decimal_digits : (n : ℕ) → n < 2 ^ 64 → list_all is_digit (decimal n) ≡ true
decimal_digits n small = (digits_are n small).digits

-- a digit is none of the bytes that end words and lines
pub digit_not : (c x : ℕ) → (c < 48) → is_digit x ≡ true → (x == c) ≡ false
digit_not c x low h = ne_eqb x c (λ e. let p = and_parts (nat_le 48 x) (nat_le x 57) h in let le = leb-true 48 x p.0 in
    absurd (omega (arith, le, low, e)))

abbrev pub is_inner : ℕ → Bool
is_inner x = not (is_blank x) && (not (is_feed x) && not (x == 13))

pub digit_inner : (x : ℕ) → is_digit x ≡ true → is_inner x ≡ true
digit_inner x h =
    let space : (x == 32) ≡ false = digit_not 32 x (lit< tt) h in
    let tab : (x == 9) ≡ false = digit_not 9 x (lit< tt) h in
    let feed : (x == 10) ≡ false = digit_not 10 x (lit< tt) h in
    let return : (x == 13) ≡ false = digit_not 13 x (lit< tt) h in
    and_from (not (is_blank x)) (not (is_feed x) && not (x == 13)) (ap (λ b. not (b || (x == 9))) space ∙ ap not tab)
    (and_from (not (is_feed x)) (not (x == 13)) (ap not feed) (ap not return))

pub decimal_inner : (n : ℕ) → n < 2 ^ 64 → list_all is_inner (decimal n) ≡ true
decimal_inner n small = all_weaker is_digit is_inner (decimal n) digit_inner (decimal_digits n small)
