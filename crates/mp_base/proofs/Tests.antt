-- Tests, and what they count, for all crates above.
use Rattle.std.proofs.Common.{Bool, ◌||◌, true, ◌≡◌, refl, false, ◌<◌, arith, sym, ℕ, ◌≤◌, ◌+◌, ◌⊎◌}
use Rattle.std.proofs.Common.{inl, ap, inr, cond}
use Rattle.std.specs.Prelude.{◌&&◌, ◌↔◌, nat_le, nat_lt, if◌then◌else◌, ◌||◌}
use Rattle.std.proofs.lemmas.Bool.{and_parts, both_ways}
use Rattle.std.specs.Bool.{Decides}
use Rattle.std.proofs.lemmas.Bool.Decides.{nat_tests}
use mathlib.Core.Bool.{beq}
use mir.Val.{bool_byte}
use Rattle.mp_base.specs.Apply.{truth}

pub or_true : (b : Bool) → (b || true) ≡ true
or_true true = refl
or_true false = refl

pub or_false : (b : Bool) → (b || false) ≡ b
or_false true = refl
or_false false = refl

pub or_group : (a b c : Bool) → (a || (b || c)) ≡ ((a || b) || c)
or_group true b c = refl
or_group false b c = refl

pub and_left : (a b : Bool) → (a && b) ≡ true → a ≡ true
and_left a b h = (and_parts a b h).0

pub and_right : (a b : Bool) → (a && b) ≡ true → b ≡ true
and_right a b h = (and_parts a b h).1

pub same_byte : (b : Bool) → bool_byte b ≡ truth b
same_byte true = refl
same_byte false = refl

pub truth_small : (b : Bool) → truth b < 2
truth_small true = omega arith
truth_small false = omega arith

pub same_test : {P : Type 0} (a b : Bool) → (a ≡ true) ↔ P → (b ≡ true) ↔ P → a ≡ b
same_test true true f g = refl
same_test false false f g = refl
same_test true false f g = sym (g.1 (f.0 refl))
same_test false true f g = f.1 (g.0 refl)

pub same_bool : (a b : Bool) → beq a b ≡ true → a ≡ b
same_bool true true e = refl
same_bool false false e = refl
same_bool true false e = absurd (both_ways false refl e)
same_bool false true e = absurd (both_ways false refl e)

pub decides_at_most : (m n : ℕ) → Decides (nat_le m n) (m ≤ n)
decides_at_most m n = (λ e. grind (arith, nat_tests), λ l. grind (arith, nat_tests))

pub truth_apart : (a b : ℕ) → truth (nat_lt a b) + truth (nat_lt b a) < 2
truth_apart a b =
    by_order (Rattle.std.proofs.lemmas.Bool.cases_lt a b)
  where
    by_order : (a < b) ⊎ (b ≤ a) → truth (nat_lt a b) + truth (nat_lt b a) < 2
    by_order (inl l) =
        let e : truth (nat_lt b a) ≡ 0 = ap truth (Rattle.std.proofs.lemmas.Bool.le-ltb b a (omega arith)) in
        let t = truth_small (nat_lt a b) in omega (arith, e, t)
    by_order (inr l) =
        let e : truth (nat_lt a b) ≡ 0 = ap truth (Rattle.std.proofs.lemmas.Bool.le-ltb a b l) in
        let t = truth_small (nat_lt b a) in omega (arith, e, t)

pub if_at_most_one : (b : Bool) → (if b then 1 else 0) ≤ 1
if_at_most_one true = omega arith
if_at_most_one false = omega arith

pub false_true : false ≡ true → ⊥
false_true e = cc e

pub true_false : true ≡ false → ⊥
true_false e = cc e

pub bit_at_most_one : (t : Bool) → cond t 1 0 ≤ 1
bit_at_most_one true = omega arith
bit_at_most_one false = omega arith

pub same_bools : (a b : Bool) → (a ≡ true → b ≡ true) → (b ≡ true → a ≡ true) → a ≡ b
same_bools true b there back = sym (there refl)
same_bools false true there back = back refl
same_bools false false there back = refl

pub cond_true_is_or : (a b : Bool) → cond b true a ≡ (a || b)
cond_true_is_or true true = refl
cond_true_is_or true false = refl
cond_true_is_or false true = refl
cond_true_is_or false false = refl
