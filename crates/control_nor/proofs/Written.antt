-- What is written to a bit, as the OR of the transfers that are active.
use Rattle.std.proofs.Common.{◌≡◌, ℕ, zero, suc, ◌<◌, List, [], ◌∷◌, Option, Some, None, Bool, true, false, cond, eqb}
use Rattle.std.proofs.Common.{refl, sym, ◌∙◌, ap, arith}
use Rattle.std.specs.Prelude.{Contains, not, ◌&&◌, ◌||◌, ◌==◌, bit_or, unwrap_or}
use Rattle.std.specs.List.{list_any}
use Rattle.std.proofs.lemmas.Bool.{eqb-true}
use Rattle.mp_base.specs.Merge.{join, merged}
use Rattle.mp_base.proofs.Contents.{contains_head, contains_behind}
use Rattle.rtl_form.specs.declared.rtl.Transfer.{Transfer}
use Rattle.rtl_form.specs.Digits.{digit, writes_one}
use Rattle.rtl_form.specs.Written.{writes, written}
use Rattle.rtl_form.proofs.Digits.{written_digits}
use Rattle.bit_gates.specs.Cells.{transfers_to}
use Rattle.control_nor.specs.Meaning.{is_active}
use Rattle.control_nor.specs.NextValues.{is_guarded}

-- the digit of a bit
pub digit_of : (x : ℕ) → x < 2 → digit x 0 ≡ (x == 1)
digit_of zero l = refl
digit_of (suc zero) l = refl
digit_of (suc (suc x)) l = absurd (omega arith)

module _ (value : ℕ → ℕ) (c : ℕ) where
  abbrev Small : List Transfer → Type 0
  Small ts = (t : Transfer) → Contains ts t → t.target ≡ c → value t.value < 2

  rest : (t : Transfer) (ts : List Transfer) → Small (t ∷ ts) → Small ts
  rest t ts h u k = h u (contains_behind u t ts k)

  -- those that write a 1 are the active ones among those to the cell
  pub ones_are : (ts : List Transfer) → Small ts → list_any (writes_one value c 0) ts
      ≡ list_any (is_active value) (transfers_to ts c)
  ones_are [] h = refl
  ones_are (t ∷ ts) h = by_target (eqb t.target c) refl (ones_are ts (rest t ts h))
    where
      by_target : (b : Bool) → eqb t.target c ≡ b → list_any (writes_one value c 0) ts
          ≡ list_any (is_active value) (transfers_to ts c)
          → (((b && (value t.guard == 1)) && digit (value t.value) 0) || list_any (writes_one value c 0) ts)
          ≡ list_any (is_active value) (cond b (t ∷ transfers_to ts c) (transfers_to ts c))
      by_target true e q =
          ap (λ d. ((value t.guard == 1) && d) || list_any (writes_one value c 0) ts)
          (digit_of (value t.value) (h t (contains_head t ts) (eqb-true t.target c e)))
          ∙ ap (λ d. ((value t.guard == 1) && (value t.value == 1)) || d) q
      by_target false e q = q

  pub guarded_are : (ts : List Transfer) → list_any (writes value c) ts
      ≡ list_any (is_guarded value) (transfers_to ts c)
  guarded_are [] = refl
  guarded_are (t ∷ ts) = by_target (eqb t.target c) (guarded_are ts)
    where
      by_target : (b : Bool) → list_any (writes value c) ts ≡ list_any (is_guarded value) (transfers_to ts c)
          → ((b && (value t.guard == 1)) || list_any (writes value c) ts)
          ≡ list_any (is_guarded value) (cond b (t ∷ transfers_to ts c) (transfers_to ts c))
      by_target true q = ap (λ d. (value t.guard == 1) || d) q
      by_target false q = q

  -- what is written is a bit
  abbrev IsBit : Option ℕ → Type 0
  IsBit None = Unit {0}
  IsBit (Some x) = x < 2

  or_small : (x y : ℕ) → x < 2 → y < 2 → bit_or x y < 2
  or_small zero zero l m = omega arith
  or_small zero (suc zero) l m = omega arith
  or_small (suc zero) zero l m = omega arith
  or_small (suc zero) (suc zero) l m = omega arith
  or_small zero (suc (suc y)) l m = absurd (omega arith)
  or_small (suc zero) (suc (suc y)) l m = absurd (omega arith)
  or_small (suc (suc x)) y l m = absurd (omega arith)

  join_small : (x : ℕ) (o : Option ℕ) → x < 2 → IsBit o → IsBit (join (Some x) o)
  join_small x None l h = l
  join_small x (Some y) l h = or_small x y l h

  written_small : (ts : List Transfer) → Small ts → IsBit (merged (written value c ts))
  written_small [] h = tt
  written_small (t ∷ ts) h = by_test (eqb t.target c) refl (value t.guard == 1) (written_small ts (rest t ts h))
    where
      by_test : (b : Bool) → eqb t.target c ≡ b → (g : Bool) → IsBit (merged (written value c ts))
          → IsBit (merged (cond (b && g) (value t.value ∷ written value c ts) (written value c ts)))
      by_test true e true q =
          join_small (value t.value) (merged (written value c ts)) (h t (contains_head t ts) (eqb-true t.target c e)) q
      by_test true e false q = q
      by_test false e g q = q

  unwrap_small : (o : Option ℕ) (d : ℕ) → IsBit o → d < 2 → unwrap_or o d < 2
  unwrap_small None d h l = l
  unwrap_small (Some x) d h l = h

  -- what is written, or what was there where nothing is
  pub written_is : (ts : List Transfer) (d : ℕ) → Small ts → d < 2
      → (unwrap_or (merged (written value c ts)) d == 1)
      ≡ (list_any (is_active value) (transfers_to ts c) ||
      (not (list_any (is_guarded value) (transfers_to ts c)) && (d == 1)))
  written_is ts d h l =
      sym (digit_of (unwrap_or (merged (written value c ts)) d)
      (unwrap_small (merged (written value c ts)) d (written_small ts h) l))
      ∙ (written_digits value c d 0 ts
      ∙ (ap (λ b. b || (not (list_any (writes value c) ts) && digit d 0)) (ones_are ts h)
      ∙ (ap (λ b. list_any (is_active value) (transfers_to ts c) || (not b && digit d 0)) (guarded_are ts)
      ∙ ap (λ b. list_any (is_active value) (transfers_to ts c)
      || (not (list_any (is_guarded value) (transfers_to ts c)) && b)) (digit_of d l))))
