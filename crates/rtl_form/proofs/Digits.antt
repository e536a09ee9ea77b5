-- What is written to a cell, bit by bit.
use Rattle.std.proofs.Common.{◌≡◌, ℕ, ◌<◌, zero, suc, List, [], ◌∷◌, Option, Some, None, Bool, true, false, cond, refl}
use Rattle.std.proofs.Common.{◌∙◌, ap, arith}
use Rattle.std.specs.Prelude.{◌&&◌, ◌||◌, ◌==◌, not, unwrap_or, bit_or, max, is_some}
use Rattle.std.specs.List.{list_any}
use Rattle.std.specs.Int.{bit_at}
use Rattle.std.proofs.lemmas.Nat.Bits.{bit_at_or, bit_at-lt}
use Rattle.mp_base.specs.Merge.{join, merged}
use Rattle.rtl_form.specs.declared.rtl.Transfer.{Transfer}
use Rattle.rtl_form.specs.Written.{writes, written}
use Rattle.rtl_form.specs.Digits.{digit, writes_one, WrittenDigits}

or_digit : (x y k : ℕ) → digit (bit_or x y) k ≡ (digit x k || digit y k)
or_digit x y k = ap (λ n. n == 1) (bit_at_or x y k)
    ∙ by_digits (bit_at x k) (bit_at y k) (bit_at-lt x k) (bit_at-lt y k)
  where
    by_digits : (a b : ℕ) → a < 2 → b < 2 → (max a b == 1) ≡ ((a == 1) || (b == 1))
    by_digits zero zero l m = refl
    by_digits zero (suc zero) l m = refl
    by_digits (suc zero) zero l m = refl
    by_digits (suc zero) (suc zero) l m = refl
    by_digits (suc (suc a)) b l m = absurd (omega arith)
    by_digits zero (suc (suc b)) l m = absurd (omega arith)
    by_digits (suc zero) (suc (suc b)) l m = absurd (omega arith)

-- the bit of what may be there
abbrev bit_of : ℕ → Option ℕ → Bool
bit_of k None = false
bit_of k (Some x) = digit x k

joined : (k x : ℕ) (o : Option ℕ) → bit_of k (join (Some x) o) ≡ (digit x k || bit_of k o)
joined k x None = by_bit (digit x k)
  where
    by_bit : (b : Bool) → b ≡ (b || false)
    by_bit true = refl
    by_bit false = refl
joined k x (Some y) = or_digit x y k

some_joined : (x : ℕ) (o : Option ℕ) → is_some (join (Some x) o) ≡ true
some_joined x None = refl
some_joined x (Some y) = refl

module _ (v : ℕ → ℕ) (c k : ℕ) where
  ones : (ts : List Transfer) → bit_of k (merged (written v c ts)) ≡ list_any (writes_one v c k) ts
  ones [] = refl
  ones (t ∷ ts) = by_test (writes v c t) (ones ts)
    where
      by_test : (b : Bool) → bit_of k (merged (written v c ts)) ≡ list_any (writes_one v c k) ts
          → bit_of k (merged (cond b (v t.value ∷ written v c ts) (written v c ts))) ≡
          ((b && digit (v t.value) k) || list_any (writes_one v c k) ts)
      by_test true q = joined k (v t.value) (merged (written v c ts)) ∙ ap (λ b. digit (v t.value) k || b) q
      by_test false q = q

  active : (ts : List Transfer) → is_some (merged (written v c ts)) ≡ list_any (writes v c) ts
  active [] = refl
  active (t ∷ ts) = by_test (writes v c t) (active ts)
    where
      by_test : (b : Bool) → is_some (merged (written v c ts)) ≡ list_any (writes v c) ts
          → is_some (merged (cond b (v t.value ∷ written v c ts) (written v c ts))) ≡ (b || list_any (writes v c) ts)
      by_test true q = some_joined (v t.value) (merged (written v c ts))
      by_test false q = q

pub written_digits : WrittenDigits
written_digits v c d k ts = by_written (merged (written v c ts)) (ones v c k ts) (active v c k ts)
  where
    by_written : (o : Option ℕ) → bit_of k o ≡ list_any (writes_one v c k) ts → is_some o ≡ list_any (writes v c) ts
        → digit (unwrap_or o d) k ≡ (list_any (writes_one v c k) ts || (not (list_any (writes v c) ts) && digit d k))
    by_written None p q = ap (λ b. b || (true && digit d k)) p
        ∙ ap (λ b. list_any (writes_one v c k) ts || (not b && digit d k)) q
    by_written (Some x) p q = by_bit (digit x k) ∙ ap (λ b. b || (false && digit d k)) p
        ∙ ap (λ b. list_any (writes_one v c k) ts || (not b && digit d k)) q
      where
        by_bit : (b : Bool) → b ≡ (b || false)
        by_bit true = refl
        by_bit false = refl
