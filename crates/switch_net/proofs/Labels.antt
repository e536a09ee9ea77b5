-- Labels of words, and the bits of numbers, for all crates above.
use Rattle.std.proofs.Common.{[], List, ℕ, length, ◌≡◌, zero, refl, suc, ◌∙◌, arith, sym, ◌<◌, get_or}
use Rattle.std.proofs.Common.{◌⊎◌, ◌≤◌, ◌++◌, ◌∷◌, inl, inr, ap}
use Rattle.std.proofs.lemmas.List.{length-append, get_or_append_left, get_or_push}
use Rattle.std.specs.Int.{bit_at}
use Rattle.std.proofs.lemmas.Bool.{cases_lt}
use Rattle.mp_base.proofs.PadBits.{length_bits}
use Rattle.mp_base.specs.declared.value.Trit.{Trit}
use Rattle.switch_net.specs.Pads.{word_labels, labels_of}
use Rattle.mp_base.specs.PadBits.{low_bits, bit_count, trit_of}
use Rattle.switch_net.specs.declared.network.Network.{Network}
use Rattle.switch_net.specs.Clock.{IsLabelled}

pub length_word_labels : (p : List ℕ) (n : ℕ) → length (word_labels p n) ≡ n
length_word_labels p zero = refl
length_word_labels p (suc n) = length-append (word_labels p n) _ ∙ (let e = length_word_labels p n in omega arith)

pub labels_of_bits : (p : List ℕ) (width word : ℕ)
    → length (labels_of p width) ≡ length (low_bits (bit_count width) word)
labels_of_bits p zero word = sym (length_bits 1 word)
labels_of_bits p (suc w) word = length_word_labels p (suc w) ∙ sym (length_bits (suc w) word)

pub low_bit_more : (n word k : ℕ) (d : Trit) → k < suc n
    → (k < n → get_or (low_bits n word) k d ≡ trit_of (bit_at word k))
    → get_or (low_bits (suc n) word) k d ≡ trit_of (bit_at word k)
low_bit_more n word k d lt before = by_place (cases_lt k n)
  where
    by_place : (k < n) ⊎ (n ≤ k)
        → get_or (low_bits n word ++ trit_of (bit_at word n) ∷ []) k d ≡ trit_of (bit_at word k)
    by_place (inl h) =
        let l : length (low_bits n word) ≡ n = length_bits n word in
        get_or_append_left (low_bits n word) (trit_of (bit_at word n) ∷ []) d k (omega (arith, h, l)) ∙ before h
    by_place (inr h) =
        let e : n ≡ k = omega (arith, h, lt) in
        get_or_push (low_bits n word) (trit_of (bit_at word n)) d k (length_bits n word ∙ e)
        ∙ ap (λ m. trit_of (bit_at word m)) e

-- a bit among the lowest
pub low_bit : (n word k : ℕ) (d : Trit) → k < n → get_or (low_bits n word) k d ≡ trit_of (bit_at word k)
low_bit zero word k d lt = absurd (omega (arith, lt))
low_bit (suc n) word k d lt = low_bit_more n word k d lt (λ h. low_bit n word k d h)

pub one_node : (net : Network) (name : List ℕ) (n m : ℕ) → IsLabelled net name n → IsLabelled net name m → n ≡ m
one_node net name n m t u = sym t.3 ∙ net.one_node_each t.0 u.0 t.1 u.1 (t.2 ∙ sym u.2) ∙ u.3
