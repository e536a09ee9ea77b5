-- The bits of words, as bits are added.
use Rattle.std.proofs.Common.{◌≡◌, ◌∙◌, ℕ, zero, suc, ◌+◌, ◌<◌, ◌≤◌, ◌^◌, List, [], ◌∷◌, ◌++◌, length, get_or, map}
use Rattle.std.proofs.Common.{take, refl, sym, ap, arith, below_more}
use Rattle.std.specs.Prelude.{bit_and}
use Rattle.std.proofs.lemmas.List.{map_more, take_all}
use Rattle.mp_base.specs.declared.value.Trit.{Trit}
use Rattle.mp_base.specs.declared.value.TritWord.{TritWord}
use Rattle.stimulus.specs.Bits.{trit_at, low_trits}
use Rattle.clock_run.proofs.Bits.{trit}

-- the bits below k are the values of nodes, and the rest are 0
pub record IsWordOf (value : ℕ → Trit) (nodes : List ℕ) (k known bits : ℕ) : Type 0 where
  pub masked : bit_and bits known ≡ bits
  pub narrow : known < 2 ^ k
  pub each : (j : ℕ) → j < k → trit known bits j ≡ value (get_or nodes j 0)

low_from : (value : ℕ → Trit) (nodes : List ℕ) (word : TritWord) (k : ℕ) → k < suc (length nodes)
    → ((j : ℕ) → j < k → trit_at word j ≡ value (get_or nodes j 0))
    → low_trits k word ≡ map value (take k nodes)
low_from value nodes word zero lt h = refl
low_from value nodes word (suc k) lt h =
    let e : k + 1 ≡ suc k = omega arith in
    ap (λ xs. xs ++ trit_at word k ∷ [])
    (low_from value nodes word k (omega (arith, lt)) (λ j l. h j (omega (arith, l))))
    ∙ ap (λ t. map value (take k nodes) ++ t ∷ []) (h k (omega arith))
    ∙ sym (map_more value nodes k 0 (omega (arith, lt)))
    ∙ ap (λ n. map value (take n nodes)) e

low_all : (value : ℕ → Trit) (nodes : List ℕ) (word : TritWord)
    → ((j : ℕ) → j < length nodes → trit_at word j ≡ value (get_or nodes j 0))
    → low_trits (length nodes) word ≡ map value nodes
low_all value nodes word h = low_from value nodes word (length nodes) (omega arith) h ∙ ap (λ ns. map value ns)
    (take_all (length nodes) nodes (omega arith))

pub word_more : (value : ℕ → Trit) (nodes : List ℕ) (k known bits : ℕ) (new : TritWord)
    → IsWordOf value nodes k known bits
    → new.known < 2 ^ (k + 1)
    → ((j : ℕ) → j < k → trit_at new j ≡ trit known bits j) → trit_at new k ≡ value (get_or nodes k 0)
    → IsWordOf value nodes (k + 1) new.known new.bits
word_more value nodes k known bits new h narrow below here = record {
  masked = new.masked;
  narrow = narrow;
  each = below_more (λ j. trit new.known new.bits j ≡ value (get_or nodes j 0)) k
      (λ j lt. below j lt ∙ h.each j lt) here;
}

-- the word of all nodes
pub word_all : (value : ℕ → Trit) (nodes : List ℕ) (k : ℕ) (word : TritWord)
    → IsWordOf value nodes k word.known word.bits
    → length nodes ≤ k → low_trits (length nodes) word ≡ map value nodes
word_all value nodes k word h le = low_all value nodes word (λ j lt. h.each j (omega (arith, lt, le)))
