-- The bits of words of which all bits are known.
use Rattle.std.proofs.Common.{◌≡◌, ℕ, zero, suc, ◌+◌, ◌-◌, ◌^◌, ◌/◌, ◌<◌, ◌≤◌, List, [], ◌∷◌, ◌++◌, refl, sym, ◌∙◌, ap}
use Rattle.std.proofs.Common.{length, take, get_or, set, arith, bit_and}
use Rattle.std.specs.Int.{bit_at}
use Rattle.std.proofs.lemmas.Bool.{cond-true, eq-eqb}
use Rattle.std.proofs.Math.Nat.{mod-eq_of_lt}
use Rattle.std.proofs.lemmas.Nat.{and_mask}
use Rattle.std.proofs.lemmas.Nat.Bits.{bit_at_ones, ones_shr}
use Rattle.mp_base.specs.declared.pad.Pad.{Pad}
use Rattle.mp_base.specs.declared.value.TritWord.{TritWord}
use Rattle.stimulus.specs.Rules.{bits_of, bound}
use Rattle.stimulus.specs.Fitting.{bound_at}
use Rattle.stimulus.specs.Bits.{trit_at, low_trits, pad_trits, trits_of}
use Rattle.mp_base.specs.PadBits.{bit_count, trit_of, low_bits, pad_bits, value_bits}
use Rattle.stimulus.proofs.Values.{few_bits}
use Rattle.mp_base.proofs.PadBits.{same_count}

-- the ones of a pad
pub ones : (p : Pad) (b : ℕ) → b ≡ bits_of p → (2 ^ 64 - 1) / 2 ^ (64 - b) ≡ bound p - 1
ones p b is =
    ones_shr 64 (64 - b) (omega arith)
    ∙ ap (λ n. 2 ^ n - 1) (let e : 64 - (64 - b) ≡ bits_of p = omega (arith, few_bits p, is) in e)

-- a value that fits has no other bits
pub masked : (p : Pad) (value known : ℕ) → known ≡ bound p - 1 → value < bound p → bit_and value known ≡ value
masked p value known is fits = ap (λ k. bit_and value k) is ∙ and_mask value (bits_of p) ∙ mod-eq_of_lt fits

pub bound_here : (ps : List Pad) (k : ℕ) (p : Pad) → k < length ps → p ≡ get_or ps k p → bound_at ps k ≡ bound p
bound_here [] k p lt is = absurd (omega (arith, lt))
bound_here (q ∷ ps) zero p lt is = ap bound (sym is)
bound_here (q ∷ ps) (suc k) p lt is = bound_here ps k p (omega (arith, lt)) is

known_bits : (m n : ℕ) (word : TritWord) → word.known ≡ 2 ^ m - 1 → n ≤ m → low_trits n word ≡ low_bits n word.bits
known_bits m zero word all le = refl
known_bits m (suc n) word all le =
    let one : bit_at word.known n ≡ 1 = ap (λ w. bit_at w n) all ∙ bit_at_ones m n (omega (arith, le)) in
    let here : trit_at word n ≡ trit_of (bit_at word.bits n) = cond-true _ _ _ (eq-eqb (bit_at word.known n) 1 one) in
    ap (λ bits. bits ++ trit_at word n ∷ []) (known_bits m n word all (omega (arith, le)))
    ∙ ap (λ b. low_bits n word.bits ++ b ∷ []) here

-- a word of which all bits are known shows the bits of its value
pub known_trits : (p : Pad) (word : TritWord) → word.known ≡ bound p - 1 → pad_trits p word ≡ pad_bits p word.bits
known_trits p word all = known_bits (bits_of p) (bit_count p.width) word all (omega (arith, same_count p.width))

trits_suc : (ps : List Pad) (ws : List TritWord) (i : ℕ) (p : Pad) (w : TritWord) → i < length ps → i < length ws
    → p ≡ get_or ps i p
    → trits_of (take (suc i) ps) (take (suc i) (set ws i w)) ≡ trits_of (take i ps) (take i ws) ++ pad_trits p w ∷ []
trits_suc [] ws i p w lt less is = absurd (omega (arith, lt))
trits_suc (q ∷ ps) [] i p w lt less is = absurd (omega (arith, less))
trits_suc (q ∷ ps) (x ∷ ws) zero p w lt less is = ap (λ y. pad_trits y w ∷ []) (sym is)
trits_suc (q ∷ ps) (x ∷ ws) (suc i) p w lt less is =
    ap (λ t. pad_trits q x ∷ t) (trits_suc ps ws i p w (omega (arith, lt)) (omega (arith, less)) is)

bits_suc : (ps : List Pad) (vs : List ℕ) (i : ℕ) (p : Pad) → i < length ps → i < length vs → p ≡ get_or ps i p
    → value_bits (take (suc i) ps) (take (suc i) vs)
    ≡ value_bits (take i ps) (take i vs) ++ pad_bits p (get_or vs i 0) ∷ []
bits_suc [] vs i p lt less is = absurd (omega (arith, lt))
bits_suc (q ∷ ps) [] i p lt less is = absurd (omega (arith, less))
bits_suc (q ∷ ps) (v ∷ vs) zero p lt less is = ap (λ y. pad_bits y v ∷ []) (sym is)
bits_suc (q ∷ ps) (v ∷ vs) (suc i) p lt less is =
    ap (λ t. pad_bits q v ∷ t) (bits_suc ps vs i p (omega (arith, lt)) (omega (arith, less)) is)

-- one more word
pub words_more : (ps : List Pad) (ws : List TritWord) (vs : List ℕ) (i : ℕ) (p : Pad) (w : TritWord) → i < length ps
    → i < length ws
    → i < length vs → p ≡ get_or ps i p → pad_trits p w ≡ pad_bits p (get_or vs i 0)
    → trits_of (take i ps) (take i ws) ≡ value_bits (take i ps) (take i vs)
    → trits_of (take (i + 1) ps) (take (i + 1) (set ws i w)) ≡ value_bits (take (i + 1) ps) (take (i + 1) vs)
words_more ps ws vs i p w lt less short is same so_far =
    let e : i + 1 ≡ suc i = omega arith in
    ap (λ n. trits_of (take n ps) (take n (set ws i w))) e
    ∙ trits_suc ps ws i p w lt less is
    ∙ ap (λ t. t ++ pad_trits p w ∷ []) so_far
    ∙ ap (λ t. value_bits (take i ps) (take i vs) ++ t ∷ []) same
    ∙ sym (bits_suc ps vs i p lt short is)
    ∙ ap (λ n. value_bits (take n ps) (take n vs)) (sym e)
