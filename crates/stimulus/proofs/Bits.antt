-- The bits of words, and the number that they are.
use Rattle.std.proofs.Common.{◌≡◌, ◌∙◌, ℕ, zero, suc, ◌+◌, ◌-◌, ◌*◌, ◌<◌, ◌≤◌, ◌^◌, ◌%◌, ◌≢◌, List, [], ◌∷◌, ◌++◌, Bool}
use Rattle.std.proofs.Common.{true, false, cond, eqb, length, decimal, codes, inl, inr, refl, sym, ap, subst, arith}
use Rattle.std.specs.Prelude.{bit_and, not, ◌||◌, min}
use Rattle.std.specs.Int.{bit_at}
use Rattle.std.specs.List.{list_any}
use Rattle.std.proofs.Math.Nat.{two-pow-succ}
use Rattle.std.proofs.Math.Bool.{or-false}
use Rattle.std.proofs.lemmas.Bool.{cases_eq, cases_lt, or_parts, cond-true, cond-false, eq-eqb, ne_eqb}
use Rattle.std.proofs.lemmas.List.{length-append}
use Rattle.std.proofs.lemmas.List.Folds.{list_any-append}
use Rattle.std.proofs.lemmas.Nat.{and_le_r, and_mask, mod-pow-add, pow_pos}
use Rattle.std.proofs.lemmas.Nat.Bits.{bit_at-lt, bit_at_and, bit_at_ones, same_from_bits_below}
use Rattle.mp_base.specs.declared.value.Trit.{Trit}
use Rattle.mp_base.specs.declared.value.Trit.TheVariants.{Zero, One, X}
use Rattle.mp_base.specs.declared.value.TritWord.{TritWord}
use Rattle.mp_base.specs.declared.pad.Pad.{Pad}
use Rattle.stimulus.specs.Rules.{bound}
use Rattle.stimulus.specs.Bits.{trit_at, low_trits, pad_trits}
use Rattle.mp_base.specs.PadBits.{bit_count, trit_of}
use Rattle.stimulus.specs.Transcript.{is_unknown, weight, number_of, bits_text}

-- the bits of a pad's width
pub same_count : (w : ℕ) → cond (eqb w 0) 1 w ≡ bit_count w
same_count zero = refl
same_count (suc w) = cond-false (eqb (suc w) 0) 1 (suc w) (ne_eqb (suc w) 0 (λ e. omega (arith, e)))

pub number_more : (bits : List Trit) (b : Trit)
    → number_of (bits ++ b ∷ []) ≡ number_of bits + weight b * 2 ^ length bits
number_more [] Zero = refl
number_more [] One = refl
number_more [] X = refl
number_more (x ∷ bits) Zero = let e = number_more bits Zero in omega (arith, e)
number_more (x ∷ bits) One = let e = number_more bits One in let d = two-pow-succ (length bits) in omega (arith, e, d)
number_more (x ∷ bits) X = let e = number_more bits X in omega (arith, e)

pub weight_of : (b : ℕ) → b < 2 → weight (trit_of b) ≡ b
weight_of zero l = refl
weight_of (suc zero) l = refl
weight_of (suc (suc b)) l = absurd (omega (arith, l))

-- a bit that is known counts what it is
weight_known : (k b : ℕ) → k ≡ 1 → b < 2 → weight (cond (eqb k 1) (trit_of b) X) ≡ b
weight_known k b e l = ap (λ x. weight (cond (eqb x 1) (trit_of b) X)) e ∙ weight_of b l

unknown_bit : (k b : ℕ) → is_unknown (cond (eqb k 1) (trit_of b) X) ≡ not (eqb k 1)
unknown_bit k b = either (eqb k 1) b
  where
    either : (c : Bool) (b : ℕ) → is_unknown (cond c (trit_of b) X) ≡ not c
    either true zero = refl
    either true (suc b) = refl
    either false b = refl

-- the bits of a word below n are known
abbrev AreKnown : TritWord → ℕ → Type 0
AreKnown word n = (k : ℕ) → k < n → bit_at word.known k ≡ 1

module _ (word : TritWord) where
  pub many_trits : (n : ℕ) → length (low_trits n word) ≡ n
  many_trits zero = refl
  many_trits (suc n) =
      length-append (low_trits n word) (trit_at word n ∷ []) ∙ (let e = many_trits n in omega (arith, e))

  number_known : (n : ℕ) → AreKnown word n → number_of (low_trits n word) ≡ word.bits % 2 ^ n
  number_known zero known = let e : word.bits % 1 ≡ 0 = omega arith in sym e
  number_known (suc n) known =
      number_more (low_trits n word) (trit_at word n)
      ∙ ap (λ x. number_of (low_trits n word) + weight (trit_at word n) * 2 ^ x) (many_trits n)
      ∙ ap (λ x. x + weight (trit_at word n) * 2 ^ n) (number_known n (λ k lt. known k (omega (arith, lt))))
      ∙ ap (λ x. word.bits % 2 ^ n + x * 2 ^ n)
      (weight_known (bit_at word.known n) (bit_at word.bits n) (known n (omega arith)) (bit_at-lt word.bits n))
      ∙ swap (word.bits % 2 ^ n) (bit_at word.bits n * 2 ^ n)
      ∙ sym (mod-pow-add word.bits 1 n) ∙ ap (λ m. word.bits % 2 ^ m) (let e : 1 + n ≡ suc n = omega arith in e)
    where
      swap : (a b : ℕ) → a + b ≡ b + a
      swap a b = omega arith

  none_unknown : (n : ℕ) → AreKnown word n → list_any is_unknown (low_trits n word) ≡ false
  none_unknown zero known = refl
  none_unknown (suc n) known =
      list_any-append is_unknown (low_trits n word) (trit_at word n ∷ [])
      ∙ ap (λ b. b || (is_unknown (trit_at word n) || false)) (none_unknown n (λ k lt. known k (omega (arith, lt))))
      ∙ or-false (is_unknown (trit_at word n))
      ∙ unknown_bit (bit_at word.known n) (bit_at word.bits n)
      ∙ ap not (eq-eqb (bit_at word.known n) 1 (known n (omega arith)))

  are_known : (n : ℕ) → list_any is_unknown (low_trits n word) ≡ false → AreKnown word n
  are_known zero none k lt = absurd (omega (arith, lt))
  are_known (suc n) none k lt =
      let parts = or_parts _ _ (sym (list_any-append is_unknown (low_trits n word) (trit_at word n ∷ [])) ∙ none) in
      elim (cases_lt k n) [
        | inl below ↦ are_known n parts.0 k below
        | inr least ↦
            let e : k ≡ n = omega (arith, lt, least) in
            let last : not (eqb (bit_at word.known n) 1) ≡ false =
            sym (or-false (is_unknown (trit_at word n)) ∙ unknown_bit (bit_at word.known n) (bit_at word.bits n))
            ∙ parts.1 in
            ap (λ j. bit_at word.known j) e ∙ one (bit_at word.known n) last
      ]
    where
      one : (b : ℕ) → not (eqb b 1) ≡ false → b ≡ 1
      one b h = elim (cases_eq b 1) [
        | inl e ↦ e
        | inr d ↦ absurd (let f = ne_eqb b 1 d in cc)
      ]

  -- all bits below n are known exactly where masking keeps all of them
  known_where_masked : (n : ℕ) → bit_and word.known (2 ^ n - 1) ≡ 2 ^ n - 1 → AreKnown word n
  known_where_masked n all k lt =
      let least : min (bit_at word.known k) (bit_at (2 ^ n - 1) k) ≡ bit_at (2 ^ n - 1) k =
      sym (bit_at_and word.known (2 ^ n - 1) k) ∙ ap (λ w. bit_at w k) all in
      let one = bit_at_ones n k lt in
      let few = bit_at-lt word.known k in
      omega (arith, least, one, few)

  masked_where_known : (n : ℕ) → AreKnown word n → bit_and word.known (2 ^ n - 1) ≡ 2 ^ n - 1
  masked_where_known n known =
      let most : 2 ^ n - 1 < 2 ^ n = let p = pow_pos n in omega (arith, p) in
      let less : bit_and word.known (2 ^ n - 1) ≤ 2 ^ n - 1 = and_le_r word.known (2 ^ n - 1) in
      same_from_bits_below n (bit_and word.known (2 ^ n - 1)) (2 ^ n - 1) (omega (arith, less, most)) most (λ k lt.
      let one = bit_at_ones n k lt in
      bit_at_and word.known (2 ^ n - 1) k ∙ ap (λ x. min x (bit_at (2 ^ n - 1) k)) (known k lt) ∙ ap (min 1) one
      ∙ sym one)

  known_text : (n : ℕ) → bit_and word.known (2 ^ n - 1) ≡ 2 ^ n - 1
      → decimal (bit_and word.bits (2 ^ n - 1)) ≡ bits_text (low_trits n word)
  known_text n all =
      let known = known_where_masked n all in
      ap decimal (and_mask word.bits n ∙ sym (number_known n known)) ∙ sym (cond-false _ _ _ (none_unknown n known))

  unknown_text : (n : ℕ) → bit_and word.known (2 ^ n - 1) ≢ 2 ^ n - 1 → codes "X" ≡ bits_text (low_trits n word)
  unknown_text n other = sym (cond-true _ _ _ (some (list_any is_unknown (low_trits n word)) refl))
    where
      some : (b : Bool) → list_any is_unknown (low_trits n word) ≡ b → list_any is_unknown (low_trits n word) ≡ true
      some true e = e
      some false e = absurd (other (masked_where_known n (are_known n e)))

-- the texts of a pad's word
module _ (pad : Pad) (word : TritWord) (all : ℕ) (are_all : all ≡ bound pad - 1) where
  counted : all ≡ 2 ^ bit_count pad.width - 1
  counted = are_all ∙ ap (λ n. 2 ^ n - 1) (same_count pad.width)

  pub text_where_known : bit_and word.known all ≡ all → decimal (bit_and word.bits all) ≡ bits_text (pad_trits pad word)
  text_where_known same =
      let n = bit_count pad.width in
      let P : ℕ → Type 0 = λ m. bit_and word.known m ≡ m in
      ap (λ m. decimal (bit_and word.bits m)) counted ∙ known_text word n (subst P counted same)

  pub text_where_unknown : bit_and word.known all ≢ all → codes "X" ≡ bits_text (pad_trits pad word)
  text_where_unknown other =
      let n = bit_count pad.width in
      let P : ℕ → Type 0 = λ m. bit_and word.known m ≢ m in
      unknown_text word n (subst P counted other)
