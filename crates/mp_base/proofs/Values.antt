-- Trits, operators and pads that are the same, for all crates above.
use Rattle.std.proofs.Common.{ℕ, ◌≡◌, ◌∙◌, ap, max, sym, arith, refl, ◌⊎◌, inl, inr, Option, Some}
use Rattle.std.proofs.Common.{Bool, true, false}
use Rattle.std.specs.Prelude.{bit_or, Option, None, Some, ◌≢◌, IsSome}
use Rattle.std.proofs.lemmas.Nat.Bits.{same_from_bits, bit_at_or}
use Rattle.std.specs.Int.{bit_at}
use Rattle.std.proofs.lemmas.Bool.{false≢true}
use Rattle.mp_base.specs.Merge.{join}
use Rattle.mp_base.specs.declared.value.Trit.{Trit}
use Rattle.mp_base.specs.declared.value.Trit.TheVariants.{Zero, One, X}
use Rattle.mp_base.specs.declared.op.Op.{Op}
use Rattle.mp_base.specs.declared.op.Op.TheVariants as ops

pub or_assoc : (a b c : ℕ) → bit_or (bit_or a b) c ≡ bit_or a (bit_or b c)
or_assoc a b c = same_from_bits _ _ (λ i.
    bit_at_or (bit_or a b) c i ∙ ap (λ x. max x (bit_at c i)) (bit_at_or a b i)
    ∙ max_group (bit_at a i) (bit_at b i) (bit_at c i)
    ∙ sym (bit_at_or a (bit_or b c) i ∙ ap (λ x. max (bit_at a i) x) (bit_at_or b c i)))
  where
    max_group : (x y z : ℕ) → max (max x y) z ≡ max x (max y z)
    max_group x y z = omega arith

pub join_assoc : (a b c : Option ℕ) → join (join a b) c ≡ join a (join b c)
join_assoc None b c = refl
join_assoc (Some a) None c = refl
join_assoc (Some a) (Some b) None = refl
join_assoc (Some a) (Some b) (Some c) = ap (λ z. Some z) (or_assoc a b c)

pub same_trit : (t u : Trit) → (t ≡ Zero → u ≡ Zero) → (u ≡ Zero → t ≡ Zero) → (t ≡ One → u ≡ One)
    → (u ≡ One → t ≡ One) → t ≡ u
same_trit Zero u zt zf ot of = sym (zt refl)
same_trit One u zt zf ot of = sym (ot refl)
same_trit X Zero zt zf ot of = zf refl
same_trit X One zt zf ot of = of refl
same_trit X X zt zf ot of = refl

-- each of two is X or the other
pub same_if_below : (t u : Trit) → (t ≡ X) ⊎ (t ≡ u) → (u ≡ X) ⊎ (u ≡ t) → t ≡ u
same_if_below t u (inr e) _ = e
same_if_below t u (inl e) (inr g) = sym g
same_if_below t u (inl e) (inl g) = e ∙ sym g

pub same_trit_or_not : (t u : Trit) → (t ≡ u) ⊎ (t ≢ u)
same_trit_or_not Zero Zero = inl refl
same_trit_or_not Zero One = inr (λ e. cc)
same_trit_or_not Zero X = inr (λ e. cc)
same_trit_or_not One Zero = inr (λ e. cc)
same_trit_or_not One One = inl refl
same_trit_or_not One X = inr (λ e. cc)
same_trit_or_not X Zero = inr (λ e. cc)
same_trit_or_not X One = inr (λ e. cc)
same_trit_or_not X X = inl refl

-- what is none is not some
pub none_not_some : (o : Option Trit) → o ≡ None → IsSome o → ⊥
none_not_some None e h = cc
none_not_some (Some t) e h = cc

pub is_some_trit : (d : Option Trit) (t : Trit) → d ≡ Some t → IsSome d
is_some_trit d t e = rw e refl

-- an operator is `bit` or not
pub bit_or_not : (op : Op) → (op ≡ ops.Bit) ⊎ (op ≡ ops.Bit → ⊥)
bit_or_not ops.Bit = inl refl
bit_or_not op = inr (λ e. false≢true (ap is_bit e))
  where
    is_bit : Op → Bool
    is_bit ops.Bit = true
    is_bit other = false
