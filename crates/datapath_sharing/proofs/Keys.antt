-- What keys tell: an operator and its operands.
use Rattle.std.proofs.Common.{◌≡◌, List, [], ◌∷◌, Some, Bool, true, false, refl, sym, ◌∙◌, ap}
use Rattle.std.specs.Prelude.{◌==◌, ◌&&◌, slice_get}
use Rattle.std.proofs.lemmas.Bool.{and_parts, eqb-true}
use Rattle.std.proofs.lemmas.Option.{same_Some}
use Rattle.mp_base.specs.declared.op.Op.{Op}
use Rattle.mp_base.specs.declared.op.Op.TheVariants as ops
use Rattle.nor_net.specs.declared.net.NetId.{NetId}
use Rattle.nor_net.proofs.Parts.{same_net}
use Rattle.datapath_sharing.specs.Sharing.{key_of, number_of, same_key}

-- the operators in the order of their enumeration
all_ops : List Op
all_ops =
    ops.Add ∷ ops.Sub ∷ ops.Inc ∷ ops.Dec ∷ ops.WordAnd ∷ ops.WordOr ∷ ops.WordXor ∷ ops.WordNot ∷ ops.Left ∷ ops.Right
    ∷ ops.And ∷ ops.Or ∷ ops.Nor ∷ ops.Nand ∷ ops.Xor ∷ ops.Not ∷ ops.Bit ∷ ops.Zero ∷ ops.Equal ∷ ops.Less ∷ []

at_number : (op : Op) → slice_get all_ops (number_of op) ≡ Some op
unfolding all_ops
at_number ops.Add = refl
at_number ops.Sub = refl
at_number ops.Inc = refl
at_number ops.Dec = refl
at_number ops.WordAnd = refl
at_number ops.WordOr = refl
at_number ops.WordXor = refl
at_number ops.WordNot = refl
at_number ops.Left = refl
at_number ops.Right = refl
at_number ops.And = refl
at_number ops.Or = refl
at_number ops.Nor = refl
at_number ops.Nand = refl
at_number ops.Xor = refl
at_number ops.Not = refl
at_number ops.Bit = refl
at_number ops.Zero = refl
at_number ops.Equal = refl
at_number ops.Less = refl

one_number : (op q : Op) → number_of op ≡ number_of q → op ≡ q
one_number op q e = same_Some op q (sym (at_number op) ∙ (ap (slice_get all_ops) e ∙ at_number q))

pub key_means : (op q : Op) (a b c d : NetId) → same_key (key_of op a b) (key_of q c d) ≡ true
    → (op ≡ q) × (a ≡ c) × (b ≡ d)
key_means op q a b c d e =
    let x = and_parts (number_of op == number_of q && a.0 == c.0) (b.0 == d.0) e in
    let y = and_parts (number_of op == number_of q) (a.0 == c.0) x.0 in (
      one_number op q (eqb-true (number_of op) (number_of q) y.0),
      same_net a c (eqb-true a.0 c.0 y.1),
      same_net b d (eqb-true b.0 d.0 x.1),
    )

pub true_or_false : (b : Bool) (P : Type 0) → (b ≡ true → P) → (b ≡ false → P) → P
true_or_false true P f g = f refl
true_or_false false P f g = g refl
