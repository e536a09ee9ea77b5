-- Values that added nets obey.
use Rattle.std.proofs.Common.{◌≡◌, ℕ, suc, ◌+◌, ◌<◌, ◌≤◌, List, [], ◌∷◌, Option, Some, None, Bool, true, false, length}
use Rattle.std.proofs.Common.{map, refl, sym, ◌∙◌, ap, subst, arith}
use Rattle.std.specs.Prelude.{All, not, ◌==◌, slice_get}
use Rattle.std.specs.List.{AllZip}
use Rattle.mp_base.specs.declared.value.Trit.{Trit}
use Rattle.mp_base.specs.declared.value.Trit.TheVariants.{Zero, One, X}
use Rattle.nor_net.specs.declared.net.NetId.{NetId}
use Rattle.nor_net.specs.declared.net.Part.{Part}
use Rattle.nor_net.specs.declared.net.Part.TheVariants.{Input, Gate}
use Rattle.nor_net.specs.Elements.{Spot, spot, part_element}
use Rattle.nor_net.specs.Laws.{bit}
use Rattle.nor_net.specs.Settled.{Obeys, nor_value}
use Rattle.bit_gates.specs.declared.rails.Rails.{Rails}
use Rattle.bit_gates.specs.Adding.{IsEntryPair, IsExclusive, IsPair}
use Rattle.control_nor.specs.Lowering.{ObeysBehind}
use Rattle.bit_gates.specs.Rails.{Agree, BitOf, HasRails, Known, NegationOf, swapped}
use Rattle.bit_gates.proofs.Adding.{get_at}

-- values that obey more nets obey those of a part, where all stands as it stood
pub obeys_less : (old new : List Part) (first later : ℕ) (v : Spot → Trit)
    → ((n : ℕ) (p : Part) → slice_get old n ≡ Some p → slice_get new n ≡ Some p) → first ≤ later
    → ObeysBehind new first v → ObeysBehind old later v
obeys_less old new first later v keeps l h n ge = by_part (slice_get old n) refl
  where
    by_part : (o : Option Part) → slice_get old n ≡ o → Obeys v (record { band = 0; net = n })
        (part_element 0 (slice_get old n))
    by_part None e = subst (λ o. Obeys v (record { band = 0; net = n }) (part_element 0 o)) (sym e) tt
    by_part (Some p) e =
        subst (λ o. Obeys v (record { band = 0; net = n }) (part_element 0 o)) (keeps n p e ∙ sym e)
        (h n (omega arith))

-- a gate has the NOR of its inputs
pub gate_obeyed : (parts : List Part) (first : ℕ) (v : Spot → Trit) (id : NetId) (inputs : List NetId)
    → ObeysBehind parts first v → first ≤ id.0 → slice_get parts id.0 ≡ Some (Gate inputs)
    → v (spot 0 id) ≡ nor_value (map v (map (spot 0) inputs))
gate_obeyed parts first v id inputs h l e =
    subst (λ o. Obeys v (record { band = 0; net = id.0 }) (part_element 0 o)) e (h id.0 l)

-- ---- single values

pub off_bit : (b : Bool) → nor_value (bit b ∷ []) ≡ bit (not b)
off_bit true = refl
off_bit false = refl

-- where the NOR of one value is a bit, the value is its negation
pub off_back : (t : Trit) (b : Bool) → nor_value (t ∷ []) ≡ bit b → t ≡ bit (not b)
off_back Zero true e = refl
off_back One false e = refl
off_back Zero false e = absurd (cc e)
off_back One true e = absurd (cc e)
off_back X true e = absurd (cc e)
off_back X false e = absurd (cc e)

pub not_not : (b : Bool) → not (not b) ≡ b
not_not true = refl
not_not false = refl

-- a net and the NOR of it agree, either way round
pub agree_bit : (v : Spot → Trit) (rails : Rails) → v (spot 0 rails.negation) ≡ nor_value (v (spot 0 rails.bit) ∷ [])
    → Agree v rails
agree_bit v rails is = record {
  from_bit = λ b e. record { has_bit = e; has_negation = is ∙ (ap (λ t. nor_value (t ∷ [])) e ∙ off_bit b) };
  from_negation = λ b e. record {
    has_bit = off_back (v (spot 0 rails.bit)) (not b) (sym is ∙ e) ∙ ap bit (not_not b);
    has_negation = e;
  };
}

pub swap_rails : (v : Spot → Trit) (rails : Rails) (b : Bool) → HasRails v (swapped rails) b
    → HasRails v rails (not b)
swap_rails v rails b h = record {
  has_bit = h.has_negation;
  has_negation = h.has_bit ∙ ap bit (sym (not_not b));
}

pub swap_agree : (v : Spot → Trit) (rails : Rails) → Agree v (swapped rails) → Agree v rails
swap_agree v rails a = record {
  from_bit = λ b e. subst (HasRails v rails) (not_not b)
      (swap_rails v rails (not b) (a.from_negation (not b) (e ∙ ap bit (sym (not_not b)))));
  from_negation = λ b e. subst (HasRails v rails) (not_not b) (swap_rails v rails (not b) (a.from_bit (not b) e));
}

-- ---- lists of names

module _ (v : Spot → Trit) (entries : List (Option Rails)) (value : ℕ → ℕ) where
  pub bits_known : (ks : List ℕ) (ids : List NetId) → AllZip (BitOf entries) ks ids
      → All (λ k. Known v entries k (value k)) ks
      → map v (map (spot 0) ids) ≡ map (λ k. bit (value k == 1)) ks
  bits_known [] [] z known = refl
  bits_known [] (y ∷ ids) z known = absurd z
  bits_known (k ∷ ks) [] z known = absurd z
  bits_known (k ∷ ks) (id ∷ ids) ((rails, stands, is), others) known =
      let h = known 0 k (omega arith) rails stands in
      let here : v (spot 0 id) ≡ bit (value k == 1) = ap (λ (i : NetId). v (spot 0 i)) is ∙ h.has_bit in
      ap (λ t. t ∷ map v (map (spot 0) ids)) here
      ∙ ap (λ ts. bit (value k == 1) ∷ ts) (bits_known ks ids others (λ i d l. known (suc i) d (omega arith)))

  pub negations_known : (ks : List ℕ) (ids : List NetId) → AllZip (NegationOf entries) ks ids
      → All (λ k. Known v entries k (value k)) ks
      → map v (map (spot 0) ids) ≡ map (λ k. bit (not (value k == 1))) ks
  negations_known [] [] z known = refl
  negations_known [] (y ∷ ids) z known = absurd z
  negations_known (k ∷ ks) [] z known = absurd z
  negations_known (k ∷ ks) (id ∷ ids) ((rails, stands, is), others) known =
      let h = known 0 k (omega arith) rails stands in
      let here : v (spot 0 id) ≡ bit (not (value k == 1)) = ap (λ (i : NetId). v (spot 0 i)) is ∙ h.has_negation in
      ap (λ t. t ∷ map v (map (spot 0) ids)) here
      ∙ ap (λ ts. bit (not (value k == 1)) ∷ ts)
      (negations_known ks ids others (λ i d l. known (suc i) d (omega arith)))

-- ---- what was added, in values that obey it

module _ (inputs : List NetId) (old new : List Part) (rails : Rails) (h : IsPair inputs old new rails)
    (v : Spot → Trit)
    (obeys : ObeysBehind new (length old) v) where
  pub pair_bit : v (spot 0 rails.bit) ≡ nor_value (map v (map (spot 0) inputs))
  pair_bit = gate_obeyed new (length old) v rails.bit inputs obeys (let n = h.at_bit in omega (arith, n))
      (ap (λ ps. slice_get ps rails.bit.0) h.parts
      ∙ get_at old (Gate inputs ∷ Gate (rails.bit ∷ []) ∷ []) rails.bit.0 0 (Gate inputs)
      (let n = h.at_bit in omega (arith, n)) refl)

  pub pair_negation : v (spot 0 rails.negation) ≡ nor_value (v (spot 0 rails.bit) ∷ [])
  pair_negation = gate_obeyed new (length old) v rails.negation (rails.bit ∷ []) obeys
      (let n = h.at_negation in omega (arith, n))
      (ap (λ ps. slice_get ps rails.negation.0) h.parts
      ∙ get_at old (Gate inputs ∷ Gate (rails.bit ∷ []) ∷ []) rails.negation.0 1 (Gate (rails.bit ∷ []))
      (let n = h.at_negation in omega (arith, n)) refl)

module _ (old new : List Part) (rails : Rails) (h : IsEntryPair old new rails) (v : Spot → Trit)
    (obeys : ObeysBehind new (length old) v) where
  pub entry_negation : v (spot 0 rails.negation) ≡ nor_value (v (spot 0 rails.bit) ∷ [])
  entry_negation = gate_obeyed new (length old) v rails.negation (rails.bit ∷ []) obeys
      (let n = h.at_negation in omega (arith, n))
      (ap (λ ps. slice_get ps rails.negation.0) h.parts
      ∙ get_at old (Input ∷ Gate (rails.bit ∷ []) ∷ []) rails.negation.0 1 (Gate (rails.bit ∷ []))
      (let n = h.at_negation in omega (arith, n)) refl)

module _ (a b : Rails) (old new : List Part) (rails : Rails) (h : IsExclusive a b old new rails) (v : Spot → Trit)
    (obeys : ObeysBehind new (length old) v) where
  abbrev more : List Part
  more = Gate (a.bit ∷ b.bit ∷ []) ∷ Gate (a.negation ∷ b.negation ∷ []) ∷ Gate (h.none ∷ h.both ∷ []) ∷ Gate
      (rails.bit ∷ []) ∷ []

  gate_of : (id : NetId) (i : ℕ) (inputs : List NetId) → id.0 ≡ length old + i → slice_get more i ≡ Some (Gate inputs)
      → v (spot 0 id) ≡ nor_value (map v (map (spot 0) inputs))
  gate_of id i inputs at e = gate_obeyed new (length old) v id inputs obeys (omega (arith, at))
      (ap (λ ps. slice_get ps id.0) h.parts ∙ get_at old more id.0 i (Gate inputs) at e)

  pub exclusive_negation : v (spot 0 rails.negation) ≡ nor_value (v (spot 0 rails.bit) ∷ [])
  exclusive_negation = gate_of rails.negation 3 (rails.bit ∷ []) (let n = h.at_negation in omega (arith, n)) refl

  pub exclusive_bit : (x y : ℕ) → x < 2 → y < 2 → HasRails v a (x == 1) → HasRails v b (y == 1)
      → v (spot 0 rails.bit) ≡ nor_value (nor_value (bit (x == 1) ∷ bit (y == 1) ∷ [])
      ∷ nor_value (bit (not (x == 1)) ∷ bit (not (y == 1)) ∷ []) ∷ [])
  exclusive_bit x y few fewer is_a is_b =
      let none = gate_of h.none 0 (a.bit ∷ b.bit ∷ []) (let n = h.at_none in omega (arith, n)) refl in
      let both = gate_of h.both 1 (a.negation ∷ b.negation ∷ []) (let n = h.at_both in omega (arith, n)) refl in
      let result = gate_of rails.bit 2 (h.none ∷ h.both ∷ []) (let n = h.at_bit in omega (arith, n)) refl in
      let none_is : v (spot 0 h.none) ≡ nor_value (bit (x == 1) ∷ bit (y == 1) ∷ []) =
      none ∙ (ap (λ t. nor_value (t ∷ v (spot 0 b.bit) ∷ [])) is_a.has_bit
      ∙ ap (λ t. nor_value (bit (x == 1) ∷ t ∷ [])) is_b.has_bit) in
      let both_is : v (spot 0 h.both) ≡ nor_value (bit (not (x == 1)) ∷ bit (not (y == 1)) ∷ []) =
      both ∙ (ap (λ t. nor_value (t ∷ v (spot 0 b.negation) ∷ [])) is_a.has_negation
      ∙ ap (λ t. nor_value (bit (not (x == 1)) ∷ t ∷ [])) is_b.has_negation) in
      result ∙ (ap (λ t. nor_value (t ∷ v (spot 0 h.both) ∷ [])) none_is
      ∙ ap (λ t. nor_value (nor_value (bit (x == 1) ∷ bit (y == 1) ∷ []) ∷ t ∷ [])) both_is)
