-- What is added to a net, and how much it is.
use Rattle.std.proofs.Common.{◌≡◌, ℕ, ◌+◌, ◌≤◌, List, [], ◌∷◌, ◌++◌, Some, None, length, refl, sym, ◌∙◌, ap, subst}
use Rattle.std.proofs.Common.{arith, append_assoc, length-append, get_or}
use Rattle.std.specs.Prelude.{All, IfSome, slice_get, slice_set}
use Rattle.std.specs.List.{sum_by}
use Rattle.std.proofs.lemmas.List.Elements.{All-nil, All-cons, All-append}
use Rattle.std.proofs.lemmas.List.Sums.{sum_by-append, sum_by-cons}
use Rattle.mp_base.proofs.Entries.{get_middle, get_behind, get_kept}
use Rattle.nor_net.specs.declared.net.NetId.{NetId}
use Rattle.nor_net.specs.declared.net.Phase.{Phase}
use Rattle.nor_net.specs.declared.net.Part.{Part}
use Rattle.nor_net.specs.declared.net.Part.TheVariants.{Input, Gate, Latch}
use Rattle.nor_net.specs.Shape.{fan_in, gate_inputs, fed, IsAdded}
use Rattle.bit_gates.specs.Adding.{AddsGates, AddsLogic, IsCounted, IsGate, IsLogic}
use Rattle.bit_gates.specs.Size.{active_count}

-- the entry at a place behind the first ones
pub get_at : {Y : Type 0} (xs ys : List Y) (n i : ℕ) (y : Y) → n ≡ length xs + i → slice_get ys i ≡ Some y
    → slice_get (xs ++ ys) n ≡ Some y
get_at xs ys n i y e h = ap (slice_get (xs ++ ys)) e ∙ (get_behind xs ys i ∙ h)

set_last : {Y : Type 0} (xs : List Y) (x y : Y) → slice_set (xs ++ x ∷ []) (length xs) y ≡ xs ++ y ∷ []
set_last [] x y = refl
set_last (z ∷ zs) x y = ap (λ ws. z ∷ ws) (set_last zs x y)

-- a latch that is fed as soon as it is added
pub fed_last : (old middle new : List Part) (phase : Phase) (id source : NetId)
    → IsAdded old (Latch phase None) middle id
    → IfSome (slice_get middle id.0) (λ p. new ≡ slice_set middle id.0 (fed source p))
    → IsAdded old (Latch phase (Some source)) new id
fed_last old middle new phase id source a h = record {
  number = a.number;
  parts = here;
}
  where
    at_id : slice_get middle id.0 ≡ Some (Latch phase None)
    at_id = ap (λ n. slice_get middle n) a.number ∙ (ap (λ ps. slice_get ps (length old)) a.parts
        ∙ get_middle old (Latch phase None) [])

    set : new ≡ slice_set middle id.0 (Latch phase (Some source))
    set = subst (λ o. IfSome o (λ p. new ≡ slice_set middle id.0 (fed source p))) at_id h

    here : new ≡ old ++ Latch phase (Some source) ∷ []
    here = set ∙ (ap (λ n. slice_set middle n (Latch phase (Some source))) a.number
        ∙ (ap (λ ps. slice_set ps (length old) (Latch phase (Some source))) a.parts
        ∙ set_last old (Latch phase None) (Latch phase (Some source))))

-- ---- how much was added

pub counted_none : (parts : List Part) → IsCounted 0 0 0 parts parts
counted_none parts = record { net_count = omega arith; input_count = omega arith; active_count = omega arith }

pub counted_part : (old : List Part) (p : Part) → IsCounted 1 (fan_in p) (active_count p) old (old ++ p ∷ [])
counted_part old p =
    let n = length-append old (p ∷ []) in
    let i : gate_inputs (old ++ p ∷ []) ≡ gate_inputs old + gate_inputs (p ∷ []) = sum_by-append fan_in old
    (p ∷ []) in
    let j = sum_by-cons fan_in p [] in
    let a = sum_by-append active_count old (p ∷ []) in
    let b = sum_by-cons active_count p [] in
    record { net_count = omega (arith, n); input_count = omega (arith, i, j); active_count = omega (arith, a, b) }

pub counted_on : (n i a m j b : ℕ) (old middle new : List Part) → IsCounted n i a old middle
    → IsCounted m j b middle new
    → IsCounted (n + m) (i + j) (a + b) old new
counted_on n i a m j b old middle new g h = record {
  net_count = let x = g.net_count in let y = h.net_count in omega (arith, x, y);
  input_count = let x = g.input_count in let y = h.input_count in omega (arith, x, y);
  active_count = let x = g.active_count in let y = h.active_count in omega (arith, x, y);
}

-- ---- gates at the end

pub gates_none : (parts : List Part) → AddsGates parts parts
gates_none parts = ([], sym (append_nil parts), All-nil IsGate)
  where
    append_nil : (xs : List Part) → xs ++ [] ≡ xs
    append_nil [] = refl
    append_nil (x ∷ xs) = ap (λ ys. x ∷ ys) (append_nil xs)

pub gates_on : (old middle new : List Part) → AddsGates old middle → AddsGates middle new → AddsGates old new
gates_on old middle new g h =
    (g.0 ++ h.0, h.1 ∙ (ap (λ ps. ps ++ h.0) g.1 ∙ append_assoc old g.0 h.0), All-append IsGate g.0 h.0 g.2 h.2)

pub gates_one : (old new : List Part) (inputs : List NetId) → new ≡ old ++ Gate inputs ∷ [] → AddsGates old new
gates_one old new inputs e = (Gate inputs ∷ [], e, All-cons IsGate (Gate inputs) [] tt (All-nil IsGate))

-- what stood before stands
pub gates_keep : (old new : List Part) (n : ℕ) (p : Part) → AddsGates old new → slice_get old n ≡ Some p
    → slice_get new n ≡ Some p
gates_keep old new n p g e = ap (λ ps. slice_get ps n) g.1 ∙ get_kept old g.0 n p e

pub gates_longer : (old new : List Part) → AddsGates old new → length old ≤ length new
gates_longer old new g = let e = ap length g.1 ∙ length-append old g.0 in omega (arith, e)

pub counted_list : (old more : List Part)
    → IsCounted (length more) (gate_inputs more) (sum_by active_count more) old (old ++ more)
counted_list old more = record {
  net_count = length-append old more;
  input_count = sum_by-append fan_in old more;
  active_count = sum_by-append active_count old more;
}

-- ---- one part that was added

pub added_counted : (old new : List Part) (p : Part) (id : NetId) → IsAdded old p new id
    → IsCounted 1 (fan_in p) (active_count p) old new
added_counted old new p id a = subst (IsCounted 1 (fan_in p) (active_count p) old) (sym a.parts) (counted_part old p)

pub added_at : (old new : List Part) (p : Part) (id : NetId) → IsAdded old p new id → slice_get new id.0 ≡ Some p
added_at old new p id a = ap (slice_get new) a.number ∙ (ap (λ ps. slice_get ps (length old)) a.parts
    ∙ get_middle old p [])

pub added_keeps : (old new : List Part) (p : Part) (id : NetId) → IsAdded old p new id → (n : ℕ) (q : Part)
    → slice_get old n ≡ Some q → slice_get new n ≡ Some q
added_keeps old new p id a n q e = ap (λ ps. slice_get ps n) a.parts ∙ get_kept old (p ∷ []) n q e

pub added_two : (old middle new : List Part) (p q : Part) (i j : NetId) → IsAdded old p middle i
    → IsAdded middle q new j
    → new ≡ old ++ p ∷ q ∷ []
added_two old middle new p q i j a b =
    b.parts ∙ (ap (λ ps. ps ++ q ∷ []) a.parts ∙ append_assoc old (p ∷ []) (q ∷ []))

pub added_three : (old first middle new : List Part) (p q r : Part) (i j k : NetId) → IsAdded old p first i
    → IsAdded first q middle j → IsAdded middle r new k
    → new ≡ old ++ p ∷ q ∷ r ∷ []
added_three old first middle new p q r i j k a b c =
    c.parts ∙ (ap (λ ps. ps ++ r ∷ []) (added_two old first middle p q i j a b)
    ∙ append_assoc old (p ∷ q ∷ []) (r ∷ []))

pub gate_before : (xs : List NetId) (ps : List Part) → All IsGate ps → All IsGate (Gate xs ∷ ps)
gate_before xs ps h = All-cons IsGate (Gate xs) ps tt h

pub two_gates : (xs ys : List NetId) → All IsGate (Gate xs ∷ Gate ys ∷ [])
two_gates xs ys = gate_before xs (Gate ys ∷ []) (gate_before ys [] (All-nil IsGate))

pub three_gates : (xs ys zs : List NetId) → All IsGate (Gate xs ∷ Gate ys ∷ Gate zs ∷ [])
three_gates xs ys zs = gate_before xs (Gate ys ∷ Gate zs ∷ []) (two_gates ys zs)

-- gates are no latches
pub gates_are_logic : (old new : List Part) → AddsGates old new → AddsLogic old new
gates_are_logic old new g =
    (g.0, g.1, λ k d l. by_part (get_or g.0 k d) (g.2 k d l))
  where
    by_part : (p : Part) → IsGate p → IsLogic p
    by_part Input h = tt
    by_part (Gate inputs) h = tt
    by_part (Latch phase source) h = h

pub logic_none : (parts : List Part) → AddsLogic parts parts
logic_none parts = gates_are_logic parts parts (gates_none parts)

pub logic_on : (old middle new : List Part) → AddsLogic old middle → AddsLogic middle new → AddsLogic old new
logic_on old middle new g h =
    (g.0 ++ h.0, h.1 ∙ (ap (λ ps. ps ++ h.0) g.1 ∙ append_assoc old g.0 h.0), All-append IsLogic g.0 h.0 g.2 h.2)

pub logic_keep : (old new : List Part) (n : ℕ) (p : Part) → AddsLogic old new → slice_get old n ≡ Some p
    → slice_get new n ≡ Some p
logic_keep old new n p g e = ap (λ ps. slice_get ps n) g.1 ∙ get_kept old g.0 n p e

pub logic_longer : (old new : List Part) → AddsLogic old new → length old ≤ length new
logic_longer old new g = let e = ap length g.1 ∙ length-append old g.0 in omega (arith, e)
