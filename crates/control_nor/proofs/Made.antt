-- What was added for an expression or a driven cell: how much, where, and which inputs.
use Rattle.std.proofs.Common.{◌≡◌, ℕ, zero, suc, ◌+◌, ◌-◌, ◌*◌, ◌≤◌, List, [], ◌∷◌, ◌++◌, Option, Some, None, Bool}
use Rattle.std.proofs.Common.{true, false, length, max, refl, sym, ◌∙◌, ap, subst, arith}
use Rattle.std.specs.Prelude.{All, if◌then◌else◌, slice_get, slice_index}
use Rattle.std.proofs.lemmas.Option.{none-some, same_Some}
use Rattle.mp_base.specs.declared.op.Op.{Op}
use Rattle.mp_base.specs.declared.op.Op.TheVariants as ops
use Rattle.nor_net.specs.declared.net.NetId.{NetId}
use Rattle.nor_net.specs.declared.net.Part.{Part}
use Rattle.nor_net.specs.declared.net.Part.TheVariants.{Input, Gate}
use Rattle.rtl_form.specs.declared.rtl.RtlExpr.{RtlExpr}
use Rattle.rtl_form.specs.declared.rtl.RtlExpr.TheVariants.{Number, Truth, Cell, Apply}
use Rattle.rtl_form.specs.Cost.{op_cost}
use Rattle.rtl_form.specs.Operands.{takes_words, gives_word}
use Rattle.rtl_form.specs.declared.rtl.Transfer.{Transfer}
use Rattle.bit_gates.specs.declared.rails.Rails.{Rails}
use Rattle.bit_gates.specs.Adding.{AddsGates, AddsLogic, IsCounted, IsEntryPair, IsExclusive, IsGate, IsLogic, IsPair}
use Rattle.bit_gates.specs.Cells.{IsDrivenMade, IsTerm}
use Rattle.bit_gates.specs.Exprs.{IsExprMade, IsNorOfBits, IsNorOfNegations, IsOpMade}
use Rattle.control_nor.specs.Lowering.{IsEntry}
use Rattle.bit_gates.specs.Rails.{AllBelow, AreBelow, BitOf, Named, NegationOf, swapped}
use Rattle.bit_gates.specs.Size.{IsWithinCost, bit_expr_cost, entry_count}
use Rattle.bit_gates.proofs.Adding.{counted_list, counted_on, gates_are_logic, gates_none, gates_on, get_at}
use Rattle.bit_gates.proofs.Adding.{gate_before, logic_none, two_gates}
use Rattle.std.proofs.lemmas.List.Elements.{All-nil, All-cons}
use Rattle.mp_base.proofs.Entries.{get_behind}
use Rattle.mp_base.proofs.Tests.{true_false}
use Rattle.std.proofs.lemmas.Slice.Zip.{AllZip-long}

-- what follows from each way to add nets for an expression
pub record AreAdded (entered : Type 0) (cost entries : ℕ) (old new : List Part) (rails : Rails) : Type 0 where
  pub adds : AddsLogic old new
  pub below : AreBelow (length new) rails
  pub within : IsWithinCost cost entries old new
  pub inputs : (n : ℕ) → length old ≤ n → slice_get new n ≡ Some Input → entered × (rails.bit.0 ≡ n)
  pub entry : entered → (length old ≤ rails.bit.0) × (slice_get new rails.bit.0 ≡ Some Input)

-- no input is among gates
no_input : (ps : List Part) (i : ℕ) → All IsGate ps → slice_get ps i ≡ Some Input → ⊥
no_input [] i h e = none-some Input e
no_input (p ∷ ps) zero h e = subst IsGate (same_Some p Input e) (h 0 p (omega arith))
no_input (p ∷ ps) (suc i) h e = no_input ps i (λ k d l. h (suc k) d (omega arith)) e

pub gates_enter_nothing : (old new : List Part) → AddsGates old new → (n : ℕ) → length old ≤ n
    → slice_get new n ≡ Some Input → ⊥
gates_enter_nothing old new g n l e =
    let at : n ≡ length old + (n - length old) = omega arith in
    let here : slice_get g.0 (n - length old) ≡ Some Input =
    sym (get_behind old g.0 (n - length old)) ∙ (ap (slice_get (old ++ g.0)) (sym at)
    ∙ (ap (λ ps. slice_get ps n) (sym g.1) ∙ e)) in
    no_input g.0 (n - length old) g.2 here

-- ---- a pair of gates

pub pair_gates : (inputs : List NetId) (old new : List Part) (rails : Rails) → IsPair inputs old new rails
    → AddsGates old new
pair_gates inputs old new rails h =
    (Gate inputs ∷ Gate (rails.bit ∷ []) ∷ [], h.parts, two_gates inputs (rails.bit ∷ []))

pub pair_counted : (inputs : List NetId) (old new : List Part) (rails : Rails) → IsPair inputs old new rails
    → IsCounted 2 (length inputs + 1) 2 old new
pair_counted inputs old new rails h =
    let c = counted_list old (Gate inputs ∷ Gate (rails.bit ∷ []) ∷ []) in
    subst (IsCounted 2 (length inputs + 1) 2 old) (sym h.parts) (record {
      net_count = let e = c.net_count in omega (arith, e);
      input_count = let e = c.input_count in omega (arith, e);
      active_count = let e = c.active_count in omega (arith, e);
    })

pub pair_below : (inputs : List NetId) (old new : List Part) (rails : Rails) → IsPair inputs old new rails
    → AreBelow (length new) rails
pair_below inputs old new rails h =
    let c = (pair_counted inputs old new rails h).net_count in
    let b = h.at_bit in let n = h.at_negation in
    record { bit_below = omega (arith, c, b); negation_below = omega (arith, c, n) }

swap_below : (n : ℕ) (rails : Rails) → AreBelow n (swapped rails) → AreBelow n rails
swap_below n rails h = record { bit_below = h.negation_below; negation_below = h.bit_below }

pair_added : (inputs : List NetId) (old new : List Part) (rails other : Rails) (cost : ℕ) (entered : Type 0)
    → IsPair inputs old new rails → (entered → ⊥) → 2 ≤ cost → length inputs ≤ cost → AreBelow (length new) other
    → AreAdded entered cost 0 old new other
pair_added inputs old new rails other cost entered h never two few below = record {
  adds = gates_are_logic old new (pair_gates inputs old new rails h);
  below = below;
  within = let c = pair_counted inputs old new rails h in record {
    nets = let e = c.net_count in omega (arith, e);
    inputs = let e = c.input_count in omega (arith, e);
    active = let e = c.active_count in omega (arith, e);
  };
  inputs = λ n l e. absurd (gates_enter_nothing old new (pair_gates inputs old new rails h) n l e);
  entry = λ y. absurd (never y);
}

-- ---- an exclusive OR

exclusive_gates : (a b : Rails) (old new : List Part) (rails : Rails) → IsExclusive a b old new rails
    → AddsGates old new
exclusive_gates a b old new rails h = (
  Gate (a.bit ∷ b.bit ∷ []) ∷ Gate (a.negation ∷ b.negation ∷ []) ∷ Gate (h.none ∷ h.both ∷ []) ∷ Gate
      (rails.bit ∷ []) ∷ [],
  h.parts,
  gate_before (a.bit ∷ b.bit ∷ []) (Gate (a.negation ∷ b.negation ∷ []) ∷ Gate (h.none ∷ h.both ∷ []) ∷ Gate
      (rails.bit ∷ []) ∷ [])
      (gate_before (a.negation ∷ b.negation ∷ []) (Gate (h.none ∷ h.both ∷ []) ∷ Gate (rails.bit ∷ []) ∷ [])
      (two_gates (h.none ∷ h.both ∷ []) (rails.bit ∷ []))),
)

exclusive_counted : (a b : Rails) (old new : List Part) (rails : Rails) → IsExclusive a b old new rails
    → IsCounted 4 7 4 old new
exclusive_counted a b old new rails h =
    let c = counted_list old (Gate (a.bit ∷ b.bit ∷ []) ∷ Gate (a.negation ∷ b.negation ∷ []) ∷ Gate
    (h.none ∷ h.both ∷ []) ∷ Gate (rails.bit ∷ []) ∷ []) in
    subst (IsCounted 4 7 4 old) (sym h.parts) (record {
      net_count = let e = c.net_count in omega (arith, e);
      input_count = let e = c.input_count in omega (arith, e);
      active_count = let e = c.active_count in omega (arith, e);
    })

exclusive_added : (a b : Rails) (old new : List Part) (rails : Rails) (entered : Type 0)
    → IsExclusive a b old new rails
    → (entered → ⊥) → AreAdded entered 4 0 old new rails
exclusive_added a b old new rails entered h never = let c = exclusive_counted a b old new rails h in record {
  adds = gates_are_logic old new (exclusive_gates a b old new rails h);
  below = let e = c.net_count in let m = h.at_bit in let n = h.at_negation in
      record { bit_below = omega (arith, e, m); negation_below = omega (arith, e, n) };
  within = record {
    nets = let e = c.net_count in omega (arith, e);
    inputs = let e = c.input_count in omega (arith, e);
    active = let e = c.active_count in omega (arith, e);
  };
  inputs = λ n l e. absurd (gates_enter_nothing old new (exclusive_gates a b old new rails h) n l e);
  entry = λ y. absurd (never y);
}

-- ---- an input with its negation

entry_added : (old new : List Part) (rails : Rails) (cost : ℕ) (entered : Type 0) → IsEntryPair old new rails
    → entered
    → 2 ≤ cost → AreAdded entered cost 1 old new rails
entry_added old new rails cost entered h enters two = record {
  adds = (
    Input ∷ Gate (rails.bit ∷ []) ∷ [],
    h.parts,
    All-cons IsLogic Input (Gate (rails.bit ∷ []) ∷ []) tt
        (All-cons IsLogic (Gate (rails.bit ∷ [])) [] tt (All-nil IsLogic)),
  );
  below = let m = h.at_bit in let n = h.at_negation in
      record { bit_below = omega (arith, length_is, m); negation_below = omega (arith, length_is, n) };
  within = record {
    nets = omega (arith, length_is);
    inputs = let e = c.input_count in let f = ap Rattle.nor_net.specs.Shape.gate_inputs h.parts in
        omega (arith, e, f);
    active = let e = c.active_count in
        let f = ap (Rattle.std.specs.List.sum_by Rattle.bit_gates.specs.Size.active_count) h.parts in
        omega (arith, e, f);
  };
  inputs = λ n l e. (enters, only n l e);
  entry = λ y. (
    let m = h.at_bit in omega (arith, m),
    ap (λ ps. slice_get ps rails.bit.0) h.parts
        ∙ get_at old (Input ∷ Gate (rails.bit ∷ []) ∷ []) rails.bit.0 0 Input
        (let m = h.at_bit in omega (arith, m)) refl,
  );
}
  where
    c : IsCounted 2 1 1 old (old ++ Input ∷ Gate (rails.bit ∷ []) ∷ [])
    c = let d = counted_list old (Input ∷ Gate (rails.bit ∷ []) ∷ []) in record {
      net_count = let e = d.net_count in omega (arith, e);
      input_count = let e = d.input_count in omega (arith, e);
      active_count = let e = d.active_count in omega (arith, e);
    }

    length_is : length new ≡ length old + 2
    length_is = ap length h.parts ∙ c.net_count

    only : (n : ℕ) → length old ≤ n → slice_get new n ≡ Some Input → rails.bit.0 ≡ n
    only n l e =
        let at : n ≡ length old + (n - length old) = omega arith in
        by_place (n - length old) (sym (get_behind old (Input ∷ Gate (rails.bit ∷ []) ∷ []) (n - length old))
        ∙ (ap (slice_get (old ++ Input ∷ Gate (rails.bit ∷ []) ∷ [])) (sym at)
        ∙ (ap (λ ps. slice_get ps n) (sym h.parts) ∙ e)))
        at
      where
        by_place : (i : ℕ) → slice_get (Input ∷ Gate (rails.bit ∷ []) ∷ []) i ≡ Some Input → n ≡ length old + i
            → rails.bit.0 ≡ n
        by_place zero f at = let m = h.at_bit in omega (arith, m, at)
        by_place (suc i) f at =
            absurd (no_input (Gate (rails.bit ∷ []) ∷ []) i (gate_before (rails.bit ∷ []) [] (All-nil IsGate)) f)

-- ---- operators and expressions

entry_is : (op : Op) (index : ℕ) (args : List ℕ) → takes_words op ≡ false → IsEntry (Apply op index args) → ⊥
entry_is op index args bits h = true_false (sym h.0 ∙ bits)

module _ (exprs : List (Option Rails)) (index : ℕ) (args : List ℕ) (old new : List Part) (rails : Rails)
    (below : AllBelow (length old) exprs) where
  nor_of_bits : (op : Op) (other : Rails) → takes_words op ≡ false → op_cost op (length args) ≡ max 2 (length args)
      → IsNorOfBits exprs args old new other → AreBelow (length new) rails
      → AreAdded (IsEntry (Apply op index args)) (op_cost op (length args)) 0 old new rails
  nor_of_bits op other bits cost h in_new =
      let n = AllZip-long (BitOf exprs) args h.inputs h.are_inputs in
      pair_added h.inputs old new other rails (op_cost op (length args)) (IsEntry (Apply op index args)) h.pair
      (entry_is op index args bits) (omega (arith, cost)) (omega (arith, cost, n)) in_new

  nor_of_negations : (op : Op) (other : Rails) → takes_words op ≡ false
      → op_cost op (length args) ≡ max 2 (length args)
      → IsNorOfNegations exprs args old new other → AreBelow (length new) rails
      → AreAdded (IsEntry (Apply op index args)) (op_cost op (length args)) 0 old new rails
  nor_of_negations op other bits cost h in_new =
      let n = AllZip-long (NegationOf exprs) args h.inputs h.are_inputs in
      pair_added h.inputs old new other rails (op_cost op (length args)) (IsEntry (Apply op index args)) h.pair
      (entry_is op index args bits) (omega (arith, cost)) (omega (arith, cost, n)) in_new

  not_added : Named exprs (slice_index args 0) (swapped rails) → new ≡ old
      → AreAdded (IsEntry (Apply ops.Not index args)) 0 0 old new rails
  not_added is same = record {
    adds = subst (AddsLogic old) (sym same) (logic_none old);
    below = swap_below (length new) rails
        (subst (λ (ps : List Part). AreBelow (length ps) (swapped rails)) (sym same)
        (below (slice_index args 0) (swapped rails) is));
    within = subst (IsWithinCost 0 0 old) (sym same) (record {
      nets = omega arith;
      inputs = omega arith;
      active = omega arith;
    });
    inputs = λ n l e. absurd (gates_enter_nothing old new (subst (AddsGates old) (sym same) (gates_none old)) n l e);
    entry = λ y. absurd (entry_is ops.Not index args refl y);
  }

  pub op_added : (op : Op) → gives_word op ≡ false → IsOpMade exprs op args old new rails
      → AreAdded (IsEntry (Apply op index args)) (op_cost op (length args))
      (entry_count (Apply op index args)) old new rails
  op_added ops.And w h = nor_of_negations ops.And rails refl refl h (pair_below h.inputs old new rails h.pair)
  op_added ops.Nand w h = nor_of_negations ops.Nand (swapped rails) refl refl h
      (swap_below (length new) rails (pair_below h.inputs old new (swapped rails) h.pair))
  op_added ops.Nor w h = nor_of_bits ops.Nor rails refl refl h (pair_below h.inputs old new rails h.pair)
  op_added ops.Or w h = nor_of_bits ops.Or (swapped rails) refl refl h
      (swap_below (length new) rails (pair_below h.inputs old new (swapped rails) h.pair))
  op_added ops.Xor w h =
      exclusive_added h.left h.right old new rails (IsEntry (Apply ops.Xor index args)) h.exclusive
      (entry_is ops.Xor index args refl)
  op_added ops.Not w h = not_added h.0 h.1
  op_added ops.Bit w h = entry_added old new rails 2 (IsEntry (Apply ops.Bit index args)) h (refl, refl) (omega arith)
  op_added ops.Zero w h = entry_added old new rails 4 (IsEntry (Apply ops.Zero index args)) h (refl, refl)
      (omega arith)
  op_added ops.Equal w h = entry_added old new rails 9 (IsEntry (Apply ops.Equal index args)) h (refl, refl)
      (omega arith)
  op_added ops.Less w h = entry_added old new rails 9 (IsEntry (Apply ops.Less index args)) h (refl, refl)
      (omega arith)
  op_added ops.Add w h = absurd (cc w)
  op_added ops.Sub w h = absurd (cc w)
  op_added ops.Inc w h = absurd (cc w)
  op_added ops.Dec w h = absurd (cc w)
  op_added ops.WordAnd w h = absurd (cc w)
  op_added ops.WordOr w h = absurd (cc w)
  op_added ops.WordXor w h = absurd (cc w)
  op_added ops.WordNot w h = absurd (cc w)
  op_added ops.Left w h = absurd (cc w)
  op_added ops.Right w h = absurd (cc w)

-- what an expression costs that has nets here, and nothing for one that has none
module _ (cells exprs : List (Option Rails)) (old new : List Part) (cells_below : AllBelow (length old) cells)
    (exprs_below : AllBelow (length old) exprs) where
  cell_added : (c : ℕ) (rails : Rails) → Named cells c rails → new ≡ old
      → AreAdded (IsEntry (Cell c)) 0 0 old new rails
  cell_added c rails is same = record {
    adds = subst (AddsLogic old) (sym same) (logic_none old);
    below = subst (λ (ps : List Part). AreBelow (length ps) rails) (sym same) (cells_below c rails is);
    within = subst (IsWithinCost 0 0 old) (sym same) (record {
      nets = omega arith;
      inputs = omega arith;
      active = omega arith;
    });
    inputs = λ n l e. absurd (gates_enter_nothing old new (subst (AddsGates old) (sym same) (gates_none old)) n l e);
    entry = λ y. absurd y;
  }

  truth_added : (b : Bool) (rails other : Rails) → other ≡ (if b then rails else swapped rails)
      → IsPair [] old new other
      → AreAdded (IsEntry (Truth b)) 2 0 old new rails
  truth_added b rails other is h =
      pair_added [] old new other rails 2 (IsEntry (Truth b)) h (λ y. y) (omega arith) (omega arith)
      (by_bit b is (pair_below [] old new other h))
    where
      by_bit : (b : Bool) → other ≡ (if b then rails else swapped rails) → AreBelow (length new) other
          → AreBelow (length new) rails
      by_bit true e k = subst (AreBelow (length new)) e k
      by_bit false e k = swap_below (length new) rails (subst (AreBelow (length new)) e k)

  pub expr_added : (x : RtlExpr) (rails : Rails) → IsExprMade cells exprs x old new (Some rails)
      → AreAdded (IsEntry x) (bit_expr_cost x) (entry_count x) old new rails
  expr_added (Number n) rails h = absurd (none-some rails (sym h.0))
  expr_added (Truth b) rails h =
      let same : rails ≡ h.0 = same_Some rails h.0 h.1 in
      truth_added b rails (if b then h.0 else swapped h.0)
      (ap (λ (x : Rails). if b then x else swapped x) (sym same)) h.2
  expr_added (Cell c) rails h = cell_added c rails h.0 h.1
  expr_added (Apply op index args) rails h =
      subst (λ n. AreAdded (IsEntry (Apply op index args)) n (entry_count (Apply op index args)) old new rails)
      (ap (λ b. if b then 0 else op_cost op (length args)) (sym h.0))
      (op_added exprs index args old new rails exprs_below op h.0 h.1)

  -- nothing is added where there are no nets
  pub nothing_added : (x : RtlExpr) → IsExprMade cells exprs x old new None → (new ≡ old) × (bit_expr_cost x ≡ 0)
  nothing_added (Number n) h = (h.1, refl)
  nothing_added (Truth b) h = absurd (none-some h.0 h.1)
  nothing_added (Cell c) h = (h.1, refl)
  nothing_added (Apply op index args) h = (h.1, ap (λ b. if b then 0 else op_cost op (length args)) h.0)

-- ---- driven cells

pub driven_gates : (exprs : List (Option Rails)) (ts : List Transfer) (old new : List Part) (rails : Rails)
    → IsDrivenMade exprs ts old new rails → AddsGates old new
driven_gates exprs ts old new rails h =
    gates_on old h.middle new h.are_terms.adds (pair_gates h.terms h.middle new (swapped rails) h.pair)

pub driven_added : (exprs : List (Option Rails)) (ts : List Transfer) (old new : List Part) (rails : Rails)
    → IsDrivenMade exprs ts old new rails → AreAdded ⊥ (2 + length ts) 0 old new rails
driven_added exprs ts old new rails h = record {
  adds = gates_are_logic old new (driven_gates exprs ts old new rails h);
  below = swap_below (length new) rails (pair_below h.terms h.middle new (swapped rails) h.pair);
  within = let n = AllZip-long (IsTerm exprs (length old) h.middle) ts h.terms h.are_terms.each in
      let c = counted_on (length ts) (2 * length ts) (length ts) 2
      (length h.terms + 1) 2 old h.middle new h.are_terms.counted
      (pair_counted h.terms h.middle new (swapped rails) h.pair) in
      record {
        nets = let e = c.net_count in omega (arith, e);
        inputs = let e = c.input_count in omega (arith, e, n);
        active = let e = c.active_count in omega (arith, e);
      };
  inputs = λ n l e. absurd (gates_enter_nothing old new (driven_gates exprs ts old new rails h) n l e);
  entry = λ y. absurd y;
}
