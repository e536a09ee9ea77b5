-- The first nets of cells, cell by cell.
use Rattle.std.proofs.Common.{◌≡◌, ℕ, zero, suc, ◌+◌, ◌-◌, ◌<◌, ◌≤◌, ◌⊎◌, inl, inr, List, [], ◌∷◌, ◌++◌, Option, Some}
use Rattle.std.proofs.Common.{None, true, false, length, refl, sym, ◌∙◌, ap, subst, arith}
use Rattle.std.specs.Prelude.{if◌then◌else◌, slice_get, slice_set}
use Rattle.std.specs.List.{sum_by}
use Rattle.std.proofs.lemmas.List.{length-set, append-nil}
use Rattle.std.proofs.lemmas.Option.{none-some, same_Some, slice_get_within}
use Rattle.std.proofs.lemmas.Bool.{cases_eq}
use Rattle.mp_base.specs.declared.value.Trit.{Trit}
use Rattle.mp_base.proofs.Entries.{get_behind, get_set_same, get_set_other}
use Rattle.nor_net.specs.Elements.{Spot}
use Rattle.nor_net.specs.declared.net.NetId.{NetId}
use Rattle.nor_net.specs.declared.net.Phase.{Phase}
use Rattle.nor_net.specs.declared.net.Phase.TheVariants.{B, C}
use Rattle.nor_net.specs.declared.net.Part.{Part}
use Rattle.nor_net.specs.declared.net.Part.TheVariants.{Input, Gate, Latch}
use Rattle.nor_net.specs.Shape.{gate_inputs}
use Rattle.rtl_form.specs.declared.rtl.Cell as cells
use Rattle.rtl_form.specs.declared.rtl.CellKind.TheVariants as kinds
use Rattle.rtl_form.specs.Environment.{is_driven}
use Rattle.bit_gates.specs.declared.rails.Rails.{Rails}
use Rattle.bit_gates.specs.Adding.{IsCounted, IsPort, IsSlave}
use Rattle.bit_gates.specs.Cells.{first_cost, latch_cost}
use Rattle.control_nor.specs.First.{IsWaiting}
use Rattle.control_nor.specs.Lowering.{InputBit, ObeysBehind, Stands}
use Rattle.bit_gates.specs.Rails.{Agree, AreBelow}
use Rattle.bit_gates.specs.Size.{IsWithinCost, active_count}
use Rattle.bit_gates.proofs.Adding.{counted_list, get_at}
use Rattle.control_nor.proofs.Obeying.{agree_bit, gate_obeyed, swap_agree}

-- what one cell added
pub record IsFirstStep (x : cells.Cell) (old new : List Part) (pads named : List (Option NetId))
    (o : Option Rails) : Type 0 where
  pub added : (more : List Part) × (new ≡ old ++ more)
  pub within : IsWithinCost (first_cost x) 0 old new
  pub below : (rails : Rails) → o ≡ Some rails → AreBelow (length new) rails
  pub behind : (rails : Rails) → o ≡ Some rails → length old ≤ rails.bit.0
  pub negation_behind : (rails : Rails) → o ≡ Some rails → length old ≤ rails.negation.0
  pub is_bit : (rails : Rails) → o ≡ Some rails → x.word ≡ false
  pub first : x.word ≡ false → is_driven x.kind ≡ false → (rails : Rails) × (o ≡ Some rails)
  pub waiting : is_driven x.kind ≡ true → o ≡ None
  pub pad_count : length named ≡ length pads
  pub pads_stay : (k : ℕ) (pad : NetId) → Stands pads k pad → Stands named k pad
  pub pads_new : (k : ℕ) (pad : NetId) → Stands named k pad
      → Stands pads k pad ⊎ ((x.kind ≡ kinds.Input k) × (x.word ≡ false) × (length old ≤ pad.0)
      × (slice_get new pad.0 ≡ Some Input))
  pub pads_named : (k : ℕ) → x.kind ≡ kinds.Input k → x.word ≡ false → (pad : NetId) × Stands named k pad
  pub ports : (k : ℕ) (rails : Rails) (pad : NetId) → x.kind ≡ kinds.Input k → o ≡ Some rails → Stands named k pad
      → InputBit new rails.bit pad
  pub slaves : (rails : Rails) → x.kind ≡ kinds.Stored → o ≡ Some rails → IsWaiting new rails
  pub inputs : (n : ℕ) → length old ≤ n → slice_get new n ≡ Some Input → (k : ℕ) × Stands named k (record { 0 = n })
  pub latches : (n : ℕ) (p : Phase) (source : NetId) → length old ≤ n → slice_get new n ≡ Some (Latch p (Some source))
      → (k : ℕ) × Stands named k source
  pub unfed : (n : ℕ) (p : Phase) → length old ≤ n → slice_get new n ≡ Some (Latch p None)
      → (x.kind ≡ kinds.Stored) × ((rails : Rails) × (o ≡ Some rails) × (rails.negation.0 ≡ n))
  pub agree : (v : Spot → Trit) → ObeysBehind new (length old) v → (rails : Rails) → o ≡ Some rails → Agree v rails

-- an entry behind the first ones is among what was added
pub in_more : {Y : Type 0} (xs more : List Y) (n : ℕ) (y : Y) → length xs ≤ n → slice_get (xs ++ more) n ≡ Some y
    → (i : ℕ) × (n ≡ length xs + i) × (slice_get more i ≡ Some y)
in_more xs more n y l e =
    let at : n ≡ length xs + (n - length xs) = omega arith in
    (n - length xs, at, sym (get_behind xs more (n - length xs)) ∙ (ap (slice_get (xs ++ more)) (sym at) ∙ e))

-- nothing was added
pub none_step : (x : cells.Cell) (old new : List Part) (pads named : List (Option NetId)) (o : Option Rails)
    → (o ≡ None) × (new ≡ old) × (named ≡ pads) → (x.word ≡ false → is_driven x.kind ≡ false → ⊥)
    → IsFirstStep x old new pads named o
none_step x old new pads named o h other = record {
  added = ([], h.1 ∙ sym (append-nil old));
  within = record {
    nets = let e = ap length h.1 in omega (arith, e);
    inputs = let e = ap gate_inputs h.1 in omega (arith, e);
    active = let e = ap (sum_by active_count) h.1 in omega (arith, e);
  };
  below = λ rails e. absurd (none-some rails (sym h.0 ∙ e));
  behind = λ rails e. absurd (none-some rails (sym h.0 ∙ e));
  negation_behind = λ rails e. absurd (none-some rails (sym h.0 ∙ e));
  is_bit = λ rails e. absurd (none-some rails (sym h.0 ∙ e));
  first = λ w d. absurd (other w d);
  waiting = λ d. h.0;
  pad_count = ap length h.2;
  pads_stay = λ k pad e. ap (λ ps. slice_get ps k) h.2 ∙ e;
  pads_new = λ k pad e. inl (ap (λ ps. slice_get ps k) (sym h.2) ∙ e);
  pads_named = λ k kind w. absurd (other w (ap is_driven kind));
  ports = λ k rails pad kind e q. absurd (none-some rails (sym h.0 ∙ e));
  slaves = λ rails kind e. absurd (none-some rails (sym h.0 ∙ e));
  inputs = λ n l e. absurd (outside n Input l e);
  latches = λ n p source l e. absurd (outside n (Latch p (Some source)) l e);
  unfed = λ n p l e. absurd (outside n (Latch p None) l e);
  agree = λ v obeys rails e. absurd (none-some rails (sym h.0 ∙ e));
}
  where
    outside : (n : ℕ) (p : Part) → length old ≤ n → slice_get new n ≡ Some p → ⊥
    outside n p l e = let w = slice_get_within new n p e in let q = ap length h.1 in omega (arith, w, q, l)

-- a port
module _ (x : cells.Cell) (k : ℕ) (kind : x.kind ≡ kinds.Input k) (word : x.word ≡ false) (old new : List Part)
    (pads named : List (Option NetId)) (pad : NetId) (rails : Rails) (h : IsPort old new pad rails)
    (set : named ≡ slice_set pads k (Some pad)) (inside : k < length pads)
    (free : (q : NetId) → Stands pads k q → ⊥) where
  abbrev more : List Part
  more = Input ∷ Latch C (Some pad) ∷ Gate (rails.bit ∷ []) ∷ []

  at : (n i : ℕ) (p : Part) → n ≡ length old + i → slice_get more i ≡ Some p → slice_get new n ≡ Some p
  at n i p e q = ap (λ ps. slice_get ps n) h.parts ∙ get_at old more n i p e q

  here : Stands named k pad
  here = ap (λ ps. slice_get ps k) set ∙ get_set_same pads k (Some pad) inside

  there : (j : ℕ) → (j ≡ k → ⊥) → slice_get named j ≡ slice_get pads j
  there j ne = ap (λ ps. slice_get ps j) set ∙ get_set_other pads k (Some pad) j ne

  same_kind : (j : ℕ) → x.kind ≡ kinds.Input j → j ≡ k
  same_kind j e = cc (e, kind)

  -- its three parts
  by_part : (n : ℕ) (p : Part) → length old ≤ n → slice_get new n ≡ Some p
      → ((n ≡ length old) × (p ≡ Input)) ⊎ (((n ≡ length old + 1) × (p ≡ Latch C (Some pad))) ⊎
      (p ≡ Gate (rails.bit ∷ [])))
  by_part n p l e = by_index (in_more old more n p l (ap (λ ps. slice_get ps n) (sym h.parts) ∙ e))
    where
      by_index : (i : ℕ) × (n ≡ length old + i) × (slice_get more i ≡ Some p)
          → ((n ≡ length old) × (p ≡ Input)) ⊎ (((n ≡ length old + 1) × (p ≡ Latch C (Some pad))) ⊎
          (p ≡ Gate (rails.bit ∷ [])))
      by_index (zero, e, q) = inl (omega (arith, e), sym (same_Some Input p q))
      by_index (suc zero, e, q) = inr (inl (e, sym (same_Some (Latch C (Some pad)) p q)))
      by_index (suc (suc zero), e, q) = inr (inr (sym (same_Some (Gate (rails.bit ∷ [])) p q)))
      by_index (suc (suc (suc i)), e, q) = absurd (none-some p q)

  counted : IsCounted 3 1 2 old new
  counted = let c = counted_list old more in subst (IsCounted 3 1 2 old) (sym h.parts) (record {
    net_count = let e = c.net_count in omega (arith, e);
    input_count = let e = c.input_count in omega (arith, e);
    active_count = let e = c.active_count in omega (arith, e);
  })

  cost_is : first_cost x ≡ 2
  cost_is = ap (λ b. if b then 0 else latch_cost x.kind) word ∙ ap latch_cost kind

  pub port_step : IsFirstStep x old new pads named (Some rails)
  port_step = record {
    added = (more, h.parts);
    within = record {
      nets = let e = counted.net_count in omega (arith, e, cost_is);
      inputs = let e = counted.input_count in omega (arith, e, cost_is);
      active = let e = counted.active_count in omega (arith, e, cost_is);
    };
    below = λ q e. subst (AreBelow (length new)) (same_Some rails q e)
        (let c = counted.net_count in let b = h.at_bit in
        let n = h.at_negation in record { bit_below = omega (arith, c, b); negation_below = omega (arith, c, n) });
    behind = λ q e. subst (λ (q : Rails). length old ≤ q.bit.0) (same_Some rails q e)
        (let b = h.at_bit in omega (arith, b));
    negation_behind = λ q e. subst (λ (q : Rails). length old ≤ q.negation.0) (same_Some rails q e)
        (let n = h.at_negation in omega (arith, n));
    is_bit = λ q e. word;
    first = λ w d. (rails, refl);
    waiting = λ d. absurd (cc (ap is_driven kind, d));
    pad_count = ap length set ∙ length-set pads k (Some pad);
    pads_stay = λ j q e. there j (λ same. free q (ap (slice_get pads) (sym same) ∙ e)) ∙ e;
    pads_new = λ j q e. elim (cases_eq j k) [
      | inl same ↦ let is : q ≡ pad = cc (ap (slice_get named) (sym same) ∙ e, here) in
          inr (
            kind ∙ ap kinds.Input (sym same),
            word,
            (let a = h.at_pad in let b = ap (λ (n : NetId). n.0) is in omega (arith, a, b)),
            subst (λ (n : NetId). slice_get new n.0 ≡ Some Input) (sym is)
                (at pad.0 0 Input (let a = h.at_pad in omega (arith, a)) refl),
          )
      | inr ne ↦ inl (sym (there j ne) ∙ e)
    ];
    pads_named = λ j e w. (pad, ap (slice_get named) (same_kind j e) ∙ here);
    ports = λ j q r e some stands.
        let is : pad ≡ r = cc (here, ap (slice_get named) (sym (same_kind j e)) ∙ stands) in
        subst (λ (n : NetId). InputBit new q.bit n) is (subst (λ (n : Rails). InputBit new n.bit pad)
        (same_Some rails q some) (record {
          is_latch = at rails.bit.0 1 (Latch C (Some pad)) (let b = h.at_bit in omega (arith, b)) refl;
          is_pad = at pad.0 0 Input (let a = h.at_pad in omega (arith, a)) refl;
        }));
    slaves = λ q e some. absurd (cc (e, kind));
    inputs = λ n l e. elim (by_part n Input l e) [
      | inl q ↦ (
        k,
        subst (λ (i : NetId). Stands named k i)
            (let s : pad.0 ≡ n = (let a = h.at_pad in omega (arith, a, q.0)) in
            ap (λ m. let i : NetId = record { 0 = m } in i) s) here,
      )
      | inr q ↦ elim q [ inl w ↦ absurd (cc w.1) | inr w ↦ absurd (cc w) ]
    ];
    latches = λ n p source l e. elim (by_part n (Latch p (Some source)) l e) [
      | inl q ↦ absurd (cc q.1)
      | inr q ↦ elim q [
        | inl w ↦ (k, subst (λ (i : NetId). Stands named k i) (let s : pad ≡ source = cc w.1 in s) here)
        | inr w ↦ absurd (cc w)
      ]
    ];
    unfed = λ n p l e. elim (by_part n (Latch p None) l e) [
      | inl q ↦ absurd (cc q.1)
      | inr q ↦ elim q [ inl w ↦ absurd (cc w.1) | inr w ↦ absurd (cc w) ]
    ];
    agree = λ v obeys q e. subst (Agree v) (same_Some rails q e) (agree_bit v rails
        (gate_obeyed new (length old) v rails.negation (rails.bit ∷ []) obeys
        (let n = h.at_negation in omega (arith, n))
        (at rails.negation.0 2 (Gate (rails.bit ∷ [])) (let n = h.at_negation in omega (arith, n)) refl)));
  }

-- a slave
module _ (x : cells.Cell) (kind : x.kind ≡ kinds.Stored) (word : x.word ≡ false) (old new : List Part)
    (pads named : List (Option NetId)) (rails : Rails) (h : IsSlave old new rails) (kept : named ≡ pads) where
  abbrev both : List Part
  both = Latch B None ∷ Gate (rails.negation ∷ []) ∷ []

  stand : (n i : ℕ) (p : Part) → n ≡ length old + i → slice_get both i ≡ Some p → slice_get new n ≡ Some p
  stand n i p e q = ap (λ ps. slice_get ps n) h.parts ∙ get_at old both n i p e q

  of_two : (n : ℕ) (p : Part) → length old ≤ n → slice_get new n ≡ Some p
      → ((n ≡ length old) × (p ≡ Latch B None)) ⊎ (p ≡ Gate (rails.negation ∷ []))
  of_two n p l e = by_index (in_more old both n p l (ap (λ ps. slice_get ps n) (sym h.parts) ∙ e))
    where
      by_index : (i : ℕ) × (n ≡ length old + i) × (slice_get both i ≡ Some p)
          → ((n ≡ length old) × (p ≡ Latch B None)) ⊎ (p ≡ Gate (rails.negation ∷ []))
      by_index (zero, e, q) = inl (omega (arith, e), sym (same_Some (Latch B None) p q))
      by_index (suc zero, e, q) = inr (sym (same_Some (Gate (rails.negation ∷ [])) p q))
      by_index (suc (suc i), e, q) = absurd (none-some p q)

  slave_counted : IsCounted 2 1 2 old new
  slave_counted = let c = counted_list old both in subst (IsCounted 2 1 2 old) (sym h.parts) (record {
    net_count = let e = c.net_count in omega (arith, e);
    input_count = let e = c.input_count in omega (arith, e);
    active_count = let e = c.active_count in omega (arith, e);
  })

  slave_cost : first_cost x ≡ 2
  slave_cost = ap (λ b. if b then 0 else latch_cost x.kind) word ∙ ap latch_cost kind

  pub slave_step : IsFirstStep x old new pads named (Some rails)
  slave_step = record {
    added = (both, h.parts);
    within = record {
      nets = let e = slave_counted.net_count in omega (arith, e, slave_cost);
      inputs = let e = slave_counted.input_count in omega (arith, e, slave_cost);
      active = let e = slave_counted.active_count in omega (arith, e, slave_cost);
    };
    below = λ q e. subst (AreBelow (length new)) (same_Some rails q e)
        (let c = slave_counted.net_count in let b = h.at_bit in
        let n = h.at_negation in record { bit_below = omega (arith, c, b); negation_below = omega (arith, c, n) });
    behind = λ q e. subst (λ (q : Rails). length old ≤ q.bit.0) (same_Some rails q e)
        (let b = h.at_bit in omega (arith, b));
    negation_behind = λ q e. subst (λ (q : Rails). length old ≤ q.negation.0) (same_Some rails q e)
        (let n = h.at_negation in omega (arith, n));
    is_bit = λ q e. word;
    first = λ w d. (rails, refl);
    waiting = λ d. absurd (cc (ap is_driven kind, d));
    pad_count = ap length kept;
    pads_stay = λ j q e. ap (λ ps. slice_get ps j) kept ∙ e;
    pads_new = λ j q e. inl (ap (λ ps. slice_get ps j) (sym kept) ∙ e);
    pads_named = λ j e w. absurd (cc (e, kind));
    ports = λ j q r e some stands. absurd (cc (e, kind));
    slaves = λ q e some. subst (IsWaiting new) (same_Some rails q some) (record {
      is_slave = stand rails.negation.0 0 (Latch B None) (let n = h.at_negation in omega (arith, n)) refl;
      is_bit = stand rails.bit.0 1 (Gate (rails.negation ∷ [])) (let b = h.at_bit in omega (arith, b)) refl;
      behind = let n = h.at_negation in let b = h.at_bit in omega (arith, n, b);
    });
    inputs = λ n l e. elim (of_two n Input l e) [ inl q ↦ absurd (cc q.1) | inr q ↦ absurd (cc q) ];
    latches = λ n p source l e. elim (of_two n (Latch p (Some source)) l e) [
      | inl q ↦ absurd
          (cc q.1)
      | inr q ↦ absurd (cc q)
    ];
    unfed = λ n p l e. elim (of_two n (Latch p None) l e) [
      | inl q ↦ (kind, (rails, refl, (let m = h.at_negation in omega (arith, m, q.0))))
      | inr q ↦ absurd (cc q)
    ];
    agree = λ v obeys q e. subst (Agree v) (same_Some rails q e)
        (swap_agree v rails (agree_bit v (record { bit = rails.negation; negation = rails.bit })
        (gate_obeyed new (length old) v rails.bit (rails.negation ∷ []) obeys (let b = h.at_bit in omega (arith, b))
        (stand rails.bit.0 1 (Gate (rails.negation ∷ [])) (let b = h.at_bit in omega (arith, b)) refl))));
  }
