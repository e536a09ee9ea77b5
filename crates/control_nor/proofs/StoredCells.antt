-- The next values of all stored bits, cell by cell.
use Rattle.std.proofs.Common.{◌≡◌, ℕ, zero, suc, ◌+◌, ◌-◌, ◌*◌, ◌<◌, ◌≤◌, ◌⊎◌, inl, inr, List, [], ◌∷◌, ◌++◌, Option}
use Rattle.std.proofs.Common.{Some, None, Bool, true, false, length, drop, refl, sym, ◌∙◌, ap, subst, arith, eqb}
use Rattle.std.proofs.Common.{append_assoc}
use Rattle.std.specs.Prelude.{All, MatchBool, nat_le, if◌then◌else◌, slice_get, slice_set}
use Rattle.std.specs.List.{sum_by}
use Rattle.std.proofs.lemmas.Bool.{cases_lt, eq-eqb, ne_eqb, cases_eq, le-leb, lt-leb}
use Rattle.std.proofs.lemmas.List.Sums.{sum_by-cons, sum_by-set}
use Rattle.std.proofs.lemmas.Option.{none-some, same_Some, slice_get_within, get_or_from_slice_get}
use Rattle.mp_base.proofs.Entries.{get_kept, get_front, one_entry}
use Rattle.nor_net.specs.Shape.{Fed, fan_in, gate_inputs}
use Rattle.nor_net.specs.declared.net.NetId.{NetId}
use Rattle.nor_net.specs.declared.net.Phase.TheVariants.{A, B}
use Rattle.nor_net.specs.declared.net.Part.{Part}
use Rattle.nor_net.specs.declared.net.Part.TheVariants.{Input, Gate, Latch}
use Rattle.rtl_form.specs.declared.rtl.Cell as cells
use Rattle.rtl_form.specs.declared.rtl.Transfer.{Transfer}
use Rattle.rtl_form.specs.declared.rtl.Rtl.{Rtl}
use Rattle.mp_base.specs.Entries.{IsAt}
use Rattle.bit_gates.specs.declared.rails.Rails.{Rails}
use Rattle.control_nor.specs.declared.names.Bits.{Bits}
use Rattle.bit_gates.specs.Adding.{HasRoom, IsCounted}
use Rattle.bit_gates.specs.Cells.{IsNextMade, transfers_to}
use Rattle.control_nor.specs.NextValues.{AreStored, AreWaiting, IsNextCellMade, IsStoring, is_stored_bit, next_cost}
use Rattle.control_nor.specs.NextValues.{next_left, stored_count, stored_from}
use Rattle.bit_gates.specs.Rails.{Named}
use Rattle.bit_gates.specs.Size.{IsWithinCost, active_count}
use Rattle.bit_gates.proofs.Adding.{counted_list, counted_on}
use Rattle.control_nor.proofs.FirstSteps.{in_more}
use Rattle.control_nor.proofs.Left.{one_if, sum_split}
use Rattle.bit_gates.proofs.Next.{source_counted, source_gates}
use Rattle.control_nor.proofs.StoredBits.{elsewhere, new_length, obeys_kept}
use Rattle.control_nor.proofs.StoredBits.{slave_fed, stays, storing}

-- ---- the cost of one more cell

sum_drop : {X : Type 0} (f : X → ℕ) (xs : List X) (i : ℕ) (x : X) → slice_get xs i ≡ Some x
    → sum_by f (drop i xs) ≡ f x + sum_by f (drop (i + 1) xs)
sum_drop f [] i x e = absurd (none-some x e)
sum_drop f (y ∷ xs) zero x e =
    let c = sum_by-cons f y xs in let h = ap f (same_Some y x e) in omega (arith, c, h)
sum_drop f (y ∷ xs) (suc i) x e =
    subst (λ n. sum_by f (drop i xs) ≡ f x + sum_by f (drop n (y ∷ xs)))
    (let s : suc (i + 1) ≡ suc i + 1 = omega arith in s)
    (sum_drop f xs i x e)

-- the test for a later start is the same but at the start itself
later_test : (i t : ℕ) → (t ≡ i → ⊥) → nat_le i t ≡ nat_le (i + 1) t
later_test i t ne = elim (cases_lt t i) [
  | inl l ↦ lt-leb i t l ∙ sym (lt-leb (i + 1) t (omega arith))
  | inr l ↦ le-leb i t l ∙ sym (le-leb (i + 1) t (let d : i < t = by_cases i t l ne in omega (arith, d)))
]
  where
    by_cases : (i t : ℕ) → i ≤ t → (t ≡ i → ⊥) → i < t
    by_cases i t l ne = elim (cases_lt i t) [ inl m ↦ m | inr m ↦ absurd (ne (omega arith)) ]

module _ (xs : List cells.Cell) (i : ℕ) (x : cells.Cell) (is : slice_get xs i ≡ Some x) where
  at_start : (t : Transfer) → t.target ≡ i → (stored_from xs i t ≡ stored_count (Some x))
      × (stored_from xs (i + 1) t ≡ 0)
  at_start t e = (
    ap (λ b. if b then stored_count (slice_get xs t.target) else 0) (le-leb i t.target (omega (arith, e)))
        ∙ (ap (λ n. stored_count (slice_get xs n)) e ∙ ap stored_count is),
    ap (λ b. if b then stored_count (slice_get xs t.target) else 0) (lt-leb (i + 1) t.target (omega (arith, e))),
  )

  not_start : (t : Transfer) → (t.target ≡ i → ⊥) → stored_from xs i t ≡ stored_from xs (i + 1) t
  not_start t ne = ap (λ b. if b then stored_count (slice_get xs t.target) else 0) (later_test i t.target ne)

  stored_split : is_stored_bit x ≡ true → (t : Transfer) → stored_from xs i t
      ≡ stored_from xs (i + 1) t + one_if (eqb t.target i)
  stored_split on t = elim (cases_eq t.target i) [
    | inl e ↦ let a = at_start t e in let p = a.0 in let q = a.1 in
        let c : stored_count (Some x) ≡ 1 = ap (λ b. if b then 1 else 0) on in
        let d : one_if (eqb t.target i) ≡ 1 = ap one_if (eq-eqb t.target i e) in omega (arith, p, q, c, d)
    | inr ne ↦ let a = not_start t ne in
        let d : one_if (eqb t.target i) ≡ 0 = ap one_if (ne_eqb t.target i ne) in omega (arith, a, d)
  ]

  other_same : is_stored_bit x ≡ false → (ts : List Transfer)
      → sum_by (stored_from xs i) ts ≡ sum_by (stored_from xs (i + 1)) ts
  other_same off [] = refl
  other_same off (t ∷ ts) =
      let h : stored_from xs i t ≡ stored_from xs (i + 1) t = by_target (cases_eq t.target i) in
      let a = sum_by-cons (stored_from xs i) t ts in
      let b = sum_by-cons (stored_from xs (i + 1)) t ts in
      let r = other_same off ts in omega (arith, h, a, b, r)
    where
      by_target : (t.target ≡ i) ⊎ (t.target ≡ i → ⊥) → stored_from xs i t ≡ stored_from xs (i + 1) t
      by_target (inl e) =
          let a = at_start t e in a.0 ∙ (ap (λ b. if b then 1 else 0) off ∙ sym a.1)
      by_target (inr ne) = not_start t ne

left_stored : (r : Rtl) (i : ℕ) (x : cells.Cell) → IsAt r.cells i x → is_stored_bit x ≡ true
    → next_left r i ≡ 5 + length (transfers_to r.transfers i) + next_left r (i + 1)
left_stored r i x at on =
    let a = sum_drop next_cost r.cells i x at in
    let b = sum_split (stored_from r.cells i) (stored_from r.cells (i + 1)) (λ t. eqb t.target i)
    (stored_split r.cells i x at on) r.transfers in
    let c : next_cost x ≡ 5 = ap (λ b. if b then 5 else 0) on in omega (arith, a, b, c)

left_other : (r : Rtl) (i : ℕ) (x : cells.Cell) → IsAt r.cells i x → is_stored_bit x ≡ false
    → next_left r i ≡ next_left r (i + 1)
left_other r i x at off =
    let a = sum_drop next_cost r.cells i x at in
    let b = other_same r.cells i x at off r.transfers in
    let c : next_cost x ≡ 0 = ap (λ b. if b then 5 else 0) off in omega (arith, a, b, c)

-- ---- before the first cell

pub none_stored : (r : Rtl) (bits : Bits) (reset : NetId) (old : List Part) → AreWaiting r old bits
    → AreStored r bits 0 reset old old
none_stored r bits reset old w = record {
  longer = omega arith;
  keeps = λ n p e fed. e;
  behind = λ before l h. h;
  within = (0, record { nets = omega arith; inputs = omega arith; active = omega arith }, omega arith);
  waiting = λ c x rails l at on h. w.slaves c x rails at on h;
  stored = λ c x rails l at on h. absurd (omega arith);
  inputs = λ n e. e;
  latches = λ n p source e. inl e;
  unfed = λ n p e. (e, λ c x rails l at on h q. absurd (omega arith));
}

-- ---- one more cell

module _ (r : Rtl) (bits : Bits) (reset : NetId) (old new newer : List Part) (w : AreWaiting r old bits) (i : ℕ)
    (x : cells.Cell)
    (at : IsAt r.cells i x) (done : AreStored r bits i reset old new) where
  -- where the cell is no stored bit
  other_more : is_stored_bit x ≡ false → newer ≡ new → AreStored r bits (i + 1) reset old newer
  other_more off same = subst (AreStored r bits (i + 1) reset old) (sym same) (record {
    longer = done.longer;
    keeps = done.keeps;
    behind = done.behind;
    within = (
      done.within.0,
      done.within.1,
      let a = left_other r i x at off in let b = done.within.2 in
          omega (arith, a, b),
    );
    waiting = λ c y rails l h on n. done.waiting c y rails (omega arith) h on n;
    stored = λ c y rails l h on n. done.stored c y rails (below c y h on l) h on n;
    inputs = done.inputs;
    latches = done.latches;
    unfed = λ n p e. let u = done.unfed n p e in
        (u.0, λ c y rails l h on m q. u.1 c y rails (below c y h on l) h on m q);
  })
    where
      below : (c : ℕ) (y : cells.Cell) → IsAt r.cells c y → is_stored_bit y ≡ true → c < i + 1 → c < i
      below c y h on l = elim (cases_eq c i) [
        | inl e ↦ absurd (cc (
          ap is_stored_bit (one_entry r.cells i x y at (subst (λ n. IsAt r.cells n y) e h)),
          on,
          off,
        ))
        | inr ne ↦ omega arith
      ]

set_behind : {Y : Type 0} (xs ys : List Y) (n : ℕ) (y : Y) → length xs ≤ n
    → slice_set (xs ++ ys) n y ≡ xs ++ slice_set ys (n - length xs) y
set_behind [] ys n y l = ap (λ m. slice_set ys m y) (let e : n ≡ n - 0 = omega arith in e)
set_behind (x ∷ xs) ys zero y l = absurd (omega arith)
set_behind (x ∷ xs) ys (suc n) y l =
    ap (λ zs. x ∷ zs) (set_behind xs ys n y (omega arith)
    ∙ ap (λ m. xs ++ slice_set ys m y) (let e : n - length xs ≡ suc n - suc (length xs) = omega arith in e))

-- what was added for the next value of a stored bit
module _ (r : Rtl) (exprs : List (Option Rails)) (ts : List Transfer) (rails : Rails) (reset : NetId)
    (old new : List Part)
    (h : IsNextMade exprs ts rails.negation reset old new)
    (waits : slice_get old rails.negation.0 ≡ Some (Latch B None)) where
  abbrev tail : List Part
  tail = Latch A (Some h.source) ∷ Gate (h.master ∷ []) ∷ []

  gates : Rattle.bit_gates.specs.Adding.AddsGates old h.middle
  gates = source_gates exprs ts rails.negation reset h.source old h.middle h.is_source

  grown_is : h.grown ≡ old ++ (gates.0 ++ tail)
  grown_is = h.is_grown ∙ (ap (λ ps. ps ++ tail) gates.1 ∙ append_assoc old gates.0 tail)

  grown_keeps : (n : ℕ) (p : Part) → slice_get old n ≡ Some p → slice_get h.grown n ≡ Some p
  grown_keeps n p e = ap (λ ps. slice_get ps n) grown_is ∙ get_kept old (gates.0 ++ tail) n p e

  -- what a net is afterwards: what it was, or a gate, the master, or the slave
  was_or_is : (n : ℕ) (p : Part) → slice_get new n ≡ Some p
      → ((slice_get old n ≡ Some p) × (n ≡ rails.negation.0 → ⊥))
      ⊎ (((inputs : List NetId) × (p ≡ Gate inputs)) ⊎ ((p ≡ Latch A (Some h.source)) ⊎
      (p ≡ Latch B (Some h.negation))))
  was_or_is n p e = elim (cases_eq n rails.negation.0) [
    | inl same ↦ inr (inr (inr (same_Some p (Latch B (Some h.negation)) (sym e ∙ (ap (slice_get new) same
        ∙ slave_fed r exprs ts rails reset old new h waits)))))
    | inr ne ↦ by_place ne (cases_lt n (length old)) (sym (elsewhere r exprs ts rails reset old new h waits n ne) ∙ e)
  ]
    where
      of_gates : (ps : List Part) (i : ℕ) → All Rattle.bit_gates.specs.Adding.IsGate ps → slice_get ps i ≡ Some p
          → (inputs : List NetId) × (p ≡ Gate inputs)
      of_gates [] i g q = absurd (none-some p q)
      of_gates (x ∷ ps) (suc i) g q = of_gates ps i (λ k d l. g (suc k) d (omega arith)) q
      of_gates (x ∷ ps) zero g q = by_part x (g 0 x (omega arith)) q
        where
          by_part : (x : Part) → Rattle.bit_gates.specs.Adding.IsGate x → slice_get (x ∷ ps) zero ≡ Some p
              → (inputs : List NetId) × (p ≡ Gate inputs)
          by_part Input k q = absurd k
          by_part (Gate inputs) k q = (inputs, sym (same_Some (Gate inputs) p q))
          by_part (Latch phase source) k q = absurd k

      of_tail : (i : ℕ) → slice_get tail i ≡ Some p
          → ((inputs : List NetId) × (p ≡ Gate inputs)) ⊎ ((p ≡ Latch A (Some h.source)) ⊎
          (p ≡ Latch B (Some h.negation)))
      of_tail zero q = inr (inl (sym (same_Some (Latch A (Some h.source)) p q)))
      of_tail (suc zero) q = inl (h.master ∷ [], sym (same_Some (Gate (h.master ∷ [])) p q))
      of_tail (suc (suc i)) q = absurd (none-some p q)

      by_place : (n ≡ rails.negation.0 → ⊥) → (n < length old) ⊎ (length old ≤ n) → slice_get h.grown n ≡ Some p
          → ((slice_get old n ≡ Some p) × (n ≡ rails.negation.0 → ⊥))
          ⊎ (((inputs : List NetId) × (p ≡ Gate inputs)) ⊎
          ((p ≡ Latch A (Some h.source)) ⊎ (p ≡ Latch B (Some h.negation))))
      by_place ne (inl l) q =
          inl (sym (get_front old (gates.0 ++ tail) n l) ∙ (ap (λ ps. slice_get ps n) (sym grown_is) ∙ q), ne)
      by_place ne (inr l) q =
          let a = in_more old (gates.0 ++ tail) n p l (ap (λ ps. slice_get ps n) (sym grown_is) ∙ q) in
          elim (cases_lt a.0 (length gates.0)) [
            | inl m ↦ inr (inl (of_gates gates.0 a.0 gates.2 (sym (get_front gates.0 tail a.0 m) ∙ a.2)))
            | inr m ↦ let b = in_more gates.0 tail a.0 p m a.2 in inr (of_tail b.0 b.2)
          ]

  grown_counted : IsCounted (length ts + 5) (4 * length ts + 5) (length ts + 5) old h.grown
  grown_counted =
      let s = source_counted exprs ts rails.negation reset h.source old h.middle h.is_source in
      let c = counted_list h.middle tail in
      let d : IsCounted 2 1 2 h.middle h.grown = subst (IsCounted 2 1 2 h.middle) (sym h.is_grown) (record {
        net_count = let e = c.net_count in omega (arith, e);
        input_count = let e = c.input_count in omega (arith, e);
        active_count = let e = c.active_count in omega (arith, e);
      }) in
      let a = counted_on (length ts + 3) (4 * length ts + 4) (length ts + 3) 2 1 2 old h.middle h.grown s d in
      record {
        net_count = let e = a.net_count in omega (arith, e);
        input_count = let e = a.input_count in omega (arith, e);
        active_count = let e = a.active_count in omega (arith, e);
      }

  slave_in : slice_get h.grown rails.negation.0 ≡ Some (Latch B None)
  slave_in = grown_keeps rails.negation.0 (Latch B None) waits

  next_within : IsWithinCost (5 + length ts) 0 old new
  next_within =
      let l = slice_get_within h.grown rails.negation.0 (Latch B None) slave_in in
      let fan = sum_by-set fan_in h.grown rails.negation.0 (Latch B (Some h.negation)) (Latch B None) l in
      let fan_was = ap fan_in (get_or_from_slice_get h.grown rails.negation.0 (Latch B None) (Latch B None) slave_in)
      in
      let act = sum_by-set active_count h.grown rails.negation.0 (Latch B (Some h.negation)) (Latch B None) l in
      let act_was = ap active_count (get_or_from_slice_get h.grown rails.negation.0 (Latch B None)
      (Latch B None) slave_in) in
      let n = new_length r exprs ts rails reset old new h waits in
      let i = ap gate_inputs h.is_fed in
      let a = ap (sum_by active_count) h.is_fed in
      record {
        nets = let e = grown_counted.net_count in omega (arith, e, n);
        inputs = let e = grown_counted.input_count in omega (arith, e, i, fan, fan_was);
        active = let e = grown_counted.active_count in omega (arith, e, a, act, act_was);
      }

  next_behind : (before : List Part) → length before ≤ rails.negation.0 → (more : List Part) × (old ≡ before ++ more)
      → (more : List Part) × (new ≡ before ++ more)
  next_behind before l q = (
    slice_set (q.0 ++ (gates.0 ++ tail)) (rails.negation.0 - length before) (Latch B (Some h.negation)),
    h.is_fed ∙ (ap (λ ps. slice_set ps rails.negation.0 (Latch B (Some h.negation)))
        (grown_is ∙ (ap (λ ps. ps ++ (gates.0 ++ tail)) q.1 ∙ append_assoc before q.0 (gates.0 ++ tail)))
        ∙ set_behind before (q.0 ++ (gates.0 ++ tail)) rails.negation.0 (Latch B (Some h.negation)) l),
  )

-- a stored bit stays one
storing_kept : (exprs : List (Option Rails)) (ts : List Transfer) (first later : ℕ) (net newer : List Part)
    (rails : Rails) (reset : NetId)
    → ((n : ℕ) (p : Part) → slice_get net n ≡ Some p → Fed p → slice_get newer n ≡ Some p) → first ≤ later
    → IsStoring exprs ts later net rails reset → IsStoring exprs ts first newer rails reset
storing_kept exprs ts first later net newer rails reset keeps l s = record {
  master = s.master;
  negation = s.negation;
  source = s.source;
  is_master = keeps s.master.0 (Latch A (Some s.source)) s.is_master refl;
  is_negation = keeps s.negation.0 (Gate (s.master ∷ [])) s.is_negation tt;
  is_slave = keeps rails.negation.0 (Latch B (Some s.negation)) s.is_slave refl;
  means = λ v value stored clear obeys. s.means v value stored clear
      (obeys_kept net newer first later v keeps l obeys);
  clears = λ v obeys. s.clears v (obeys_kept net newer first later v keeps l obeys);
}

module _ (r : Rtl) (bits : Bits) (reset : NetId) (old new newer : List Part) (w : AreWaiting r old bits) (i : ℕ)
    (x : cells.Cell)
    (at : IsAt r.cells i x) (done : AreStored r bits i reset old new) (on : is_stored_bit x ≡ true) (rails : Rails)
    (named : Named bits.cells i rails)
    (h : IsNextMade bits.exprs (transfers_to r.transfers i) rails.negation reset new newer) where
  abbrev ts : List Transfer
  ts = transfers_to r.transfers i

  waits : slice_get new rails.negation.0 ≡ Some (Latch B None)
  waits = done.waiting i x rails (omega arith) at on named

  still : (n : ℕ) (p : Part) → slice_get new n ≡ Some p → Fed p → slice_get newer n ≡ Some p
  still = stays r bits.exprs ts rails reset new newer h waits

  same_rails : (c : ℕ) (q : Rails) → Named bits.cells c q → c ≡ i → rails ≡ q
  same_rails c q n e = same_Some rails q (same_Some (Some rails) (Some q)
      (sym named ∙ (ap (slice_get bits.cells) (sym e) ∙ n)))

  whole : IsStoring bits.exprs ts (length new) newer rails reset
  whole = storing r bits.exprs ts rails reset new newer h waits

  kinds_of : (n : ℕ) (p : Part) → slice_get newer n ≡ Some p
      → ((slice_get new n ≡ Some p) × (n ≡ rails.negation.0 → ⊥))
      ⊎ (((inputs : List NetId) × (p ≡ Gate inputs)) ⊎ ((p ≡ Latch A (Some h.source)) ⊎
      (p ≡ Latch B (Some h.negation))))
  kinds_of = was_or_is r bits.exprs ts rails reset new newer h waits

  source_gate : (inputs : List NetId) × (slice_get newer h.source.0 ≡ Some (Gate inputs))
  source_gate = (
    h.is_source.off ∷ reset ∷ [],
    Rattle.control_nor.proofs.StoredBits.gate_at r bits.exprs ts rails reset new newer h waits
        h.source.0 2 (h.is_source.off ∷ reset ∷ []) (let n = h.is_source.at_source in omega (arith, n)) refl,
  )

  stored_more : AreStored r bits (i + 1) reset old newer
  stored_more = record {
    longer = let a = done.longer in let b = new_length r bits.exprs ts rails reset new newer h waits in
        let c = (grown_counted r bits.exprs ts rails reset new newer h waits).net_count in omega (arith, a, b, c);
    keeps = λ n p e fed. still n p (done.keeps n p e fed) fed;
    behind = λ before l q. next_behind r bits.exprs ts rails reset new newer h waits before (l i x rails at on named)
        (done.behind before l q);
    within = (
      done.within.0 + (5 + length ts),
      spent,
      let a = left_stored r i x at on in let b = done.within.2 in
          omega (arith, a, b),
    );
    waiting = λ c y q l k on_y n.
        elsewhere r bits.exprs ts rails reset new newer h waits q.negation.0
        (λ e. let same = w.apart c i y x q rails k on_y n at on named e in absurd (omega (arith, same, l)))
        ∙ grown_keeps r bits.exprs ts rails reset new newer h waits q.negation.0 (Latch B None)
        (done.waiting c y q (omega arith) k on_y n);
    stored = λ c y q l k on_y n. elim (cases_eq c i) [
      | inl e ↦ subst (λ m. IsStoring bits.exprs (transfers_to r.transfers m) (length old) newer q reset) (sym e)
          (subst (λ (p : Rails). IsStoring bits.exprs ts (length old) newer p reset) (same_rails c q n e)
          (storing_kept bits.exprs ts (length old) (length new) newer newer rails reset
          (λ n p e fed. e) done.longer whole))
      | inr ne ↦ storing_kept bits.exprs (transfers_to r.transfers c) (length old)
          (length old) new newer q reset still (omega arith)
          (done.stored c y q (omega arith) k on_y n)
    ];
    inputs = λ n e. elim (kinds_of n Input e) [
      | inl a ↦ done.inputs n a.0
      | inr a ↦ elim a [ inl g ↦ absurd (cc g.1) | inr b ↦ elim b [ inl m ↦ absurd (cc m) | inr m ↦ absurd (cc m) ] ]
    ];
    latches = λ n p source e. elim (kinds_of n (Latch p (Some source)) e) [
      | inl a ↦ elim (done.latches n p source a.0) [
        | inl q ↦ inl q
        | inr q ↦ inr (q.0, still source.0 (Gate q.0) q.1 tt)
      ]
      | inr a ↦ elim a [
        | inl g ↦ absurd (cc g.1)
        | inr b ↦ elim b [
          | inl m ↦ inr (let same : h.source ≡ source = cc m in (
            source_gate.0,
            subst (λ (s : NetId). slice_get newer s.0 ≡ Some (Gate source_gate.0)) same
                source_gate.1,
          ))
          | inr m ↦ inr (let same : h.negation ≡ source = cc m in (
            h.master ∷ [],
            subst (λ (s : NetId). slice_get newer s.0 ≡ Some (Gate (h.master ∷ []))) same
                (Rattle.control_nor.proofs.StoredBits.added_at r bits.exprs ts rails reset new newer h waits
                h.negation.0 1
                (Gate (h.master ∷ [])) (let n = h.at_negation in omega (arith, n)) refl),
          ))
        ]
      ]
    ];
    unfed = λ n p e. elim (kinds_of n (Latch p None) e) [
      | inl a ↦ let u = done.unfed n p a.0 in (
        u.0,
        λ c y q l k on_y m z. elim (cases_eq c i) [
          | inl same ↦ a.1 (sym (ap (λ (s : Rails). s.negation.0) (same_rails c q m same) ∙ z))
          | inr ne ↦ u.1 c y q (omega arith) k on_y m z
        ],
      )
      | inr a ↦ elim a [ inl g ↦ absurd (cc g.1) | inr b ↦ elim b [ inl m ↦ absurd (cc m) | inr m ↦ absurd (cc m) ] ]
    ];
  }
    where
      spent : IsWithinCost (done.within.0 + (5 + length ts)) 0 old newer
      spent = let a = done.within.1 in let b = next_within r bits.exprs ts rails reset new newer h waits in record {
        nets = let p = a.nets in let q = b.nets in omega (arith, p, q);
        inputs = let p = a.inputs in let q = b.inputs in omega (arith, p, q);
        active = let p = a.active in let q = b.active in omega (arith, p, q);
      }

-- one more cell, whatever it is
pub stored_next : (r : Rtl) (bits : Bits) (reset : NetId) (old new newer : List Part) → AreWaiting r old bits
    → (i : ℕ)
    (x : cells.Cell) → IsAt r.cells i x → AreStored r bits i reset old new → IsNextCellMade r bits reset i x new newer
    → AreStored r bits (i + 1) reset old newer
stored_next r bits reset old new newer w i x at done made = by_sort (is_stored_bit x) refl made
  where
    by_sort : (b : Bool) → is_stored_bit x ≡ b
        → MatchBool b ((rails : Rails) × Named bits.cells i rails
        × IsNextMade bits.exprs (transfers_to r.transfers i) rails.negation reset new newer) (newer ≡ new)
        → AreStored r bits (i + 1) reset old newer
    by_sort true on m = stored_more r bits reset old new newer w i x at done on m.0 m.1 m.2
    by_sort false off m = other_more r bits reset old new newer w i x at done off m

pub room_next : (r : Rtl) (bits : Bits) (reset : NetId) (old new : List Part) (i : ℕ) (x : cells.Cell)
    → IsAt r.cells i x
    → is_stored_bit x ≡ true → AreStored r bits i reset old new → HasRoom (next_left r 0) old
    → HasRoom (5 + length (transfers_to r.transfers i)) new
room_next r bits reset old new i x at on done room =
    let l = left_stored r i x at on in let s = done.within.2 in
    let a = done.within.1.nets in let b = done.within.1.inputs in
    let c = room.room in let d = room.inputs_room in
    record { room = omega (arith, l, s, a, c); inputs_room = omega (arith, l, s, b, d) }
