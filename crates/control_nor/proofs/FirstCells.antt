-- The first nets of all cells.
use Rattle.std.proofs.Common.{◌≡◌, ℕ, zero, suc, ◌+◌, ◌<◌, ◌≤◌, ◌⊎◌, inl, inr, List, [], ◌∷◌, ◌++◌, Option, Some, None}
use Rattle.std.proofs.Common.{Bool, true, false, length, take, get_or, replicate, refl, sym, ◌∙◌, ap, subst, arith}
use Rattle.std.proofs.Common.{length-append, append_assoc}
use Rattle.std.specs.Prelude.{MatchBool, slice_get}
use Rattle.std.specs.List.{sum_by}
use Rattle.std.proofs.lemmas.Bool.{cases_lt, both_ways, cases_eq}
use Rattle.std.proofs.lemmas.List.{take_more, append-nil}
use Rattle.std.proofs.lemmas.List.Sums.{sum_by-append, sum_by-cons}
use Rattle.std.proofs.lemmas.Option.{none-some, same_Some, slice_get_within}
use Rattle.mp_base.proofs.Entries.{get_kept, get_front, get_middle, one_entry, value, within}
use Rattle.nor_net.specs.declared.net.NetId.{NetId}
use Rattle.nor_net.specs.declared.net.Phase.TheVariants.{B, C}
use Rattle.nor_net.specs.declared.net.Part.{Part}
use Rattle.nor_net.specs.declared.net.Part.TheVariants.{Input, Gate, Latch}
use Rattle.nor_net.proofs.Adding.{get_push}
use Rattle.rtl_form.specs.declared.rtl.Cell as cells
use Rattle.rtl_form.specs.declared.rtl.CellKind.{CellKind}
use Rattle.rtl_form.specs.declared.rtl.CellKind.TheVariants as kinds
use Rattle.rtl_form.specs.declared.rtl.Rtl.{Rtl}
use Rattle.mp_base.specs.Entries.{IsAt}
use Rattle.rtl_form.specs.Environment.{is_driven}
use Rattle.rtl_form.specs.Sound.{CellFits, IsSound}
use Rattle.bit_gates.specs.declared.rails.Rails.{Rails}
use Rattle.bit_gates.specs.Adding.{HasRoom}
use Rattle.bit_gates.specs.Cells.{IsFirstBitMade, IsFirstMade, first_cost}
use Rattle.control_nor.specs.First.{AreFirstDone, AreFirstNamed, AreFirstNets}
use Rattle.control_nor.specs.Lowering.{InputBit, Stands}
use Rattle.bit_gates.specs.Rails.{Named}
use Rattle.control_nor.proofs.FirstSteps.{IsFirstStep, none_step, port_step, slave_step}
use Rattle.control_nor.proofs.Obeying.{obeys_less}

-- before the first cell
pub none_first : (r : Rtl) (old : List Part) → AreFirstDone r 0 old old [] (replicate (length (r.pads).inputs) None)
none_first r old = record {
  added = ([], sym (append-nil old));
  within = record { nets = omega arith; inputs = omega arith; active = omega arith };
  names = record {
    count = refl;
    below = λ c rails h. absurd (none-some (Some rails) h);
    behind = λ c rails h. absurd (none-some (Some rails) h);
    negation_behind = λ c rails h. absurd (none-some (Some rails) h);
    apart = λ c d p q h k e. absurd (none-some (Some p) h);
    bits_only = λ c x rails at h. absurd (none-some (Some rails) h);
    first = λ c x l at w d. absurd (omega arith);
    waiting = λ c x l at d. absurd (omega arith);
  };
  nets = record {
    pad_count = Rattle.std.proofs.lemmas.List.length-replicate (length (r.pads).inputs) None;
    pads_only = λ k pad h. absurd (none_at (length (r.pads).inputs) k pad h);
    pads_in = λ k pad h. absurd (none_at (length (r.pads).inputs) k pad h);
    pads_apart = λ j k id h q. absurd (none_at (length (r.pads).inputs) j id h);
    pads_named = λ c k x l at kind w. absurd (omega arith);
    ports = λ c k x rails pad at kind h q. absurd (none_at (length (r.pads).inputs) k pad q);
    slaves = λ c x rails at kind h. absurd (none-some (Some rails) h);
    inputs = λ n l e. absurd (outside n Input l e);
    latches = λ n p source l e. absurd (outside n (Latch p (Some source)) l e);
    unfed = λ n p l e. absurd (outside n (Latch p None) l e);
  };
  agree = λ v obeys c rails h. absurd (none-some (Some rails) h);
}
  where
    none_at : (n k : ℕ) (pad : NetId) → slice_get (replicate n None) k ≡ Some (Some pad) → ⊥
    none_at zero k pad e = none-some (Some pad) e
    none_at (suc n) zero pad e = none-some pad (same_Some None (Some pad) e)
    none_at (suc n) (suc k) pad e = none_at n k pad e

    outside : (n : ℕ) (p : Part) → length old ≤ n → slice_get old n ≡ Some p → ⊥
    outside n p l e = let w = slice_get_within old n p e in omega (arith, w, l)

module _ (r : Rtl) (sound : IsSound r) (i : ℕ) (old new newer : List Part) (named : List (Option Rails))
    (pads pads_new : List (Option NetId)) (x : cells.Cell) (o : Option Rails) (at : IsAt r.cells i x)
    (done : AreFirstDone r i old new named pads) (made : IsFirstMade x new newer pads pads_new o) where
  by_kind : (kind : CellKind) → x.kind ≡ kind → x.word ≡ false → IsFirstBitMade kind new newer pads pads_new o
      → IsFirstStep x new newer pads pads_new o
  by_kind (kinds.Input k) e w h =
      subst (IsFirstStep x new newer pads pads_new) (sym h.2)
      (port_step x k e w new newer pads pads_new h.0 h.1 h.3 h.4 inside free)
    where
      fits : CellFits r x (kinds.Input k)
      fits = subst (CellFits r x) e (sound.cells i x at)

      inside : k < length pads
      inside = let n = done.nets.pad_count in let l = within (r.pads).inputs k fits.1 in omega (arith, n, l)

      free : (q : NetId) → Stands pads k q → ⊥
      free q s =
          let p = done.nets.pads_only k q s in
          let only = sound.input_cells k (within (r.pads).inputs k fits.1) in
          let a = only.2 p.0 p.1 p.3 p.4 in
          let b = only.2 i x at e in
          let l = p.2 in absurd (omega (arith, a, b, l))
  by_kind (kinds.Output k) e w h =
      none_step x new newer pads pads_new o h (λ q d. both_ways (is_driven x.kind) d (ap is_driven e))
  by_kind kinds.Inner e w h =
      none_step x new newer pads pads_new o h (λ q d. both_ways (is_driven x.kind) d (ap is_driven e))
  by_kind kinds.Stored e w h =
      subst (IsFirstStep x new newer pads pads_new) (sym h.1) (slave_step x e w new newer pads pads_new h.0 h.2 h.3)

  now : IsFirstStep x new newer pads pads_new o
  now = by_word x.word refl made
    where
      by_word : (b : Bool) → x.word ≡ b
          → MatchBool b ((o ≡ None) × (newer ≡ new) × (pads_new ≡ pads))
          (IsFirstBitMade x.kind new newer pads pads_new o)
          → IsFirstStep x new newer pads pads_new o
      by_word true w h = none_step x new newer pads pads_new o h (λ q d. both_ways x.word q w)
      by_word false w h = by_kind x.kind refl w h

  abbrev next : List (Option Rails)
  next = named ++ o ∷ []

  keeps : (n : ℕ) (p : Part) → slice_get new n ≡ Some p → slice_get newer n ≡ Some p
  keeps n p e = ap (λ ps. slice_get ps n) now.added.1 ∙ get_kept new now.added.0 n p e

  longer : length new ≤ length newer
  longer = let e = ap length now.added.1 ∙ length-append new now.added.0 in omega (arith, e)

  started : length old ≤ length new
  started = let e = ap length done.added.1 ∙ length-append old done.added.0 in omega (arith, e)

  -- an entry is an earlier one, or the last
  entry_cases : (c : ℕ) (rails : Rails) → Named next c rails → Named named c rails ⊎ ((c ≡ i) × (o ≡ Some rails))
  entry_cases c rails h = elim (get_push named o c (Some rails) h) [
    | inl e ↦ inl e
    | inr e ↦ inr (let n = done.names.count in omega (arith, e.0, n), e.1)
  ]

  earlier : (c : ℕ) (rails : Rails) → Named named c rails → c < i
  earlier c rails h = let w = slice_get_within named c (Some rails) h in let n =
      done.names.count in omega (arith, w, n)

  last_is : (c : ℕ) (y : cells.Cell) → IsAt r.cells c y → c ≡ i → x ≡ y
  last_is c y h e = one_entry r.cells i x y at (subst (λ n. IsAt r.cells n y) e h)

  at_or_below : (c : ℕ) → c < i + 1 → (c ≡ i) ⊎ (c < i)
  at_or_below c l = elim (cases_eq c i) [ inl e ↦ inl e | inr ne ↦ inr (omega arith) ]

  entry_last : slice_get next i ≡ Some o
  entry_last = ap (slice_get next) (sym done.names.count) ∙ get_middle named o []

  in_old : (n : ℕ) (p : Part) → slice_get newer n ≡ Some p → n < length new → slice_get new n ≡ Some p
  in_old n p e l = sym (get_front new now.added.0 n l) ∙ (ap (λ ps. slice_get ps n) (sym now.added.1) ∙ e)

  more_names : AreFirstNamed r (i + 1) old newer next
  more_names = record {
    count = let a = length-append named (o ∷ []) in let n = done.names.count in omega (arith, a, n);
    below = λ c rails h. elim (entry_cases c rails h) [
      | inl e ↦ let b = done.names.below c rails e in let m = b.bit_below in let n = b.negation_below in
          record { bit_below = omega (arith, m, longer); negation_below = omega (arith, n, longer) }
      | inr e ↦ now.below rails e.1
    ];
    behind = λ c rails h. elim (entry_cases c rails h) [
      | inl e ↦ done.names.behind c rails e
      | inr e ↦ let b = now.behind rails e.1 in omega (arith, b, started)
    ];
    negation_behind = λ c rails h. elim (entry_cases c rails h) [
      | inl e ↦ done.names.negation_behind c rails e
      | inr e ↦ let b = now.negation_behind rails e.1 in omega (arith, b, started)
    ];
    apart = λ c d p q h k e. elim (entry_cases c p h) [
      | inl a ↦ elim (entry_cases d q k) [
        | inl b ↦ done.names.apart c d p q a b e
        | inr b ↦ let m = (done.names.below c p a).bit_below in let n =
            now.behind q b.1 in absurd (omega (arith, m, n, e))
      ]
      | inr a ↦ elim (entry_cases d q k) [
        | inl b ↦ let m = (done.names.below d q b).bit_below in let n =
            now.behind p a.1 in absurd (omega (arith, m, n, e))
        | inr b ↦ omega (arith, a.0, b.0)
      ]
    ];
    bits_only = λ c y rails h k. elim (entry_cases c rails k) [
      | inl e ↦ done.names.bits_only c y rails h e
      | inr e ↦ subst (λ (z : cells.Cell). z.word ≡ false) (last_is c y h e.0) (now.is_bit rails e.1)
    ];
    first = λ c y l h w d. elim (at_or_below c l) [
      | inl e ↦ let same = last_is c y h e in
          let f = now.first (ap (λ (z : cells.Cell). z.word) same ∙ w)
          (ap (λ (z : cells.Cell). is_driven z.kind) same ∙ d) in
          (f.0, ap (slice_get next) e ∙ (entry_last ∙ ap Some f.1))
      | inr m ↦ let f = done.names.first c y m h w d in (f.0, get_kept named (o ∷ []) c (Some f.0) f.1)
    ];
    waiting = λ c y l h d. elim (at_or_below c l) [
      | inl e ↦ let same = last_is c y h e in
          ap (slice_get next) e ∙ (entry_last ∙ ap Some (now.waiting
          (ap (λ (z : cells.Cell). is_driven z.kind) same ∙ d)))
      | inr m ↦ get_kept named (o ∷ []) c None (done.names.waiting c y m h d)
    ];
  }

  pad_cases : (k : ℕ) (pad : NetId) → Stands pads_new k pad
      → Stands pads k pad ⊎ ((x.kind ≡ kinds.Input k) × (x.word ≡ false) × (length new ≤ pad.0)
      × (slice_get newer pad.0 ≡ Some Input))
  pad_cases = now.pads_new

  old_pad : (k : ℕ) (pad : NetId) → Stands pads k pad → pad.0 < length new
  old_pad k pad h = slice_get_within new pad.0 Input (done.nets.pads_in k pad h).1

  kept_port : (bit pad : NetId) → InputBit new bit pad → InputBit newer bit pad
  kept_port bit pad h = record {
    is_latch = keeps bit.0 (Latch C (Some pad)) h.is_latch;
    is_pad = keeps pad.0 Input h.is_pad;
  }

  more_nets : AreFirstNets r (i + 1) old newer next pads_new
  more_nets = record {
    pad_count = now.pad_count ∙ done.nets.pad_count;
    pads_only = λ k pad h. elim (pad_cases k pad h) [
      | inl e ↦ let p = done.nets.pads_only k pad e in let l = p.2 in (p.0, p.1, omega (arith, l), p.3, p.4, p.5)
      | inr e ↦ (i, x, omega arith, at, e.0, e.1)
    ];
    pads_in = λ k pad h. elim (pad_cases k pad h) [
      | inl e ↦ let p = done.nets.pads_in k pad e in (p.0, keeps pad.0 Input p.1)
      | inr e ↦ let l = e.2 in (omega (arith, l, started), e.3)
    ];
    pads_apart = λ j k id h q. elim (pad_cases j id h) [
      | inl a ↦ elim (pad_cases k id q) [
        | inl b ↦ done.nets.pads_apart j k id a b
        | inr b ↦ let m = old_pad j id a in let n = b.2 in absurd (omega (arith, m, n))
      ]
      | inr a ↦ elim (pad_cases k id q) [
        | inl b ↦ let m = old_pad k id b in let n = a.2 in absurd (omega (arith, m, n))
        | inr b ↦ cc (a.0, b.0)
      ]
    ];
    pads_named = λ c k y l h kind w. elim (at_or_below c l) [
      | inl e ↦ let same = last_is c y h e in
          now.pads_named k (ap (λ (z : cells.Cell). z.kind) same ∙ kind) (ap (λ (z : cells.Cell). z.word) same ∙ w)
      | inr m ↦ let p = done.nets.pads_named c k y m h kind w in (p.0, now.pads_stay k p.0 p.1)
    ];
    ports = λ c k y rails pad h kind n q. elim (entry_cases c rails n) [
      | inl e ↦ let p = done.nets.pads_named c k y (earlier c rails e) h kind (done.names.bits_only c y rails h e) in
          let same : p.0 ≡ pad = same_Some p.0 pad (same_Some (Some p.0) (Some pad)
          (sym (now.pads_stay k p.0 p.1) ∙ q)) in
          subst (InputBit newer rails.bit) same
          (kept_port rails.bit p.0 (done.nets.ports c k y rails p.0 h kind e p.1))
      | inr e ↦ now.ports k rails pad (ap (λ (z : cells.Cell). z.kind) (last_is c y h e.0) ∙ kind) e.1 q
    ];
    slaves = λ c y rails h kind n. elim (entry_cases c rails n) [
      | inl e ↦ let w = done.nets.slaves c y rails h kind e in record {
        is_slave = keeps rails.negation.0 (Latch B None) w.is_slave;
        is_bit = keeps rails.bit.0 (Gate (rails.negation ∷ [])) w.is_bit;
        behind = w.behind;
      }
      | inr e ↦ now.slaves rails (ap (λ (z : cells.Cell). z.kind) (last_is c y h e.0) ∙ kind) e.1
    ];
    inputs = λ n l e. elim (cases_lt n (length new)) [
      | inl m ↦ let p = done.nets.inputs n l (in_old n Input e m) in (p.0, now.pads_stay p.0 (record { 0 = n }) p.1)
      | inr m ↦ now.inputs n m e
    ];
    latches = λ n p source l e. elim (cases_lt n (length new)) [
      | inl m ↦ let q = done.nets.latches n p source l (in_old n (Latch p (Some source)) e m) in
          (q.0, now.pads_stay q.0 source q.1)
      | inr m ↦ now.latches n p source m e
    ];
    unfed = λ n p l e. elim (cases_lt n (length new)) [
      | inl m ↦ let q = done.nets.unfed n p l (in_old n (Latch p None) e m) in
          (q.0, q.1, q.2, q.3, q.4, get_kept named (o ∷ []) q.0 (Some q.2) q.5, q.6)
      | inr m ↦ let (kind, (rails, some, stands)) = now.unfed n p m e in
          (i, x, rails, at, kind, entry_last ∙ ap Some some, stands)
    ];
  }

  cost_more : sum_by first_cost (take (i + 1) r.cells) ≡ sum_by first_cost (take i r.cells) + first_cost x
  cost_more =
      let t = take_more r.cells i x (within r.cells i at) in
      let a = sum_by-append first_cost (take i r.cells) (get_or r.cells i x ∷ []) in
      let b = sum_by-cons first_cost (get_or r.cells i x) [] in
      let s = ap (sum_by first_cost) t in
      let y = ap first_cost (value r.cells i at) in omega (arith, a, b, s, y)

  pub first_more : AreFirstDone r (i + 1) old newer next pads_new
  first_more = record {
    added = (
      done.added.0 ++ now.added.0,
      now.added.1 ∙ (ap (λ ps. ps ++ now.added.0) done.added.1 ∙ append_assoc old done.added.0 now.added.0),
    );
    within = let a = done.within.nets in let b = now.within.nets in
        let d = done.within.inputs in let e = now.within.inputs in
        let f = done.within.active in let g = now.within.active in
        record {
          nets = omega (arith, a, b, cost_more);
          inputs = omega (arith, d, e, cost_more);
          active = omega (arith, f, g, cost_more);
        };
    names = more_names;
    nets = more_nets;
    agree = λ v obeys c rails h. elim (entry_cases c rails h) [
      | inl e ↦ done.agree v (obeys_less new newer (length old) (length old) v keeps (omega arith) obeys) c rails e
      | inr e ↦ now.agree v (obeys_less newer newer (length old) (length new) v (λ n p q. q) started obeys) rails e.1
    ];
  }

-- there is room for the next cell
pub room_first : (r : Rtl) (i : ℕ) (d : cells.Cell) (old new : List Part) (named : List (Option Rails))
    (pads : List (Option NetId))
    → i < length r.cells → AreFirstDone r i old new named pads → HasRoom (sum_by first_cost r.cells) old
    → HasRoom (first_cost (get_or r.cells i d)) new
room_first r i d old new named pads l done room =
    let s = sum_least first_cost r.cells i d l in
    let a = done.within.nets in let b = done.within.inputs in
    let c = room.room in let e = room.inputs_room in
    record { room = omega (arith, s, a, c); inputs_room = omega (arith, s, b, e) }
  where
    sum_least : {X : Type 0} (f : X → ℕ) (xs : List X) (i : ℕ) (d : X) → i < length xs
        → sum_by f (take i xs) + f (get_or xs i d) ≤ sum_by f xs
    sum_least f [] i d l = absurd (omega arith)
    sum_least f (x ∷ xs) zero d l = let c = sum_by-cons f x xs in omega (arith, c)
    sum_least f (x ∷ xs) (suc i) d l =
        let c = sum_by-cons f x xs in let b = sum_by-cons f x (take i xs) in
        let h = sum_least f xs i d (omega arith) in
        omega (arith, c, b, h)
