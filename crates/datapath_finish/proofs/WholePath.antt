-- The type of a path that was made, and what is said of it.
use Rattle.std.proofs.Common.{◌≡◌, ℕ, zero, suc, ◌<◌, ◌≤◌, ◌+◌, ◌*◌, ◌⊎◌, inl, inr, List, [], ◌∷◌, ◌++◌, Some, None}
use Rattle.std.proofs.Common.{Bool, true, false, get_or, length, refl, sym, ◌∙◌, ap, subst, arith}
use Rattle.std.specs.Prelude.{◌≢◌, All, Contains, slice_get, if◌then◌else◌}
use Rattle.std.proofs.lemmas.Bool.{false≢true}
use Rattle.std.proofs.lemmas.Nat.{mul-le}
use Rattle.std.proofs.lemmas.Option.{slice_get-get_or, slice_get_within}
use Rattle.std.proofs.lemmas.List.Elements.{All-contains, All-weaker}
use Rattle.mp_base.specs.declared.pad.Pad.{Pad}
use Rattle.mp_base.specs.declared.pad.Pads.{Pads}
use Rattle.mp_base.proofs.Entries.{all_from, contains_from_get, one_entry, some_entry, within}
use Rattle.nor_net.specs.declared.net.NetId.{NetId}
use Rattle.nor_net.specs.declared.net.Part.{Part}
use Rattle.nor_net.specs.declared.net.Part.TheVariants.{Input, Gate, Latch}
use Rattle.nor_net.specs.Shape.{Fed, IsFed, IsNet, gate_inputs, net_limit}
use Rattle.organelles.specs.declared.slices.Chain.{Chain}
use Rattle.organelles.specs.declared.slices.Chain.TheVariants.{Up, Down}
use Rattle.organelles.specs.Computing.{ChainIn}
use Rattle.organelles.specs.Tables.{net_at}
use Rattle.rtl_form.specs.Cost.{cost}
use Rattle.mp_base.specs.Entries.{IsAt}
use Rattle.rtl_form.specs.Environment.{is_driven}
use Rattle.rtl_form.specs.Sound.{IsSound}
use Rattle.rtl_form.specs.declared.rtl.Cell as cells
use Rattle.rtl_form.specs.declared.rtl.CellKind.TheVariants as kinds
use Rattle.rtl_form.specs.declared.rtl.Rtl.{Rtl}
use Rattle.control_nor.specs.Lowering.{Stands}
use Rattle.path_form.specs.declared.path.DataPath.{DataPath}
use Rattle.path_form.specs.declared.path.Lift.{Lift}
use Rattle.path_form.specs.declared.path.Piece.{Piece}
use Rattle.path_form.specs.Shape.{IsPath, PadsFit, chain_from, chain_to, entries_of, is_fed, is_input, times}
use Rattle.path_form.proofs.Joining.{times_append}
use Rattle.path_order.specs.declared.order.Mark.{Mark}
use Rattle.path_order.specs.Marked.{IsMarked, OrdersAreWhole, RiseTo}
use Rattle.path_order.specs.Order.{order_from, start}
use Rattle.datapath_making.specs.declared.making.Making.{Making}
use Rattle.datapath_finish.specs.Finishing.{AreInputNets, AreOutputNets, IsComplete, IsFinished, IsOrdered, IsPathOf}
use Rattle.datapath_making.specs.Steps.{marked}
use Rattle.datapath_making.specs.WellMade.{IsWellMade}
use Rattle.datapath_making.proofs.Beginning.{last_push}
use Rattle.datapath_finish.proofs.Ending.{bit_width, entries_apart, entry_pad, is_word, width_bit, word_width}
use Rattle.datapath_finish.proofs.Finished.{bit_in, bit_out, bit_some, bits_apart, control_inputs_are}
use Rattle.datapath_finish.proofs.Finished.{control_latches_are, fed_test, input_some, slice_inputs_are}
use Rattle.datapath_finish.proofs.Finished.{slice_latches_are, word_in, word_out, word_times}
use Rattle.datapath_making.proofs.Lists.{one_stands, times_entry, times_some}

same_output : (j k : ℕ) → kinds.Output j ≡ kinds.Output k → j ≡ k
same_output j k e = cc

chain_ends_in : (n : ℕ) (c : Chain) → ChainIn n c → ((chain_from c).0 < n) × ((chain_to c).0 < n)
chain_ends_in n (Up from to) h = h
chain_ends_in n (Down from to) h = h

-- counts of at most 1 that are not both 1
one_of : (a b : ℕ) → a ≤ 1 → b ≤ 1 → (1 ≤ a → 1 ≤ b → ⊥) → a + b ≤ 1
one_of zero b p q apart = omega (arith, q)
one_of (suc a) zero p q apart = omega (arith, p)
one_of (suc a) (suc b) p q apart = absurd (apart (omega arith) (omega arith))

abbrev one_bit : Bool → ℕ
one_bit b = if b then 1 else 0

module _ (r : Rtl) (m : Making) (sound : IsSound r) (light : cost r ≤ 1024) (h : IsComplete r m)
    (inputs outputs : List NetId) (ins : AreInputNets r m (length (r.pads).inputs) inputs)
    (outs : AreOutputNets r m (length r.cells) outputs) where
  abbrev in_pads : List Pad
  in_pads = (r.pads).inputs

  abbrev out_pads : List Pad
  out_pads = (r.pads).outputs

  abbrev words : List NetId
  words = entries_of true in_pads inputs

  abbrev bits : List NetId
  bits = entries_of false in_pads inputs

  abbrev word_outs : List NetId
  word_outs = entries_of true out_pads outputs

  abbrev bit_outs : List NetId
  bit_outs = entries_of false out_pads outputs

  -- ---- no two pads have one net

  module _ (n : ℕ) where
    found_bit : 1 ≤ times n bit_outs → (c : ℕ) × (x : cells.Cell) × (id : NetId) × IsAt r.cells c x
        × ((k : ℕ) × (x.kind ≡ kinds.Output k)) × Stands m.names.cells c id × (id.0 ≡ n)
    found_bit l =
        let t = times_entry n bit_outs l in
        let e = entry_pad false out_pads outputs t.1 (contains_from_get bit_outs t.0 t.1 t.2) in
        let o = bit_out r m sound h inputs outputs ins outs e.0 e.1 t.1 e.2 e.3 e.4 in
        (o.0, o.1, t.1, o.2, (e.0, o.3), o.4, t.3)

    found_word : 1 ≤ times n word_outs → (c : ℕ) × (id : NetId) × Stands m.cell_words c id × (id.0 ≡ n)
    found_word l =
        let t = times_entry n word_outs l in
        let e = entry_pad true out_pads outputs t.1 (contains_from_get word_outs t.0 t.1 t.2) in
        let o = word_out r m sound h inputs outputs ins outs e.0 e.1 t.1 e.2 e.3 e.4 in
        (o.0, t.1, o.4, t.3)

    same_net : (x y : NetId) → x.0 ≡ n → y.0 ≡ n → x ≡ y
    same_net x y e f = ap net_at (e ∙ sym f)

    bit_outs_apart : times n bit_outs ≤ 1
    bit_outs_apart = entries_apart false n out_pads outputs (λ j k p q x y a b c d e f g i.
        let u = bit_out r m sound h inputs outputs ins outs j p x a c e in
        let v = bit_out r m sound h inputs outputs ins outs k q y b d f in
        let one = h.lowered.cells_apart u.0 v.0 x u.4
        (subst (λ (id : NetId). Stands m.names.cells v.0 id) (same_net y x i g) v.4) in
        let cell = one_entry r.cells u.0 u.1 v.1 u.2 (subst (λ c. IsAt r.cells c v.1) (sym one) v.2) in
        same_output j k (sym u.3 ∙ (ap (λ (x : cells.Cell). x.kind) cell ∙ v.3)))

    word_outs_apart : times n word_outs ≤ 1
    word_outs_apart = entries_apart true n out_pads outputs (λ j k p q x y a b c d e f g i.
        let u = word_out r m sound h inputs outputs ins outs j p x a c e in
        let v = word_out r m sound h inputs outputs ins outs k q y b d f in
        let one = h.made.named.cells_apart u.0 v.0 x u.4
        (subst (λ (id : NetId). Stands m.cell_words v.0 id) (same_net y x i g) v.4) in
        let cell = one_entry r.cells u.0 u.1 v.1 u.2 (subst (λ c. IsAt r.cells c v.1) (sym one) v.2) in
        same_output j k (sym u.3 ∙ (ap (λ (x : cells.Cell). x.kind) cell ∙ v.3)))

    bits_no_outs : 1 ≤ times n bits → 1 ≤ times n bit_outs → ⊥
    bits_no_outs a b =
        let p = bit_some r m sound h inputs outputs ins outs n a in
        let i = h.lowered.inputs.pads p.0 p.1 p.2 in
        let o = found_bit b in
        let d = h.lowered.driven o.0 o.1 o.2 o.3
        (ap is_driven o.4.1) o.5 in
        false≢true (sym (ap is_input d.1) ∙ (ap (λ k. is_input (slice_get m.control k)) (o.6 ∙ sym p.3)
        ∙ ap is_input i))

    word_input : 1 ≤ times n words → is_input (slice_get m.slices.net n) ≡ true
    word_input l = by_test (is_input (slice_get m.slices.net n)) refl
      where
        by_test : (t : Bool) → is_input (slice_get m.slices.net n) ≡ t → is_input (slice_get m.slices.net n) ≡ true
        by_test true q = q
        by_test false q =
            absurd (let w = word_times r m sound h inputs outputs ins outs n in
            let z = ap one_bit q in omega (arith, l, w, z))

    words_no_outs : 1 ≤ times n words → 1 ≤ times n word_outs → ⊥
    words_no_outs a b =
        let o = found_word b in
        false≢true (sym (h.made.named.cells_made o.0 o.1 o.2)
        ∙ (ap (λ k. is_input (slice_get m.slices.net k)) o.3 ∙ word_input a))

    words_apart : times n words ≤ 1
    words_apart = by_test (is_input (slice_get m.slices.net n)) refl
      where
        by_test : (t : Bool) → is_input (slice_get m.slices.net n) ≡ t → times n words ≤ 1
        by_test true q =
            let w = word_times r m sound h inputs outputs ins outs n in
            let z = ap one_bit q in omega (arith, w, z)
        by_test false q =
            let w = word_times r m sound h inputs outputs ins outs n in
            let z = ap one_bit q in omega (arith, w, z)

    bits_all_apart : times n (bits ++ bit_outs) ≤ 1
    bits_all_apart =
        let t = times_append n bits bit_outs in
        let o = one_of (times n bits) (times n bit_outs) (bits_apart r m sound h inputs outputs ins outs n)
        bit_outs_apart bits_no_outs in
        omega (arith, t, o)

    words_all_apart : times n (words ++ word_outs) ≤ 1
    words_all_apart =
        let t = times_append n words word_outs in
        let o = one_of (times n words) (times n word_outs) words_apart word_outs_apart words_no_outs in
        omega (arith, t, o)

  -- ---- the nets of pads are there

  bit_within : All (λ (id : NetId). id.0 < length m.control) bits
  bit_within = all_from (λ (id : NetId). id.0 < length m.control) bits (λ i id e.
      let p = entry_pad false in_pads inputs id (contains_from_get bits i id e) in
      slice_get_within m.control id.0 Input (h.lowered.inputs.pads p.0 id
      (bit_in r m sound h inputs outputs ins outs p.0 p.1 id p.2 p.3 p.4)))

  word_within : All (λ (id : NetId). id.0 < length m.slices.net) words
  word_within = all_from (λ (id : NetId). id.0 < length m.slices.net) words (λ i id e.
      slice_get_within m.slices.net id.0 Input (input_some m.slices.net id.0
      (word_input id.0 (times_some words i id e))))

  bit_out_within : All (λ (id : NetId). id.0 < length m.control) bit_outs
  bit_out_within = all_from (λ (id : NetId). id.0 < length m.control) bit_outs (λ i id e.
      let p = entry_pad false out_pads outputs id (contains_from_get bit_outs i id e) in
      let o = bit_out r m sound h inputs outputs ins outs p.0 p.1 id p.2 p.3 p.4 in
      let d = h.lowered.driven o.0 o.1 id o.2 (ap is_driven o.3) o.4 in
      slice_get_within m.control id.0 (Gate d.0) d.1)

  word_out_within : All (λ (id : NetId). id.0 < length m.slices.net) word_outs
  word_out_within = all_from (λ (id : NetId). id.0 < length m.slices.net) word_outs (λ i id e.
      let p = entry_pad true out_pads outputs id (contains_from_get word_outs i id e) in
      let o = word_out r m sound h inputs outputs ins outs p.0 p.1 id p.2 p.3 p.4 in
      h.made.named.cells_in o.0 id o.4)

  -- ---- widths, data and sizes

  fit : (w : ℕ) → (w ≡ r.width) ⊎ (w ≡ 0) → w ≢ 0 → w ≡ m.width
  fit w (inl e) ne = e ∙ sym h.width
  fit w (inr e) ne = absurd (ne e)

  in_pads_fit : PadsFit m.width in_pads
  in_pads_fit = all_from (λ (p : Pad). p.width ≢ 0 → p.width ≡ m.width) in_pads
      (λ k p e. fit p.width (sound.inputs k p e))

  out_pads_fit : PadsFit m.width out_pads
  out_pads_fit = all_from (λ (p : Pad). p.width ≢ 0 → p.width ≡ m.width) out_pads
      (λ k p e. fit p.width (sound.outputs k p e))

  control_is_fed : IsFed m.control
  control_is_fed = subst (All Fed) (sym h.lowered.added.1) h.lowered.added.2

  slices_are_fed : IsFed m.slices.net
  slices_are_fed = all_from Fed m.slices.net by_part
    where
      by_part : (n : ℕ) (q : Part) → slice_get m.slices.net n ≡ Some q → Fed q
      by_part n Input e = tt
      by_part n (Gate inputs) e = tt
      by_part n (Latch phase None) e = absurd (h.fed n (phase, e))
      by_part n (Latch phase (Some source)) e = refl

  low_width : m.width ≤ 64
  low_width = let w = h.width in let s = sound.width.1 in omega (arith, w, s)

  few : (a b c : ℕ) → a ≤ 4096 → b + c ≤ 4096 → a + m.width * (b + c) < net_limit
  few a b c p q =
      let t = mul-le m.width (b + c) 64 4096 low_width q in
      let e : 64 * 4096 ≡ 262144 = refl in
      let f : net_limit ≡ 16777216 = refl in
      omega (arith, p, t, e, f)

  -- ---- the order

  module _ (well : IsWellMade (marked (length m.control) m)) where
    abbrev end : Mark
    end = record { slices = length m.slices.net; control = length m.control }

    abbrev all_marks : List Mark
    all_marks = m.marks ++ end ∷ []

    pub all_marked : IsMarked m.width m.control m.slices m.casts m.lifts all_marks
    all_marked = record {
      rise = subst (λ (k : Mark). RiseTo k start all_marks) (last_push start end m.marks) well.marks.rise;
      ups = well.marks.ups;
      downs = well.marks.downs;
      cast_marks = well.marks.casts;
      lift_marks = λ l i. (
        (All-contains
            (λ (l : Lift). (l.slice < m.width) × (l.from.0 < length m.slices.net)) m.lifts l h.made.joined.lifts_in
            i).0,
        well.marks.lifts l i,
      );
    }

    module _ (control_net : IsNet m.control) (slice_net : IsNet m.slices.net) (orders : OrdersAreWhole) where
      pub whole_path : IsPath m.width m.control m.slices m.casts m.lifts r.pads inputs outputs
          (order_from m.width start all_marks)
      whole_path =
          let o = orders m.width m.control m.slices m.casts m.lifts all_marks control_net control_is_fed slice_net
          slices_are_fed all_marked in
          let c = h.lowered.few in
          let i = h.lowered.few_inputs in
          let n = h.nets in
          let j = h.inputs in
          record {
            width = ((let s = sound.width.0 in let w = h.width in omega (arith, s, w)), low_width);
            pads_fit = (in_pads_fit, out_pads_fit);
            entries_fit = ((ins.count, bit_within, word_within), (outs.count, bit_out_within, word_out_within));
            chains_in = All-weaker (ChainIn (length m.slices.net))
                (λ k. ((chain_from k).0 < length m.slices.net) × ((chain_to k).0 < length m.slices.net))
                (chain_ends_in (length m.slices.net)) m.slices.chains h.made.joined.chains_in;
            ends_differ = h.made.joined.ends_differ;
            casts_in = h.made.joined.casts_in;
            lifts_in = h.made.joined.lifts_in;
            fed = (
              All-weaker Fed (λ q. is_fed q ≡ true) fed_test m.control control_is_fed,
              All-weaker Fed (λ q. is_fed q ≡ true) fed_test m.slices.net slices_are_fed,
            );
            control_inputs = control_inputs_are r m sound h inputs outputs ins outs;
            slice_inputs = slice_inputs_are r m sound h inputs outputs ins outs;
            latches = (
              control_latches_are r m sound h inputs outputs ins outs,
              slice_latches_are r m sound h inputs outputs ins outs,
            );
            apart = (bits_all_apart, words_all_apart);
            once = o.0;
            ordered = o.1;
            few_nets = few (length m.control) (length m.slices.net + length m.slices.chains)
                (length m.slices.programs) (omega (arith, c, light)) (omega (arith, n));
            few_inputs = few (gate_inputs m.control) (gate_inputs m.slices.net + length m.slices.chains)
                (length m.slices.programs) (omega (arith, i, light)) (omega (arith, j));
          }

  -- the same where the last mark was set
  pub whole_now : OrdersAreWhole → (now : Making) (order : List Piece) → IsOrdered m now order → (pads : Pads)
      → pads ≡ r.pads → IsPath now.width now.control now.slices now.casts now.lifts pads inputs outputs order
  whole_now orders now order o pads p =
      let well : IsWellMade (marked (length m.control) m) = subst IsWellMade o.marked o.made in
      subst (λ (n : Making). order ≡ order_from n.width start n.marks
      → IsPath n.width n.control n.slices n.casts n.lifts pads inputs outputs order) (sym o.marked)
      (λ e. subst (λ (q : Pads). IsPath m.width m.control m.slices m.casts m.lifts q inputs outputs order) (sym p)
      (subst (IsPath m.width m.control m.slices m.casts m.lifts r.pads inputs outputs) (sym e)
      (whole_path well o.control o.slices orders))) o.order

  -- ---- what is said of it

  word_pad_at : (k : ℕ) (id : NetId) → Stands m.pads k id → slice_get inputs k ≡ Some id
  word_pad_at k id s = by_kind (is_word pad) refl
    where
      inside : k < length in_pads
      inside = let l = slice_get_within m.pads k (Some id) s in let c = h.pad_count in omega (arith, l, c)

      pad : Pad
      pad = (some_entry in_pads k inside).0

      at_pad : IsAt in_pads k pad
      at_pad = (some_entry in_pads k inside).1

      there : slice_get inputs k ≡ Some (get_or inputs k id)
      there = slice_get-get_or inputs k id (let c = ins.count in omega (arith, inside, c))

      by_kind : (t : Bool) → is_word pad ≡ t → slice_get inputs k ≡ Some id
      by_kind true q =
          let w = word_in r m sound h inputs outputs ins outs k pad (get_or inputs k id) at_pad there q in
          there ∙ ap Some (one_stands m.pads k (get_or inputs k id) id w s)
      by_kind false q = absurd (h.bit_pads k pad id at_pad s (bit_width pad q))

  bit_pad_at : (k : ℕ) (id : NetId) → Stands m.names.inputs k id → slice_get inputs k ≡ Some id
  bit_pad_at k id s =
      there ∙ ap Some (one_stands m.names.inputs k (get_or inputs k id) id
      (bit_in r m sound h inputs outputs ins outs k pad (get_or inputs k id) at_pad there
      (width_bit pad ((h.lowered.pad_names k pad at_pad).1 (id, s)))) s)
    where
      inside : k < length in_pads
      inside = let l = slice_get_within m.names.inputs k (Some id) s in let c = h.lowered.pad_count in
          omega (arith, l, c)

      pad : Pad
      pad = (some_entry in_pads k inside).0

      at_pad : IsAt in_pads k pad
      at_pad = (some_entry in_pads k inside).1

      there : slice_get inputs k ≡ Some (get_or inputs k id)
      there = slice_get-get_or inputs k id (let c = ins.count in omega (arith, inside, c))

  word_pad_of : (id : NetId) → Contains words id
      → (k : ℕ) × (pad : Pad) × IsAt in_pads k pad × (pad.width ≢ 0) × Stands m.pads k id
  word_pad_of id c =
      let e = entry_pad true in_pads inputs id c in (
        e.0,
        e.1,
        e.2,
        word_width e.1 e.4,
        word_in r m sound h inputs outputs ins outs e.0 e.1 id e.2 e.3 e.4,
      )

  bit_pad_of : (id : NetId) → Contains bits id
      → (k : ℕ) × (pad : Pad) × IsAt in_pads k pad × (pad.width ≡ 0) × Stands m.names.inputs k id
  bit_pad_of id c =
      let e = entry_pad false in_pads inputs id c in (
        e.0,
        e.1,
        e.2,
        bit_width e.1 e.4,
        bit_in r m sound h inputs outputs ins outs e.0 e.1 id e.2 e.3 e.4,
      )

  pub finished : (p : DataPath) → p.width ≡ m.width → p.control ≡ m.control → p.slices ≡ m.slices
      → p.casts ≡ m.casts → p.lifts ≡ m.lifts → p.pads ≡ r.pads → p.inputs ≡ inputs → p.outputs ≡ outputs
      → IsFinished r m p
  finished p width control slices casts lifts pads ins_are outs_are = record {
    width = width ∙ h.width;
    control = control;
    slices = slices;
    casts = casts;
    lifts = lifts;
    pads = pads;
    word_inputs = λ k id s. ap (λ xs. slice_get xs k) ins_are ∙ word_pad_at k id s;
    bit_inputs = λ k id s. ap (λ xs. slice_get xs k) ins_are ∙ bit_pad_at k id s;
    word_pads = λ id c. word_pad_of id (subst (λ (xs : List NetId). Contains (entries_of true in_pads xs) id) ins_are
        c);
    bit_pads = λ id c. bit_pad_of id (subst (λ (xs : List NetId). Contains (entries_of false in_pads xs) id) ins_are c);
    word_outputs = λ c k x id at kind word e.
        (outs.each c k x id (within r.cells c at) at kind (ap (λ xs. slice_get xs k) (sym outs_are) ∙ e)).0 word;
    bit_outputs = λ c k x id at kind bit e.
        (outs.each c k x id (within r.cells c at) at kind (ap (λ xs. slice_get xs k) (sym outs_are) ∙ e)).1 bit;
  }

  pub finished_now : (now : Making) (order : List Piece) → IsOrdered m now order → (pads : Pads) → pads ≡ r.pads
      → (p : DataPath)
      → IsPathOf now (record { pads = pads; inputs = inputs; outputs = outputs; order = order }) p → IsFinished r m p
  finished_now now order o pads e p =
      subst (λ (n : Making).
      IsPathOf n (record { pads = pads; inputs = inputs; outputs = outputs; order = order }) p → IsFinished r m p)
      (sym o.marked) (λ q. finished p q.width q.control q.slices q.casts q.lifts (q.pads ∙ e) q.inputs q.outputs)
