-- A path in the making that is complete is a path.
use Rattle.std.proofs.Common.{◌≡◌, ℕ, zero, suc, ◌<◌, ◌≤◌, ◌+◌, ◌⊎◌, inl, inr, List, [], ◌∷◌, Option, Some, None, Bool}
use Rattle.std.proofs.Common.{true, false, cond, get_or, length, map, refl, sym, ◌∙◌, ap, subst, arith}
use Rattle.std.specs.Prelude.{All, Contains, slice_get, if◌then◌else◌}
use Rattle.std.proofs.lemmas.Bool.{false≢true, cases_eq}
use Rattle.std.proofs.lemmas.Option.{same_Some, slice_get-get_or, slice_get_within}
use Rattle.mp_base.specs.declared.pad.Pad.{Pad}
use Rattle.mp_base.proofs.Entries.{contains_from_get, one_entry, some_entry, within}
use Rattle.nor_net.specs.declared.net.NetId.{NetId}
use Rattle.nor_net.specs.declared.net.Part.{Part}
use Rattle.nor_net.specs.declared.net.Part.TheVariants.{Input, Gate, Latch}
use Rattle.nor_net.specs.Shape.{Fed}
use Rattle.nor_net.proofs.Parts.{same_net}
use Rattle.organelles.specs.Tables.{net_at}
use Rattle.mp_base.specs.Entries.{IsAt}
use Rattle.rtl_form.specs.Sound.{CellFits, IsSound}
use Rattle.rtl_form.specs.declared.rtl.Cell as cells
use Rattle.rtl_form.specs.declared.rtl.CellKind.TheVariants as kinds
use Rattle.rtl_form.specs.declared.rtl.RtlExpr.{RtlExpr}
use Rattle.rtl_form.specs.declared.rtl.Rtl.{Rtl}
use Rattle.task_schedule.specs.declared.task.Task.TheVariants as tasks
use Rattle.control_nor.specs.Lowering.{IsEntry, IsEntered, Stands, nets_before}
use Rattle.path_form.specs.declared.path.Lift.{Lift}
use Rattle.path_form.specs.Shape.{AreInputs, control_ends, entries_of, is_fed, is_input, slice_ends, takes_pad, times}
use Rattle.path_form.proofs.Joining.{times_append, is_one_input}
use Rattle.datapath_making.specs.declared.making.Making.{Making}
use Rattle.datapath_finish.specs.Finishing.{AreInputNets, AreOutputNets, IsComplete}
use Rattle.datapath_making.specs.WellMade.{present}
use Rattle.datapath_finish.proofs.Ending.{bit_width, entries_apart, entries_present, entry_pad, inputs_from}
use Rattle.datapath_finish.proofs.Ending.{is_word, pad_entry, takes_from, width_bit, word_width}
use Rattle.datapath_making.proofs.Entering.{ends_count}
use Rattle.datapath_making.proofs.Lists.{one_else, one_here, one_stands, times_entry}

pub input_some : (net : List Part) (n : ℕ) → is_input (slice_get net n) ≡ true → slice_get net n ≡ Some Input
input_some net n e = is_one_input (slice_get net n) e

pub fed_test : (q : Part) → Fed q → is_fed q ≡ true
fed_test Input h = refl
fed_test (Gate inputs) h = refl
fed_test (Latch phase None) h = absurd (false≢true h)
fed_test (Latch phase (Some source)) h = refl

lifted_times : (lifts : List Lift) (l : Lift) → Contains lifts l
    → 1 ≤ times l.control.0 (map (λ (l : Lift). l.control) lifts)
lifted_times [] l (i, k, e) = absurd (omega (arith, k))
lifted_times (x ∷ lifts) l (zero, k, e) =
    let o = one_here l.control.0 x.control (ap (λ (y : Lift). y.control.0) e) in omega (arith, o)
lifted_times (x ∷ lifts) l (suc i, k, e) =
    let r = lifted_times lifts l (i, omega (arith, k), e) in omega (arith, r)

times_lifted : (n : ℕ) (lifts : List Lift) → 1 ≤ times n (map (λ (l : Lift). l.control) lifts)
    → (l : Lift) × Contains lifts l × (l.control.0 ≡ n)
times_lifted n [] k = absurd (omega (arith, k))
times_lifted n (x ∷ lifts) k =
    by_head (cases_eq x.control.0 n) (times_lifted n lifts)
  where
    by_head : (x.control.0 ≡ n) ⊎ (x.control.0 ≡ n → ⊥)
        → (1 ≤ times n (map (λ (l : Lift). l.control) lifts) → (l : Lift) × Contains lifts l × (l.control.0 ≡ n))
        → (l : Lift) × Contains (x ∷ lifts) l × (l.control.0 ≡ n)
    by_head (inl e) again = (x, (0, omega arith, refl), e)
    by_head (inr ne) again =
        let o = one_else n x.control ne in
        let (lift, (at, within, here), is) = again (omega (arith, k, o)) in
        (lift, (suc at, omega (arith, within), here), is)

module _ (r : Rtl) (m : Making) (sound : IsSound r) (h : IsComplete r m) (inputs outputs : List NetId)
    (ins : AreInputNets r m (length (r.pads).inputs) inputs) (outs : AreOutputNets r m (length r.cells) outputs)
  where
    abbrev in_pads : List Pad
    in_pads = (r.pads).inputs

    abbrev out_pads : List Pad
    out_pads = (r.pads).outputs

    -- ---- the nets of pads

    pub word_in : (k : ℕ) (pad : Pad) (id : NetId) → slice_get in_pads k ≡ Some pad → slice_get inputs k ≡ Some id
        → is_word pad ≡ true → Stands m.pads k id
    word_in k pad id a b c = (ins.each k pad id a b).1 (word_width pad c)

    pub bit_in : (k : ℕ) (pad : Pad) (id : NetId) → slice_get in_pads k ≡ Some pad → slice_get inputs k ≡ Some id
        → is_word pad ≡ false → Stands m.names.inputs k id
    bit_in k pad id a b c = (ins.each k pad id a b).0 (bit_width pad c)

    -- the cell of an output pad
    output_cell : (k : ℕ) (pad : Pad) → slice_get out_pads k ≡ Some pad
        → (c : ℕ) × (x : cells.Cell) × IsAt r.cells c x × (x.kind ≡ kinds.Output k) × (x.word ≡ is_word pad)
    output_cell k pad a =
        let (c, (x, at, kind), _) = sound.output_cells k (slice_get_within out_pads k pad a) in
        let fits = subst (CellFits r x) kind (sound.cells c x at) in
        let same = one_entry out_pads k fits.0 pad fits.1 a in
        (c, x, at, kind, fits.2 ∙ ap is_word same)

    pub word_out : (k : ℕ) (pad : Pad) (id : NetId) → slice_get out_pads k ≡ Some pad → slice_get outputs k ≡ Some id
        → is_word pad ≡ true → (c : ℕ) × (x : cells.Cell) × IsAt r.cells c x × (x.kind ≡ kinds.Output k)
        × Stands m.cell_words c id
    word_out k pad id a b w =
        let o = output_cell k pad a in
        (o.0, o.1, o.2, o.3, (outs.each o.0 k o.1 id (within r.cells o.0 o.2) o.2 o.3 b).0 (o.4 ∙ w))

    pub bit_out : (k : ℕ) (pad : Pad) (id : NetId) → slice_get out_pads k ≡ Some pad → slice_get outputs k ≡ Some id
        → is_word pad ≡ false → (c : ℕ) × (x : cells.Cell) × IsAt r.cells c x × (x.kind ≡ kinds.Output k)
        × Stands m.names.cells c id
    bit_out k pad id a b w =
        let o = output_cell k pad a in
        (o.0, o.1, o.2, o.3, (outs.each o.0 k o.1 id (within r.cells o.0 o.2) o.2 o.3 b).1 (o.4 ∙ w))

    -- the pads of the slices are those that were made
    pub words_are : entries_of true in_pads inputs ≡ present m.pads
    words_are = entries_present in_pads inputs m.pads ins.count h.pad_count
        (λ k pad id entry a b c. by_kind k pad id entry a b c (is_word pad) refl)
      where
        by_kind : (k : ℕ) (pad : Pad) (id : NetId) (entry : Option NetId) → slice_get in_pads k ≡ Some pad
            → slice_get inputs k ≡ Some id → slice_get m.pads k ≡ Some entry → (t : Bool) → is_word pad ≡ t
            → entry ≡ (if t then Some id else None)
        by_kind k pad id entry a b c true q =
            same_Some entry (Some id) (sym c ∙ word_in k pad id a b q)
        by_kind k pad id (Some x) a b c false q =
            absurd (h.bit_pads k pad x a c (bit_width pad q))
        by_kind k pad id None a b c false q = refl

    abbrev words : List NetId
    words = entries_of true in_pads inputs

    abbrev bits : List NetId
    bits = entries_of false in_pads inputs

    abbrev word_outs : List NetId
    word_outs = entries_of true out_pads outputs

    abbrev bit_outs : List NetId
    bit_outs = entries_of false out_pads outputs

    -- ---- the inputs of the slices

    pub slice_inputs_are : AreInputs m.slices.net (slice_ends words m.slices m.casts)
    slice_inputs_are =
        subst (λ (ps : List NetId). AreInputs m.slices.net (slice_ends ps m.slices m.casts)) (sym words_are)
        (inputs_from m.slices.net (slice_ends (present m.pads) m.slices m.casts) h.made.entered.once)

    pub slice_latches_are : All (λ part. takes_pad m.slices.net words part ≡ true) m.slices.net
    slice_latches_are =
        subst (λ (ps : List NetId). All (λ part. takes_pad m.slices.net ps part ≡ true) m.slices.net) (sym words_are)
        (takes_from m.slices.net (present m.pads)
        (λ n phase source e q. (h.made.entered.latches n phase source e).pad q))

    pub word_times : (n : ℕ) → times n words ≤ (if is_input (slice_get m.slices.net n) then 1 else 0)
    word_times n =
        let w = ap (times n) words_are in
        let c = ends_count n (present m.pads) m.slices m.casts in
        let o = h.made.entered.once n in
        omega (arith, w, c, o)

    -- ---- the inputs of the control

    abbrev control : List Part
    control = m.control

    start_below : (t : ℕ) → t ≤ length m.names.tasks → m.names.start ≤ nets_before m.names t
    start_below zero l = omega arith
    start_below (suc t) l =
        let a = start_below t (omega (arith, l)) in
        let b = h.lowered.placed.rise t (omega (arith, l)) in
        omega (arith, a, b)

    -- where a word enters is no pad
    entry_behind : (e : ℕ) (x : RtlExpr) (id : NetId) → IsAt r.exprs e x → IsEntry x → Stands m.names.exprs e id
        → m.names.start ≤ id.0
    entry_behind e x id at is stands =
        let t = h.lowered.placed.schedule.all (tasks.Expr e) (within r.exprs e at) in
        let l = slice_get_within m.names.tasks t.0 (tasks.Expr e) t.1 in
        let a = h.lowered.placed.entries t.0 e x id t.1 at is stands in
        let b = start_below t.0 (omega (arith, l)) in
        omega (arith, a, b)

    pub bit_some : (n : ℕ) → 1 ≤ times n bits → (k : ℕ) × (id : NetId) × Stands m.names.inputs k id × (id.0 ≡ n)
    bit_some n l =
        let t = times_entry n bits l in
        let e = entry_pad false in_pads inputs t.1 (contains_from_get bits t.0 t.1 t.2) in
        (e.0, t.1, bit_in e.0 e.1 t.1 e.2 e.3 e.4, t.3)

    lift_some : (n : ℕ) → 1 ≤ times n (map (λ (l : Lift). l.control) m.lifts)
        → (e : ℕ) × (x : RtlExpr) × (id : NetId) × IsAt r.exprs e x × IsEntry x × Stands m.names.exprs e id × (id.0 ≡ n)
    lift_some n k =
        let t = times_lifted n m.lifts k in
        let e = h.lifted t.0 t.1 in
        (e.0, e.1, t.0.control, e.2, e.3, e.4, t.2)

    not_both : (n : ℕ) → 1 ≤ times n bits → 1 ≤ times n (map (λ (l : Lift). l.control) m.lifts) → ⊥
    not_both n a b =
        let p = bit_some n a in
        let q = lift_some n b in
        let x = h.lowered.placed.pads p.0 p.1 p.2 in
        let y = entry_behind q.0 q.1 q.2 q.3 q.4 q.5 in
        let z = x.1 in let u = p.3 in let v = q.6 in
        omega (arith, z, y, u, v)

    pub bits_apart : (n : ℕ) → times n bits ≤ 1
    bits_apart n = entries_apart false n in_pads inputs
        (λ j k p q x y a b c d e f g i.
        h.lowered.inputs.pads_apart j k x (bit_in j p x a c e)
        (subst (λ (id : NetId). Stands m.names.inputs k id) (same_net y x (i ∙ sym g)) (bit_in k q y b d f)))

    bit_times : (k : ℕ) (id : NetId) → Stands m.names.inputs k id → 1 ≤ times id.0 bits
    bit_times k id s =
        let l = slice_get_within m.names.inputs k (Some id) s in
        let in_l : k < length in_pads = let c = h.lowered.pad_count in omega (arith, l, c) in
        let pad = get_or in_pads k (get_or in_pads k (some_pad in_l)) in
        let at_pad = slice_get-get_or in_pads k (get_or in_pads k (some_pad in_l)) in_l in
        let width = (h.lowered.pad_names k pad at_pad).1 (id, s) in
        let ids_l : k < length inputs = let c = ins.count in omega (arith, in_l, c) in
        let other = get_or inputs k id in
        let at_id = slice_get-get_or inputs k id ids_l in
        let stands = bit_in k pad other at_pad at_id (width_bit pad width) in
        let same = one_stands m.names.inputs k other id stands s in
        pad_entry false in_pads inputs k pad id at_pad (at_id ∙ ap Some same) (width_bit pad width)
      where
        some_pad : k < length in_pads → Pad
        some_pad l = (some_entry in_pads k l).0

    control_once : (n : ℕ) → times n (control_ends bits m.lifts) ≡ (if is_input (slice_get control n) then 1 else 0)
    control_once n = by_test (is_input (slice_get control n)) refl
      where
        total : times n (control_ends bits m.lifts)
            ≡ times n bits + times n (map (λ (l : Lift). l.control) m.lifts)
        total = times_append n bits (map (λ (l : Lift). l.control) m.lifts)

        none_lifted : 1 ≤ times n bits → times n (map (λ (l : Lift). l.control) m.lifts) ≡ 0
        none_lifted l = by_count (times n (map (λ (l : Lift). l.control) m.lifts)) refl
          where
            by_count : (t : ℕ) → times n (map (λ (l : Lift). l.control) m.lifts) ≡ t
                → times n (map (λ (l : Lift). l.control) m.lifts) ≡ 0
            by_count zero q = q
            by_count (suc t) q = absurd (not_both n l (omega (arith, q)))

        none_bits : 1 ≤ times n (map (λ (l : Lift). l.control) m.lifts) → times n bits ≡ 0
        none_bits l = by_count (times n bits) refl
          where
            by_count : (t : ℕ) → times n bits ≡ t → times n bits ≡ 0
            by_count zero q = q
            by_count (suc t) q = absurd (not_both n (omega (arith, q)) l)

        entered : IsEntered r m.names (net_at n) → times n (control_ends bits m.lifts) ≡ 1
        entered (inl p) =
            let a = bit_times p.0 (net_at n) p.1 in
            let b = bits_apart n in
            let c = none_lifted a in
            omega (arith, total, a, b, c)
        entered (inr (e, x, at, is, s)) =
            let l = h.entries e x (net_at n) at is s in
            let a = subst (λ k. 1 ≤ times k (map (λ (l : Lift). l.control) m.lifts))
            (ap (λ (i : NetId). i.0) l.2) (lifted_times m.lifts l.0 l.1) in
            let b = h.made.joined.lifts_apart n in
            let c = none_bits a in
            omega (arith, total, a, b, c)

        no_bits : is_input (slice_get control n) ≡ false → (t : ℕ) → times n bits ≡ t → times n bits ≡ 0
        no_bits q zero e = e
        no_bits q (suc t) e =
            absurd (let p = bit_some n (omega (arith, e)) in
            let i = h.lowered.inputs.pads p.0 p.1 p.2 in
            false≢true (sym q ∙ ap is_input (ap (slice_get control) (sym p.3) ∙ i)))

        no_lifts : is_input (slice_get control n) ≡ false → (t : ℕ)
            → times n (map (λ (l : Lift). l.control) m.lifts) ≡ t
            → times n (map (λ (l : Lift). l.control) m.lifts) ≡ 0
        no_lifts q zero e = e
        no_lifts q (suc t) e =
            absurd (let p = lift_some n (omega (arith, e)) in
            let i = h.lowered.inputs.entries p.0 p.1 p.2 p.3 p.4 p.5 in
            false≢true (sym q ∙ ap is_input (ap (slice_get control) (sym p.6) ∙ i)))

        by_test : (t : Bool) → is_input (slice_get control n) ≡ t
            → times n (control_ends bits m.lifts) ≡ (if is_input (slice_get control n) then 1 else 0)
        by_test true q =
            entered (h.lowered.inputs.only (net_at n) (omega arith) (input_some control n q))
            ∙ sym (ap (λ b. cond b 1 0) q)
        by_test false q =
            let a = no_bits q (times n bits) refl in
            let b = no_lifts q (times n (map (λ (l : Lift). l.control) m.lifts)) refl in
            let z : times n (control_ends bits m.lifts) ≡ 0 = omega (arith, total, a, b) in
            z ∙ sym (ap (λ b. cond b 1 0) q)

    pub control_inputs_are : AreInputs control (control_ends bits m.lifts)
    control_inputs_are = inputs_from control (control_ends bits m.lifts) control_once

    pub control_latches_are : All (λ part. takes_pad control bits part ≡ true) control
    control_latches_are = takes_from control bits (λ n phase source e q.
        let p = h.lowered.inputs.latches n phase source (omega arith) e q in bit_times p.0 source p.1)
