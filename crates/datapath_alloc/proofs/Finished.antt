-- The path that was made stands for the transfers, within their cost.
use Rattle.std.proofs.Common.{◌≡◌, ℕ, suc, List, [], Some, true, false, length, refl, sym, ◌∙◌, ap, subst, arith}
use Rattle.nor_net.specs.Machine.{Stores, Ports}
use Rattle.std.specs.Prelude.{Contains, not, slice_get, slice_index_or}
use Rattle.std.proofs.lemmas.Bool.{eq-eqb, or_left}
use Rattle.std.proofs.lemmas.Option.{same_Some, slice_get_within}
use Rattle.std.proofs.lemmas.Map.Keys.{any_passes_from_place}
use Rattle.mp_base.specs.declared.op.Op.{Op}
use Rattle.mp_base.specs.declared.op.Op.TheVariants as ops
use Rattle.mp_base.specs.declared.pad.Pads.{Pads}
use Rattle.nor_net.specs.declared.net.NetId.{NetId}
use Rattle.nor_net.specs.declared.net.Part.{Part}
use Rattle.nor_net.specs.declared.net.Part.TheVariants.{Latch}
use Rattle.nor_net.specs.declared.net.Phase.{Phase}
use Rattle.nor_net.specs.declared.net.Phase.TheVariants as phases
use Rattle.rtl_form.specs.declared.rtl.Cell as cells
use Rattle.rtl_form.specs.declared.rtl.CellKind.TheVariants as kinds
use Rattle.rtl_form.specs.declared.rtl.RtlExpr.{RtlExpr}
use Rattle.rtl_form.specs.declared.rtl.RtlExpr.TheVariants.{Number, Cell, Apply}
use Rattle.rtl_form.specs.declared.rtl.Rtl.{Rtl}
use Rattle.rtl_form.specs.Cost.{cost}
use Rattle.mp_base.specs.Entries.{IsAt}
use Rattle.mp_base.proofs.Entries.{one_entry}
use Rattle.rtl_form.specs.Environment.{is_driven}
use Rattle.rtl_form.specs.Operands.{takes_words}
use Rattle.rtl_form.specs.Sound.{IsSort}
use Rattle.control_nor.specs.declared.names.Names.{Names}
use Rattle.control_nor.specs.Lowering.{IsLowered, Stands}
use Rattle.path_form.specs.declared.path.DataPath.{DataPath}
use Rattle.path_form.specs.declared.path.Lift.{Lift}
use Rattle.path_form.specs.Shape.{entries_of}
use Rattle.path_form.specs.Sizes.{IsNarrow, IsWithin, is_read, reads}
use Rattle.path_values.specs.Allocated.{DrivenWord, IsAllocated, Placed, StoredWord, InputWord}
use Rattle.datapath_making.specs.declared.making.Making.{Making}
use Rattle.datapath_finish.specs.Finishing.{IsFinished}
use Rattle.datapath_making.proofs.Lists.{one_stands}
use Rattle.datapath_alloc.specs.Progress.{IsProgress}
use Rattle.datapath_alloc.specs.Shared.{IsAllocatedOnce, SharesNets}
use Rattle.datapath_alloc.proofs.Costs.{all_crossed}
use Rattle.datapath_alloc.proofs.Ending.{cell_is_word, cell_of, done_cell, done_expr, spent_in_all, word_cell}
use Rattle.datapath_alloc.proofs.Reaching.{word_of}
use Rattle.datapath_alloc.proofs.Stores.{
  bit_found,
  bit_port_at,
  bit_store_at,
  ports_of,
  ports_only,
  stores_of,
  stores_only,
  word_found,
  word_port_at,
  word_store_at,
}

-- the making with the parts of its path
abbrev made_as : Making → DataPath → Making
made_as m d =
    record m { width = d.width; control = d.control; slices = d.slices; casts = d.casts; lifts = d.lifts }

same_making : (r : Rtl) (m : Making) (d : DataPath) → m.width ≡ r.width → IsFinished r m d → m ≡ made_as m d
same_making r m d w fin =
    ap (λ x. record m { width = x }) (w ∙ sym fin.width)
    ∙ (ap (λ x. record m { width = d.width; control = x }) (sym fin.control)
    ∙ (ap (λ x. record m { width = d.width; control = d.control; slices = x }) (sym fin.slices)
    ∙ (ap (λ x. record m { width = d.width; control = d.control; slices = d.slices; casts = x }) (sym fin.casts)
    ∙ ap (λ x. record m { width = d.width; control = d.control; slices = d.slices; casts = d.casts; lifts = x })
    (sym fin.lifts))))

module _ (r : Rtl) (bits : List Part) (names : Names) (was : Making) (d : DataPath)
    (made : IsProgress r bits names (length r.cells) (length names.tasks) (length r.cells) was)
    (was_finished : IsFinished r was d) where
  abbrev m : Making
  m = made_as was d

  p : IsProgress r bits names (length r.cells) (length names.tasks) (length r.cells) m
  p = subst (IsProgress r bits names (length r.cells) (length names.tasks) (length r.cells))
      (same_making r was d made.begun.width was_finished) made

  fin : IsFinished r m d
  fin = subst (λ m. IsFinished r m d) (same_making r was d made.begun.width was_finished) was_finished

  lowered : IsLowered r [] d.control names
  lowered = subst (λ b. IsLowered r [] b names) (sym p.begun.control) p.given.lowered

  -- ---- words

  word_sorts : (e : ℕ) (x : RtlExpr) (id : NetId) → IsAt r.exprs e x → Stands m.words e id → IsSort r.cells x true
  word_sorts e x id at s =
      let o = p.exprs.only e id s in
      subst (λ y. IsSort r.cells y true) (one_entry r.exprs e o.0 x o.1 at) o.2

  stored_words : (c reset : ℕ) (x : cells.Cell) (id : NetId) → IsAt r.cells c x → x.kind ≡ kinds.Stored
      → r.reset ≡ Some reset → Stands m.cell_words c id
      → StoredWord r d.slices d.casts names m.words c reset id
  stored_words c reset x id at is res on =
      let inside = slice_get_within r.cells c x at in
      let h = p.cells.stored c reset inside (x, at, is, cell_is_word r bits names m p c x id at on) res in
      subst (StoredWord r d.slices d.casts names m.words c reset) (one_stands m.cell_words c h.0 id h.1 on) h.2

  driven_words : (c : ℕ) (x : cells.Cell) (id : NetId) → IsAt r.cells c x → is_driven x.kind ≡ true
      → Stands m.cell_words c id → DrivenWord r d.slices d.casts names m.words c id
  driven_words c x id at driven on =
      let h = p.cells.driven c (x, at, driven, cell_is_word r bits names m p c x id at on)
      (done_cell r bits names m p c x at driven) in
      subst (DrivenWord r d.slices d.casts names m.words c) (one_stands m.cell_words c h.0 id h.1 on) h.2

  reads_cell : (e c : ℕ) (id : NetId) → IsAt r.exprs e (Cell c) → Stands m.words e id → Stands m.cell_words c id
  reads_cell e c id at s =
      let sort = word_sorts e (Cell c) id at s in
      let h = p.exprs.exprs e (Cell c) at (done_expr r bits names m p e (Cell c) at) sort.0 sort.1 (sym sort.2) in
      subst (Stands m.cell_words c) (one_stands m.words e h.0 id h.1 s) h.2

  placed_words : (e : ℕ) (op : Op) (index : ℕ) (args : List ℕ) (id : NetId) → IsAt r.exprs e (Apply op index args)
      → Stands m.words e id → Placed d.slices m.words op args id
  placed_words e op index args id at s =
      let sort = word_sorts e (Apply op index args) id at s in
      let h = (p.exprs.exprs e (Apply op index args) at (done_expr r bits names m p e (Apply op index args) at)).word
      (sym sort) in
      subst (Placed d.slices m.words op args) (one_stands m.words e h.0 id h.1 s) h.2

  lifted_tests : (e : ℕ) (op : Op) (index : ℕ) (args : List ℕ) (id : NetId) → IsAt r.exprs e (Apply op index args)
      → takes_words op ≡ true → (op ≡ ops.Bit → ⊥) → Stands names.exprs e id
      → (l : Lift) × Contains d.lifts l × (l.control ≡ id) × (suc l.slice ≡ d.width)
      × Placed d.slices m.words op args l.from
  lifted_tests e op index args id at takes ne on =
      let sort = (lowered.expr_names e (Apply op index args) at).1 (id, on) in
      let h = (p.exprs.exprs e (Apply op index args) at (done_expr r bits names m p e (Apply op index args) at)).test
      takes (sym sort) ne in
      (h.0, h.1, one_stands names.exprs e h.0.control id h.2 on, h.3, h.4)

  lifted_bits : (e index : ℕ) (args : List ℕ) (id : NetId) → IsAt r.exprs e (Apply ops.Bit index args)
      → Stands names.exprs e id
      → (l : Lift) × Contains d.lifts l × (l.control ≡ id) × (l.slice ≡ index)
      × Stands m.words (slice_index_or args 0 0) l.from
  lifted_bits e index args id at on =
      let h = (p.exprs.exprs e (Apply ops.Bit index args) at
      (done_expr r bits names m p e (Apply ops.Bit index args) at)).bit refl in
      (h.0, h.1, one_stands names.exprs e h.0.control id h.2 on, h.3, h.4)

  input_words : (c k : ℕ) (x : cells.Cell) (id pad : NetId) → IsAt r.cells c x → x.kind ≡ kinds.Input k
      → Stands m.cell_words c id → slice_get d.inputs k ≡ Some pad
      → InputWord d.slices.net id pad
  input_words c k x id pad at is on to =
      let inside = slice_get_within r.cells c x at in
      let h = p.cells.ports c k inside (x, at, is, cell_is_word r bits names m p c x id at on) in
      let same_pad = same_Some h.1 pad (sym (fin.word_inputs k h.1 h.3) ∙ to) in
      subst (λ q. InputWord d.slices.net id q) same_pad
      (subst (λ i. InputWord d.slices.net i h.1)
      (one_stands m.cell_words c h.0 id h.2 on) h.4)

  abbrev the_stores : Stores
  the_stores = stores_of r d.control d.slices names.cells m.cell_words

  abbrev the_ports : Ports
  the_ports = ports_of r d.control d.slices names.cells m.cell_words p.given.sound d.inputs

  pub allocated : IsAllocated r d
  allocated = record {
    names = names;
    lowered = lowered;
    cell_words = m.cell_words;
    words = m.words;
    width = fin.width;
    pads = fin.pads;
    cell_sorts = λ c x at. (word_cell r bits names m p c x at, λ h. cell_is_word r bits names m p c x h.0 at h.1);
    sorts = λ e x at. (
      word_of r bits names p.given.sound p.given.lowered m e x
          (p.exprs.exprs e x at (done_expr r bits names m p e x at)),
      λ h. word_sorts e x h.0 at h.1,
    );
    numbers = λ e n id at s.
        let h = p.exprs.exprs e (Number n) at (done_expr r bits names m p e (Number n) at) in
        (h.0, h.1, one_stands m.words e h.0.net id h.3 s, h.2);
    reads = reads_cell;
    operators = placed_words;
    tests = lifted_tests;
    bits = lifted_bits;
    driven = driven_words;
    stored = stored_words;
    ports = input_words;
    bit_ports = λ k pad s. fin.bit_inputs k pad (subst (λ (n : Names). Stands n.inputs k pad) (sym p.begun.names) s);
    shown = λ c k x id at is to. (
      λ word. fin.word_outputs c k x id at is word to,
      λ bit. subst (λ (n : Names). Stands n.cells c id) p.begun.names (fin.bit_outputs c k x id at is bit to),
    );
    stores = the_stores;
    word_stores = λ c reset k x id at is res on l.
        word_store_at r d.control d.slices names.cells m.cell_words c x at is k id
        (cell_is_word r bits names m p c x id at on) on (let w = fin.width in omega (arith, l, w))
        ∙ ap Some (word_found r d.slices d.casts names m.words c reset id k (stored_words c reset x id at is res on));
    bit_stores = λ c x id at is on.
        bit_store_at r d.control d.slices names.cells m.cell_words c x at is id
        ((lowered.cell_names c x at).1 (id, on)) on
        ∙ ap Some (bit_found d.control id (lowered.stored c x id at is on));
    only_stores = stores_only r d.control d.slices names.cells m.cell_words;
    inputs_at = the_ports;
    word_inputs = λ c i k x id pad at is on to l.
        word_port_at r d.control d.slices names.cells m.cell_words p.given.sound d.inputs c i x at is k id pad
        (cell_is_word r bits names m p c x id at on) on to (let w = fin.width in omega (arith, l, w));
    bit_inputs = λ c i x id pad at is on to.
        bit_port_at r d.control d.slices names.cells m.cell_words p.given.sound d.inputs c i x at is id pad
        ((lowered.cell_names c x at).1 (id, on)) on to;
    only_inputs = ports_only r d.control d.slices names.cells m.cell_words p.given.sound d.inputs;
  }

  pub allocated_once : SharesNets r names was.words was.lifts → IsAllocatedOnce r d
  unfolding allocated
  allocated_once h = (allocated, subst (SharesNets r names was.words) (sym was_finished.lifts) h)

  -- ---- how large it is

  pub within : IsWithin (cost r) d
  within =
      let s = spent_in_all r bits names m p in
      record {
        control = let a = lowered.few in omega (arith, a);
        slices = let a = s.nets in omega (arith, a);
        joints = let a = s.columns in omega (arith, a);
        programs = let a = s.columns in omega (arith, a);
        control_inputs = let a = lowered.few_inputs in omega (arith, a);
        slice_inputs = let a = s.inputs in omega (arith, a);
      }

  latch_reads : (net : List Part) (n : ℕ) (phase : Phase) (id : NetId)
      → slice_get net n ≡ Some (Latch phase (Some id)) → is_read net id.0 ≡ true
  latch_reads net n phase id e =
      any_passes_from_place (reads id.0) net n (Latch phase (Some id)) e (eq-eqb id.0 id.0 refl)

  control_read : (id : NetId) → Contains (entries_of false (r.pads).inputs d.inputs) id
      → is_read d.control id.0 ≡ true
  control_read id c =
      let (k, pad, pad_at, is_bit, named) = fin.bit_pads id c in
      let (cell, x, at, kind, sort) = cell_of r bits names m p k pad pad_at in
      let bit : x.word ≡ false = sort ∙ ap not (eq-eqb pad.width 0 is_bit) in
      let (latch, on) = (lowered.cell_names cell x at).0 bit in
      let port = lowered.ports cell k x latch id at kind on
      (subst (λ (n : Names). Stands n.inputs k id) p.begun.names named) in
      latch_reads d.control latch.0 phases.C id port.is_latch

  slice_read : (id : NetId) → Contains (entries_of true (r.pads).inputs d.inputs) id
      → is_read d.slices.net id.0 ≡ true
  slice_read id c =
      let (k, _, _, _, named) = fin.word_pads id c in
      let (cell, below, word) = p.cells.pads k id named in
      let (latch, pad, on, stands, (is_latch, _)) = p.cells.ports cell k below word in
      latch_reads d.slices.net latch.0 phases.C id
      (subst (λ q. slice_get d.slices.net latch.0 ≡ Some (Latch phases.C (Some q)))
      (one_stands m.pads k pad id stands named) is_latch)

  pub narrow : IsNarrow (cost r) d
  narrow =
      let s = spent_in_all r bits names m p in
      record {
        control =
            let a = all_crossed r p.given.sound names.tasks p.given.lowered.placed.schedule d.control
            (let w = lowered.size.active in omega (arith, w)) in
            let b = s.crossings in
            omega (arith, a, b);
        slice = let a = s.columns in omega (arith, a);
        control_used = λ id c. or_left (is_read d.control id.0) _ (control_read id
            (subst (λ (ps : Pads). Contains (entries_of false ps.inputs d.inputs) id) fin.pads c));
        slice_used = λ id c. or_left (is_read d.slices.net id.0) _ (slice_read id
            (subst (λ (ps : Pads). Contains (entries_of true ps.inputs d.inputs) id) fin.pads c));
      }
