-- What is known when all is made.
use Rattle.std.proofs.Common.{◌≡◌, ℕ, inl, inr, List, [], Option, Some, None, true, length, refl, sym, ◌∙◌, ap, subst}
use Rattle.std.proofs.Common.{arith}
use Rattle.std.specs.Prelude.{Contains, IsSome, ◌≢◌, ◌==◌, not}
use Rattle.std.proofs.lemmas.Bool.{eq-eqb, false≢true, ne_eqb, true≢false}
use Rattle.std.proofs.lemmas.List.{take_all}
use Rattle.std.proofs.lemmas.Map.Keys.{any_passes_from_place}
use Rattle.mp_base.specs.declared.pad.Pad.{Pad}
use Rattle.mp_base.proofs.Values.{bit_or_not}
use Rattle.nor_net.specs.declared.net.NetId.{NetId}
use Rattle.nor_net.specs.declared.net.Part.{Part}
use Rattle.rtl_form.specs.declared.rtl.Cell as cells
use Rattle.rtl_form.specs.declared.rtl.CellKind.{CellKind}
use Rattle.rtl_form.specs.declared.rtl.CellKind.TheVariants as kinds
use Rattle.rtl_form.specs.declared.rtl.RtlExpr.{RtlExpr}
use Rattle.rtl_form.specs.declared.rtl.RtlExpr.TheVariants.{Number, Truth, Cell, Apply}
use Rattle.rtl_form.specs.declared.rtl.Rtl.{Rtl}
use Rattle.rtl_form.specs.Cost.{cost}
use Rattle.mp_base.specs.Entries.{IsAt}
use Rattle.mp_base.proofs.Entries.{one_entry, within}
use Rattle.rtl_form.specs.Environment.{is_driven, is_stored}
use Rattle.rtl_form.specs.Sound.{CellFits}
use Rattle.control_nor.specs.declared.names.Names.{Names}
use Rattle.task_schedule.specs.declared.task.Task.TheVariants as tasks
use Rattle.control_nor.specs.Lowering.{IsEntry, IsLowered, Stands}
use Rattle.path_form.specs.declared.path.Lift.{Lift}
use Rattle.datapath_making.specs.declared.making.Making.{Making}
use Rattle.datapath_making.proofs.Lists.{one_stands}
use Rattle.datapath_finish.specs.Finishing.{IsComplete}
use Rattle.datapath_alloc.specs.Progress.{AreSpent, IsDone, IsProgress, IsWordOf}
use Rattle.datapath_alloc.specs.Spending.{crossed}
use Rattle.datapath_alloc.proofs.Costs.{all_spent, spent_below}
use Rattle.datapath_alloc.proofs.Reaching.{all_done}

module _ (r : Rtl) (bits : List Part) (names : Names) (m : Making)
    (p : IsProgress r bits names (length r.cells) (length names.tasks) (length r.cells) m) where
  -- ---- cells

  -- where something is stored there is a reset
  reset_is : (c : ℕ) → IsWordOf r c kinds.Stored → (reset : ℕ) × (r.reset ≡ Some reset)
  reset_is c w = by_reset r.reset refl (p.given.sound.resets
      (any_passes_from_place (λ (x : cells.Cell). is_stored x.kind) r.cells c w.0 w.1
      (ap is_stored w.2)))
    where
      by_reset : (o : Option ℕ) → r.reset ≡ o → IsSome o → (reset : ℕ) × (r.reset ≡ Some reset)
      by_reset (Some n) e h = (n, e)
      by_reset None e h = absurd (false≢true h)

  pub done_cell : (c : ℕ) (x : cells.Cell) → IsAt r.cells c x → is_driven x.kind ≡ true
      → IsDone names (length names.tasks) (tasks.Cell c)
  done_cell c x at driven =
      all_done r bits names p.given.sound p.given.lowered (tasks.Cell c) (x, at, driven)

  pub done_expr : (e : ℕ) (x : RtlExpr) → IsAt r.exprs e x → IsDone names (length names.tasks) (tasks.Expr e)
  done_expr e x at = all_done r bits names p.given.sound p.given.lowered (tasks.Expr e) (within r.exprs e at)

  pub word_cell : (c : ℕ) (x : cells.Cell) → IsAt r.cells c x → x.word ≡ true
      → (id : NetId) × Stands m.cell_words c id
  word_cell c x at word = by_kind x.kind refl
    where
      by_kind : (kind : CellKind) → x.kind ≡ kind → (id : NetId) × Stands m.cell_words c id
      by_kind (kinds.Input k) is = let h = p.cells.ports c k (within r.cells c at) (x, at, is, word) in (h.0, h.2)
      by_kind (kinds.Output k) is =
          let d = ap is_driven is in let h = p.cells.driven c (x, at, d, word) (done_cell c x at d) in (h.0, h.1)
      by_kind kinds.Inner is =
          let d = ap is_driven is in let h = p.cells.driven c (x, at, d, word) (done_cell c x at d) in (h.0, h.1)
      by_kind kinds.Stored is =
          let n = reset_is c (x, at, is, word) in
          let h = p.cells.stored c n.0 (within r.cells c at) (x, at, is, word) n.1 in (h.0, h.1)

  pub cell_is_word : (c : ℕ) (x : cells.Cell) (id : NetId) → IsAt r.cells c x → Stands m.cell_words c id
      → x.word ≡ true
  cell_is_word c x id at s =
      let o = p.cells.only c id s in
      ap (λ (y : cells.Cell). y.word) (one_entry r.cells c x o.0 at o.1) ∙ o.2

  -- ---- pads

  -- the cell of an input pad
  pub cell_of : (k : ℕ) (pad : Pad) → IsAt (r.pads).inputs k pad
      → (c : ℕ) × (x : cells.Cell) × IsAt r.cells c x × (x.kind ≡ kinds.Input k) × (x.word ≡ not (pad.width == 0))
  cell_of k pad at =
      let (c, (x, at_cell, kind), only) = p.given.sound.input_cells k (within (r.pads).inputs k at) in
      let f : CellFits r x (kinds.Input k) = subst (CellFits r x) kind (p.given.sound.cells c x at_cell) in (
        c,
        x,
        at_cell,
        kind,
        f.2 ∙ ap (λ (q : Pad). not (q.width == 0))
            (one_entry (r.pads).inputs k f.0 pad f.1 at),
      )

  word_pad : (k : ℕ) (pad : Pad) → IsAt (r.pads).inputs k pad → pad.width ≢ 0 → (id : NetId) × Stands m.pads k id
  word_pad k pad at ne =
      let (c, x, at_cell, kind, word) = cell_of k pad at in
      let h = p.cells.ports c k (within r.cells c at_cell) (x, at_cell, kind, word ∙ ap not (ne_eqb pad.width 0 ne))
      in
      (h.1, h.3)

  pad_is_word : (k : ℕ) (pad : Pad) (id : NetId) → IsAt (r.pads).inputs k pad → Stands m.pads k id → pad.width ≢ 0
  pad_is_word k pad id at s z =
      let (c, below, (x, at_cell, kind, word)) = p.cells.pads k id s in
      let f : CellFits r x (kinds.Input k) = subst (CellFits r x) kind (p.given.sound.cells c x at_cell) in
      true≢false (sym word ∙ (f.2 ∙ (ap (λ (q : Pad). not (q.width == 0))
      (one_entry (r.pads).inputs k f.0 pad f.1 at) ∙ ap not (eq-eqb pad.width 0 z))))

  -- ---- lifts

  lift_of : (e : ℕ) (x : RtlExpr) (id : NetId) → IsAt r.exprs e x → IsEntry x → Stands names.exprs e id
      → (l : Lift) × Contains m.lifts l × (l.control ≡ id)
  lift_of e (Number n) id at h s = absurd h
  lift_of e (Truth b) id at h s = absurd h
  lift_of e (Cell c) id at h s = absurd h
  lift_of e (Apply op index args) id at h s =
      let made = p.exprs.exprs e (Apply op index args) at (done_expr e (Apply op index args) at) in
      elim (bit_or_not op) [
        | inl is ↦ let l = made.bit is in (l.0, l.1, one_stands names.exprs e l.0.control id l.2 s)
        | inr ne ↦ let l = made.test h.0 h.1 ne in (l.0, l.1, one_stands names.exprs e l.0.control id l.2 s)
      ]

  -- ---- what was spent

  pub spent_in_all : AreSpent (cost r) (crossed r names.tasks (length r.cells)) m
  spent_in_all =
      let a = spent_below r p.given.sound names.tasks p.given.lowered.placed.schedule (length r.cells)
      (length names.tasks) (length r.cells) (omega arith) (omega arith) in
      let b = all_spent r p.given.sound names.tasks p.given.lowered.placed.schedule in
      let all = ap (λ ts. crossed r ts (length r.cells)) (take_all (length names.tasks) names.tasks (omega arith)) in
      record {
        nets = let n = p.spends.nets in omega (arith, n, a, b);
        inputs = let n = p.spends.inputs in omega (arith, n, a, b);
        columns = let n = p.spends.columns in omega (arith, n, a, b);
        crossings = let n = p.spends.crossings in omega (arith, n, all);
      }

  pub complete : IsComplete r m
  complete = record {
    width = p.begun.width;
    lowered = subst (λ (n : Names). IsLowered r [] m.control n) (sym p.begun.names)
        (subst (λ b. IsLowered r [] b names) (sym p.begun.control) p.given.lowered);
    made = p.begun.made;
    cell_words = word_cell;
    bit_cells = cell_is_word;
    pads = word_pad;
    pad_count = p.begun.pad_count;
    bit_pads = pad_is_word;
    fed = λ n u. let o = p.cells.unfed n u in let a = o.2 in let w = o.3 in let b = within r.cells o.0 w.1 in
        omega (arith, a, b);
    entries = λ e x id at h s. lift_of e x id at h (subst (λ (n : Names). Stands n.exprs e id) p.begun.names s);
    lifted = λ l c. let o = p.exprs.lifts l c in
        (o.0, o.1, o.2, o.3, subst (λ (n : Names). Stands n.exprs o.0 l.control) (sym p.begun.names) o.4);
    nets = let s = spent_in_all in let a = s.nets in let b = s.columns in let l = p.given.light in
        omega (arith, a, b, l);
    inputs = let s = spent_in_all in let a = s.inputs in let b = s.columns in let l = p.given.light in
        omega (arith, a, b, l);
  }
