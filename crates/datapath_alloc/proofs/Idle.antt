-- How far a path is made, when a task is done for which nothing is added.
use Rattle.std.proofs.Common.{◌≡◌, ℕ, suc, ◌<◌, inl, inr, List, Option, Some, None, Bool, true, false, length, refl}
use Rattle.std.proofs.Common.{sym, ◌∙◌, ap, subst, arith}
use Rattle.datapath_making.specs.Sizes.{Spends}
use Rattle.std.specs.Prelude.{slice_get, slice_index_or}
use Rattle.std.proofs.lemmas.Bool.{true≢false}
use Rattle.std.proofs.lemmas.Option.{same_Some, slice_get-get_or, slice_get_within}
use Rattle.std.proofs.lemmas.List.{length-set}
use Rattle.mp_base.specs.declared.op.Op.{Op}
use Rattle.mp_base.proofs.Entries.{get_set_same, one_entry, within}
use Rattle.nor_net.specs.declared.net.NetId.{NetId}
use Rattle.nor_net.specs.declared.net.Part.{Part}
use Rattle.rtl_form.specs.declared.rtl.Cell as cells
use Rattle.rtl_form.specs.declared.rtl.CellKind.{CellKind}
use Rattle.rtl_form.specs.declared.rtl.CellKind.TheVariants as kinds
use Rattle.rtl_form.specs.declared.rtl.RtlExpr.{RtlExpr}
use Rattle.rtl_form.specs.declared.rtl.RtlExpr.TheVariants.{Truth, Cell, Apply}
use Rattle.rtl_form.specs.declared.rtl.Rtl.{Rtl}
use Rattle.mp_base.specs.Entries.{IsAt}
use Rattle.rtl_form.specs.Environment.{is_driven}
use Rattle.rtl_form.specs.Operands.{gives_word, takes_words}
use Rattle.control_nor.specs.declared.names.Names.{Names}
use Rattle.task_schedule.specs.declared.task.Task.TheVariants as tasks
use Rattle.control_nor.specs.Lowering.{Stands}
use Rattle.datapath_making.specs.declared.making.Making.{Making}
use Rattle.datapath_making.proofs.Keeping.{grows_refl}
use Rattle.datapath_making.specs.Growing.{Grows}
use Rattle.datapath_making.specs.Steps.{IsFree, read_cell}
use Rattle.datapath_making.specs.WellMade.{IsWellMade}
use Rattle.datapath_alloc.specs.Progress.{IsDone, IsExprMade, IsProgress}
use Rattle.datapath_alloc.proofs.Keeping.{Keeps}
use Rattle.datapath_alloc.proofs.Reaching.{free_word}
use Rattle.datapath_alloc.proofs.Steps.{cells_on, exprs_on}
use Rattle.datapath_alloc.proofs.TaskSteps.{appends_not, expr_step, plain_step, set_either, set_either_keeps, still}
use Rattle.datapath_alloc.proofs.TaskSteps.{task_step}

module _ (r : Rtl) (bits : List Part) (names : Names) (m : Making) (t : ℕ)
    (p : IsProgress r bits names (length r.cells) t 0 m) where
  idle_expr : (e : ℕ) (x : RtlExpr) → slice_get names.tasks t ≡ Some (tasks.Expr e) → IsAt r.exprs e x
      → IsExprMade r names m e x → IsProgress r bits names (length r.cells) (suc t) 0 m
  idle_expr e x is at made =
      plain_step r bits names m m t p e x is at 0 0 (omega arith) (omega arith) (still m p.begun.made) refl refl refl
      (appends_not m.slices.net) (λ k. made) (λ l c. inl c)

  pub truth_done : (e : ℕ) (b : Bool) → slice_get names.tasks t ≡ Some (tasks.Expr e) → IsAt r.exprs e (Truth b)
      → IsProgress r bits names (length r.cells) (suc t) 0 m
  truth_done e b is at = idle_expr e (Truth b) is at tt

  -- an operator of bits
  pub bits_done : (e : ℕ) (op : Op) (index : ℕ) (args : List ℕ) → slice_get names.tasks t ≡ Some (tasks.Expr e)
      → IsAt r.exprs e (Apply op index args) → gives_word op ≡ false → takes_words op ≡ false
      → IsProgress r bits names (length r.cells) (suc t) 0 m
  bits_done e op index args is at gives takes =
      idle_expr e (Apply op index args) is at (record {
        word = λ w. absurd (true≢false (sym w ∙ gives));
        test = λ w b ne. absurd (true≢false (sym w ∙ takes));
        bit = λ q. absurd (true≢false (sym (ap takes_words q) ∙ takes));
      })

  -- a driven cell that is a bit
  pub bit_cell_done : (c : ℕ) (x : cells.Cell) → slice_get names.tasks t ≡ Some (tasks.Cell c) → IsAt r.cells c x
      → x.word ≡ false → IsProgress r bits names (length r.cells) (suc t) 0 m
  bit_cell_done c x is at bit =
      task_step r bits names m m t p (tasks.Cell c) 0 0 is (omega arith) (omega arith) (still m p.begun.made)
      (cells_on r names (length r.cells) t 0 m (λ d now w.
      let q : tasks.Cell c ≡ tasks.Cell d = same_Some _ _ (sym is ∙ now) in
      let same : c ≡ d = cc in
      true≢false (sym w.3 ∙ (ap (λ (y : cells.Cell). y.word) (one_entry r.cells d w.0 x w.1
      (subst (λ n. IsAt r.cells n x) same at)) ∙ bit))) p.cells)
      (exprs_on r names t m (λ e now. let q : tasks.Cell c ≡ tasks.Expr e = same_Some _ _ (sym is ∙ now) in cc) p.exprs)

  -- ---- an expression that is a cell

  -- a cell that is a word has its nets, if what drives it is done
  cell_word : (c : ℕ) (x : cells.Cell) → IsAt r.cells c x → x.word ≡ true
      → (is_driven x.kind ≡ true → IsDone names t (tasks.Cell c)) → (id : NetId) × Stands m.cell_words c id
  cell_word c x at word done = by_kind x.kind refl
    where
      by_kind : (kind : CellKind) → x.kind ≡ kind → (id : NetId) × Stands m.cell_words c id
      by_kind (kinds.Input k) is = let h = p.cells.ports c k (within r.cells c at) (x, at, is, word) in (h.0, h.2)
      by_kind (kinds.Output k) is =
          let d = ap is_driven is in let h = p.cells.driven c (x, at, d, word) (done d) in (h.0, h.1)
      by_kind kinds.Inner is =
          let d = ap is_driven is in let h = p.cells.driven c (x, at, d, word) (done d) in (h.0, h.1)
      by_kind kinds.Stored is =
          let h = p.cells.waiting c (within r.cells c at) (omega arith) (x, at, is, word) in (h.0, h.1)

  module _ (e c : ℕ) (is : slice_get names.tasks t ≡ Some (tasks.Expr e)) (at : IsAt r.exprs e (Cell c)) where
    abbrev entry : Option NetId
    entry = slice_index_or m.cell_words c None

    inside : c < length m.cell_words
    inside = let l = p.given.sound.exprs e (Cell c) at in let n = p.begun.cell_count in omega (arith, l, n)

    entry_is : slice_get m.cell_words c ≡ Some entry
    entry_is = slice_get-get_or m.cell_words c None inside

    free : IsFree m.words e
    free = free_word r bits names p.given.sound p.given.lowered m t e is p.begun p.exprs

    grows : Grows m (read_cell e c m)
    grows = record {
      width = refl;
      control = refl;
      names = refl;
      reset = refl;
      longer = omega arith;
      parts = (grows_refl m).parts;
      chains = (grows_refl m).chains;
      programs = (grows_refl m).programs;
      casts = (grows_refl m).casts;
      lifts = (grows_refl m).lifts;
      cell_count = refl;
      word_count = length-set m.words e entry;
      pad_count = refl;
      guard_count = refl;
    }

    keeps : Keeps m (read_cell e c m)
    keeps = record {
      grows = grows;
      cells = λ d o h. h;
      words = λ d o h. set_either_keeps m.words e entry d o free h;
      pads = λ k o h. h;
    }

    made : IsExprMade r names (read_cell e c m) e (Cell c)
    made x cell word =
        let h = cell_word c x cell word (λ driven. p.given.lowered.placed.schedule.after t (tasks.Expr e)
        (tasks.Cell c) is (Cell c, at, refl) (x, cell, driven)) in (
          h.0,
          get_set_same m.words e entry (slice_get_within m.words e None free)
              ∙ (sym entry_is ∙ h.1),
          h.1,
        )

    pub read_done : IsWellMade (read_cell e c m)
        → IsProgress r bits names (length r.cells) (suc t) 0 (read_cell e c m)
    read_done well =
        expr_step r bits names m (read_cell e c m) t p e (Cell c) is at 0 0 (omega arith) (omega arith)
        (record { grows = grows; spends = spends; marks = refl; made = well }) keeps refl refl
        (appends_not m.slices.net) made
        (λ d o s. elim (set_either m.words e entry d o free s) [
          | inl now ↦ inr (now.0, (let w = p.cells.only c o (entry_is ∙ ap Some now.1) in (w.0, w.1, sym w.2)))
          | inr before ↦ inl before
        ])
        (λ l h. inl h)
      where
        spends : Spends 0 0 m (read_cell e c m)
        spends = record {
          nets = omega arith;
          inputs = omega arith;
          columns = omega arith;
          crossings = omega arith;
        }
