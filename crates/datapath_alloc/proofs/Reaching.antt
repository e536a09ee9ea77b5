-- What a task reads is made, and what it makes is not.
use Rattle.std.proofs.Common.{◌≡◌, ℕ, zero, suc, ◌<◌, ◌≤◌, inl, inr, List, [], ◌∷◌, Option, Some, None, true, false}
use Rattle.std.proofs.Common.{length, map, refl, sym, ◌∙◌, ap, subst, arith}
use Rattle.datapath_making.proofs.Lists.{times_entry}
use Rattle.task_schedule.specs.Schedule.{IsTask}
use Rattle.std.specs.Prelude.{All, Contains, IfSome, MatchBool, ◌==◌, not, slice_get, slice_index_or}
use Rattle.std.proofs.lemmas.Bool.{eq-eqb, eqb-true, true≢false, cases_eq}
use Rattle.std.proofs.lemmas.Option.{slice_get_within}
use Rattle.std.proofs.lemmas.List.Elements.{All-filter, Contains-get_or, filter_passes}
use Rattle.mp_base.specs.declared.op.Op.{Op}
use Rattle.mp_base.specs.declared.pad.Pad.{Pad}
use Rattle.mp_base.proofs.Contents.{contains_from_map}
use Rattle.nor_net.specs.declared.net.NetId.{NetId}
use Rattle.nor_net.specs.declared.net.Part.{Part}
use Rattle.nor_net.proofs.Parts.{same_net}
use Rattle.rtl_form.specs.declared.rtl.Cell as cells
use Rattle.rtl_form.specs.declared.rtl.CellKind.TheVariants as kinds
use Rattle.rtl_form.specs.declared.rtl.RtlExpr.{RtlExpr}
use Rattle.rtl_form.specs.declared.rtl.RtlExpr.TheVariants.{Number, Truth, Cell, Apply}
use Rattle.rtl_form.specs.declared.rtl.Transfer.{Transfer}
use Rattle.rtl_form.specs.declared.rtl.Rtl.{Rtl}
use Rattle.mp_base.specs.Entries.{IsAt}
use Rattle.mp_base.proofs.Entries.{contains_from_get, one_entry, within}
use Rattle.rtl_form.specs.Environment.{is_driven}
use Rattle.rtl_form.specs.Operands.{takes_words}
use Rattle.rtl_form.specs.Sound.{CellFits, HasSort, IsReset, IsSort, IsSound}
use Rattle.control_nor.specs.declared.names.Names.{Names}
use Rattle.task_schedule.specs.declared.task.Task.{Task}
use Rattle.task_schedule.specs.declared.task.Task.TheVariants as tasks
use Rattle.control_nor.specs.Lowering.{IsEntry, IsLowered, Stands, nets_before}
use Rattle.path_form.specs.declared.path.Lift.{Lift}
use Rattle.path_form.specs.Shape.{times}
use Rattle.path_values.specs.Allocated.{transfers_to}
use Rattle.datapath_making.specs.declared.making.Making.{Making}
use Rattle.datapath_making.specs.Marking.{last_mark}
use Rattle.datapath_making.specs.Steps.{IsBitReached, IsFree, IsReached, IsTransferReached, IsWaited}
use Rattle.datapath_making.specs.WellMade.{IsWellMade}
use Rattle.datapath_alloc.specs.Progress.{AreCellsMade, AreExprsMade, IsBegun, IsDone, IsExprMade, IsWordOf}

-- ---- lists

-- nets that are not among them
never : (n : ℕ) (ids : List NetId) → ((id : NetId) → Contains ids id → id.0 ≡ n → ⊥) → times n ids ≡ 0
never n ids h = by_count (times n ids) refl
  where
    by_count : (k : ℕ) → times n ids ≡ k → times n ids ≡ 0
    by_count zero e = e
    by_count (suc k) e =
        let (place, id, at, same) = times_entry n ids (omega (arith, e)) in
        absurd (h id (contains_from_get ids place id at) same)

-- an entry without a net is free
pub free_or_not : (entries : List (Option NetId)) (k : ℕ) → k < length entries
    → ((id : NetId) → Stands entries k id → ⊥) → IsFree entries k
free_or_not [] k l h = absurd (omega arith)
free_or_not (None ∷ entries) zero l h = refl
free_or_not (Some id ∷ entries) zero l h = absurd (h id refl)
free_or_not (o ∷ entries) (suc k) l h = free_or_not entries k (omega arith) h

module _ (r : Rtl) (bits : List Part) (names : Names) (sound : IsSound r) (low : IsLowered r [] bits names) where
  -- ---- marks of the control

  pub before_grows : (s t : ℕ) → s ≤ t → t ≤ length names.tasks → nets_before names s ≤ nets_before names t
  before_grows s zero l m = let e : s ≡ 0 = omega arith in let a = ap (nets_before names) e in omega (arith, a)
  before_grows s (suc t) l m =
      elim (cases_eq s (suc t)) [
        | inl e ↦ let a = ap (nets_before names) e in omega (arith, a)
        | inr ne ↦ let r = before_grows s t (omega arith) (omega arith) in
            let h = low.placed.rise t (omega arith) in
            omega (arith, r, h)
      ]

  pub before_within : (t : ℕ) → t ≤ length names.tasks → nets_before names t ≤ length bits
  before_within t l =
      let a = before_grows t (length names.tasks) l (omega arith) in
      let b = low.placed.within in
      omega (arith, a, b)

  -- ---- what is not made yet

  pub not_done : (t : ℕ) (task : Task) → slice_get names.tasks t ≡ Some task → IsDone names t task → ⊥
  not_done t task e d =
      let s = low.placed.schedule.once d.0 t task d.2 e in let l = d.1 in omega (arith, s, l)

  module _ (m : Making) where
    pub free_word : (t e : ℕ) → slice_get names.tasks t ≡ Some (tasks.Expr e) → IsBegun r bits names m
        → AreExprsMade r names t m → IsFree m.words e
    free_word t e is b h =
        free_or_not m.words e
        (let l = low.placed.schedule.only t (tasks.Expr e) is in let c = b.word_count in omega (arith, l, c))
        (λ id s. not_done t (tasks.Expr e) is (h.only e id s).3)

    pub free_cell : (i t j c : ℕ) (x : cells.Cell) → slice_get names.tasks t ≡ Some (tasks.Cell c)
        → IsAt r.cells c x → is_driven x.kind ≡ true → IsBegun r bits names m → AreCellsMade r names i t j m
        → IsFree m.cell_words c
    free_cell i t j c x is at driven b h =
        free_or_not m.cell_words c (let l = within r.cells c at in let n = b.cell_count in omega (arith, l, n))
        (λ id s. let o = h.only c id s in
        not_done t (tasks.Cell c) is (subst (λ b. MatchBool b (IsDone names t (tasks.Cell c)) (c < i))
        (ap (λ (y : cells.Cell). is_driven y.kind) (one_entry r.cells c o.0 x o.1 at) ∙ driven) o.3))

    pub free_first : (i t j : ℕ) (x : cells.Cell) → IsAt r.cells i x → is_driven x.kind ≡ false
        → IsBegun r bits names m → AreCellsMade r names i t j m → IsFree m.cell_words i
    free_first i t j x at driven b h =
        free_or_not m.cell_words i (let l = within r.cells i at in let n = b.cell_count in omega (arith, l, n))
        (λ id s. let o = h.only i id s in
        let l = subst (λ b. MatchBool b (IsDone names t (tasks.Cell i)) (i < i))
        (ap (λ (y : cells.Cell). is_driven y.kind) (one_entry r.cells i o.0 x o.1 at) ∙ driven) o.3 in
        omega (arith, l))

    pub free_pad : (i t j k : ℕ) → IsWordOf r i (kinds.Input k) → IsBegun r bits names m
        → AreCellsMade r names i t j m → IsFree m.pads k
    free_pad i t j k w b h =
        let fits = subst (CellFits r w.0) w.2 (sound.cells i w.0 w.1) in
        let pad_in = within (r.pads).inputs k fits.1 in
        let only = sound.input_cells k pad_in in
        free_or_not m.pads k (let n = b.pad_count in omega (arith, pad_in, n))
        (λ pad s. let (c, below, (x, at, kind, word)) = h.pads k pad s in
        let a = only.2 c x at kind in
        let d = only.2 i w.0 w.1 w.2 in
        omega (arith, a, d, below))

    -- ---- what is made

    -- an expression that is a word and has its nets has a word
    pub word_of : (e : ℕ) (x : RtlExpr) → IsExprMade r names m e x → IsSort r.cells x true
        → (id : NetId) × Stands m.words e id
    word_of e (Number n) h s = (h.0.net, h.3)
    word_of e (Truth b) h s = absurd (true≢false s)
    word_of e (Cell c) h s = let p = h s.0 s.1 (sym s.2) in (p.0, p.1)
    word_of e (Apply op index args) h s = let p = h.word (sym s) in (p.0, p.1)

    pub arg_done : (t e a : ℕ) (op : Op) (index : ℕ) (args : List ℕ) → slice_get names.tasks t ≡ Some (tasks.Expr e)
        → IsAt r.exprs e (Apply op index args) → Contains args a
        → IsDone names t (tasks.Expr a) × HasSort r a (takes_words op)
    arg_done t e a op index args is at c =
        let fits = sound.exprs e (Apply op index args) at in
        let arg = fits.2 a c in
        let reads = low.placed.schedule.after t (tasks.Expr e) (tasks.Expr a) is (Apply op index args, at, c)
        (let l = arg.0 in let n = within r.exprs e at in omega (arith, l, n)) in
        (reads, arg.1)

    module _ (t : ℕ) (made : IsWellMade m) (slices : (last_mark m).slices ≡ length m.slices.net)
        (control : (last_mark m).control ≡ nets_before names t) (begun : IsBegun r bits names m)
        (h : AreExprsMade r names t m) where
      pub arg_reached : (e a : ℕ) (op : Op) (index : ℕ) (args : List ℕ)
          → slice_get names.tasks t ≡ Some (tasks.Expr e) → IsAt r.exprs e (Apply op index args)
          → takes_words op ≡ true → Contains args a → IsReached m a
      arg_reached e a op index args is at takes c =
          let (arg_is_done, (x, at_arg, sort_of)) = arg_done t e a op index args is at c in
          let sort = subst (IsSort r.cells x) takes sort_of in
          let w = word_of a x (h.exprs a x at_arg arg_is_done) sort in
          (w.0, w.1, (let l = made.named.words_in a w.0 w.1 in omega (arith, l, slices)))

      pub args_reached : (e : ℕ) (op : Op) (index : ℕ) (args : List ℕ)
          → slice_get names.tasks t ≡ Some (tasks.Expr e) → IsAt r.exprs e (Apply op index args)
          → takes_words op ≡ true → All (IsReached m) args
      args_reached e op index args is at takes k d l =
          arg_reached e (slice_index_or args k d) op index args is at takes
          (Contains-get_or args k d l)

      pub waited : (e : ℕ) (x : RtlExpr) → slice_get names.tasks t ≡ Some (tasks.Expr e) → IsAt r.exprs e x
          → IsEntry x → IsWaited m e
      waited e x is at entry =
          let (net, on) = (low.expr_names e x at).0 (bit x entry) in
          let low_end = low.placed.entries t e x net is at entry on in (
            net,
            subst (λ (n : Names). Stands n.exprs e net) (sym begun.names) on,
            omega (arith, low_end, control),
            never net.0 (map (λ (l : Lift). l.control) m.lifts) (λ id c q.
                let (lift, among, same) = contains_from_map (λ (l : Lift). l.control) m.lifts id c in
                let (a, y, at_a, lifted, stands, done) = h.lifts lift among in
                let at_net : lift.control ≡ net = same_net lift.control net (ap (λ (i : NetId). i.0) same ∙ q) in
                let e_same = low.inputs.entries_apart a e y x net at_a lifted
                (subst (Stands names.exprs a) at_net stands) at entry on in
                not_done t (tasks.Expr e) is (subst (λ n. IsDone names t (tasks.Expr n)) e_same done)),
          )
        where
          bit : (x : RtlExpr) → IsEntry x → IsSort r.cells x false
          bit (Number n) h = absurd h
          bit (Truth b) h = absurd h
          bit (Cell c) h = absurd h
          bit (Apply op index args) h = sym h.1

    -- transfers to a word, whose expressions are made
    pub transfers_reached : (t c : ℕ) (x : cells.Cell) → t ≤ length names.tasks
        → (last_mark m).control ≡ nets_before names t → IsBegun r bits names m → AreExprsMade r names t m
        → IsAt r.cells c x → x.word ≡ true
        → ((tr : Transfer) → Contains r.transfers tr → tr.target ≡ c
        → IsDone names t (tasks.Expr tr.value) × IsDone names t (tasks.Expr tr.guard))
        → All (IsTransferReached m) (transfers_to r c)
    transfers_reached t c x l control begun h at word done k d n =
        let all = All-filter (λ (tr : Transfer). tr.target == c)
        (λ (tr : Transfer). (tr.target == c) ≡ true → IsTransferReached m tr) r.transfers
        (λ j e w p. one (slice_index_or r.transfers j e)
        (Contains-get_or r.transfers j e w) (eqb-true _ c p)) in
        all k d n (filter_passes (λ (tr : Transfer). tr.target == c) r.transfers k d n)
      where
        one : (tr : Transfer) → Contains r.transfers tr → tr.target ≡ c → IsTransferReached m tr
        one tr in_list to =
            let (guard, (cell, at_cell, value, no_input)) = sound.transfers tr in_list in
            let (value_done, (s, s_below, s_is)) = done tr in_list to in
            let target = subst (λ n. IsAt r.cells n cell) to at_cell in
            let sort = subst (λ b. HasSort r tr.value b) (ap (λ (y : cells.Cell). y.word)
            (one_entry r.cells c cell x target at) ∙ word) value in
            let w = word_of tr.value sort.0 (h.exprs tr.value sort.0 sort.1 value_done) sort.2 in
            let on = (low.expr_names tr.guard guard.0 guard.1).0 guard.2 in
            let below = low.placed.exprs s tr.guard on.0 s_is on.1 in
            let grows = before_grows (suc s) t (omega (arith, s_below)) l in (
              w,
              subst (λ (n : Names). IsBitReached m n.exprs tr.guard) (sym begun.names)
                  (on.0, on.1, omega (arith, below, grows, control)),
            )

  -- ---- which expressions the transfers to a cell read

  pub cell_reads : (t c : ℕ) → slice_get names.tasks t ≡ Some (tasks.Cell c) → (tr : Transfer)
      → Contains r.transfers tr → tr.target ≡ c
      → IsDone names t (tasks.Expr tr.value) × IsDone names t (tasks.Expr tr.guard)
  cell_reads t c is tr in_list to =
      let (guard, (cell, at_cell, value, no_input)) = sound.transfers tr in_list in (
        low.placed.schedule.after t (tasks.Cell c) (tasks.Expr tr.value) is (tr, in_list, to, inr refl)
            (within r.exprs tr.value value.1),
        low.placed.schedule.after t (tasks.Cell c) (tasks.Expr tr.guard) is (tr, in_list, to, inl refl)
            (within r.exprs tr.guard guard.1),
      )

  -- in the end all tasks are done
  pub all_done : (task : Task) → IsTask r task
      → IsDone names (length names.tasks) task
  all_done task is =
      let a = low.placed.schedule.all task is in (a.0, slice_get_within names.tasks a.0 task a.1, a.1)

  pub all_read : (tr : Transfer) → Contains r.transfers tr
      → IsDone names (length names.tasks) (tasks.Expr tr.value)
      × IsDone names (length names.tasks) (tasks.Expr tr.guard)
  all_read tr in_list =
      let (guard, (cell, at_cell, value, no_input)) = sound.transfers tr in_list in (
        all_done (tasks.Expr tr.value) (within r.exprs tr.value value.1),
        all_done (tasks.Expr tr.guard) (within r.exprs tr.guard guard.1),
      )

  -- the bit of reset stands before all tasks
  pub reset_reached : (m : Making) (reset : ℕ) → r.reset ≡ Some reset
      → (last_mark m).control ≡ nets_before names (length names.tasks) → IsBegun r bits names m
      → (id : NetId) × (m.reset ≡ Some id) × Stands m.names.cells reset id × (id.0 < (last_mark m).control)
  reset_reached m reset is control begun =
      let h = begun.reset reset is in
      let cell : IsReset r reset = subst (λ o. IfSome o (IsReset r)) is sound.reset in
      let low_id = low.placed.first_cells reset cell.0 h.0 cell.3 (ap is_driven cell.4) h.2 in
      let grows = before_grows 0 (length names.tasks) (omega arith) (omega arith) in (
        h.0,
        h.1,
        subst (λ (n : Names). Stands n.cells reset h.0) (sym begun.names) h.2,
        omega (arith, low_id, grows, control),
      )

  -- the cell of reset has a net
  pub reset_named : (c : ℕ) → r.reset ≡ Some c → (id : NetId) × Stands names.cells c id
  reset_named c is =
      let cell : IsReset r c = subst (λ o. IfSome o (IsReset r)) is sound.reset in
      let fits : CellFits r cell.0 (kinds.Input cell.1) = subst (CellFits r cell.0) cell.4
      (sound.cells c cell.0 cell.3) in
      (low.cell_names c cell.0 cell.3).0 (fits.2 ∙ ap not (ap (λ (q : Pad). q.width == 0)
      (one_entry (r.pads).inputs cell.1 fits.0 cell.2 fits.1 cell.5) ∙ eq-eqb cell.2.width 0 cell.6))
