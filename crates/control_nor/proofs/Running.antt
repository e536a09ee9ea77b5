-- Tasks of a schedule, done in its order.
use Rattle.std.proofs.Common.{◌≡◌, ℕ, ◌+◌, ◌<◌, ◌≤◌, ◌⊎◌, inl, inr, List, Option, Some, None, Bool, true, false, length}
use Rattle.std.proofs.Common.{refl, sym, ◌∙◌, ap, subst, arith, eqb}
use Rattle.std.specs.Prelude.{All, Contains, MatchBool, ◌&&◌, not, if◌then◌else◌, slice_get, slice_index_or}
use Rattle.std.proofs.lemmas.Bool.{eqb-true, cases_eq}
use Rattle.std.proofs.lemmas.List.Elements.{All-filter, Contains-get_or, filter_passes}
use Rattle.std.proofs.lemmas.Option.{none-some, same_Some}
use Rattle.mp_base.proofs.Induction.{by_test}
use Rattle.nor_net.specs.declared.net.Part.{Part}
use Rattle.rtl_form.specs.declared.rtl.Cell as cells
use Rattle.rtl_form.specs.declared.rtl.Transfer.{Transfer}
use Rattle.rtl_form.specs.declared.rtl.RtlExpr.{RtlExpr}
use Rattle.rtl_form.specs.declared.rtl.RtlExpr.TheVariants as exprs
use Rattle.rtl_form.specs.declared.rtl.Rtl.{Rtl}
use Rattle.mp_base.specs.Entries.{IsAt}
use Rattle.mp_base.proofs.Entries.{one_entry, some_entry, within}
use Rattle.rtl_form.specs.Environment.{is_driven}
use Rattle.rtl_form.specs.Sound.{ExprFits, HasSort, IsSort, IsSound}
use Rattle.task_schedule.specs.declared.task.Task.{Task}
use Rattle.task_schedule.specs.declared.task.Task.TheVariants.{Expr, Cell}
use Rattle.bit_gates.specs.declared.rails.Rails.{Rails}
use Rattle.control_nor.specs.declared.names.Bits.{Bits}
use Rattle.bit_gates.specs.Adding.{HasRoom}
use Rattle.bit_gates.specs.Cells.{IsDrivenMade, IsTransferNamed, transfers_to}
use Rattle.bit_gates.specs.Exprs.{IsExprMade, IsExprReady}
use Rattle.control_nor.specs.Progress.{IsBegun, IsBitTask, IsProgress, NamedTask, cost_left, driven_cost, driven_count}
use Rattle.bit_gates.specs.Rails.{AreBelow, IsNamed}
use Rattle.task_schedule.specs.Schedule.{IsSchedule, IsTask, TaskReads}
use Rattle.bit_gates.specs.Size.{IsWithinCost, bit_expr_cost}
use Rattle.control_nor.specs.Tasks.{IsTaskDone, IsTaskMade, IsTaskReady, entry_of, with_entry}
use Rattle.bit_gates.proofs.Adding.{logic_none, logic_on, logic_longer}
use Rattle.control_nor.proofs.Left.{left_least, waits_fall}
use Rattle.control_nor.proofs.Progress.{IsStep, cells_after, entry_other, entry_same, exprs_after, named_after}
use Rattle.control_nor.proofs.Progress.{names_stay, task_step}

within_on : (c e d f : ℕ) (old middle new : List Part) → IsWithinCost c e old middle → IsWithinCost d f middle new
    → IsWithinCost (c + d) (e + f) old new
within_on c e d f old middle new g h = record {
  nets = let x = g.nets in let y = h.nets in omega (arith, x, y);
  inputs = let x = g.inputs in let y = h.inputs in omega (arith, x, y);
  active = let x = g.active in let y = h.active in omega (arith, x, y);
}

module _ (r : Rtl) (sound : IsSound r) (tasks : List Task) (schedule : IsSchedule r tasks) (old : List Part)
    (before : Bits)
    (begun : IsBegun r old before) where
  -- before the first task
  pub no_progress : IsProgress r tasks 0 old old before before
  no_progress = record {
    adds = logic_none old;
    cell_count = begun.cell_count;
    expr_count = begun.expr_count;
    keeps = λ task rails h. h;
    below = begun.below;
    bits_only = begun.bits_only;
    done = λ s task l h b. absurd (omega arith);
    left = λ s task l h. begun.waiting task (schedule.only s task h);
    spent = record {
      cost = 0;
      entries = 0;
      within = record { nets = omega arith; inputs = omega arith; active = omega arith };
      cost_is = omega arith;
      entries_is = omega arith;
    };
  }

  module _ (t : ℕ) (new : List Part) (after : Bits) (progress : IsProgress r tasks t old new before after)
      (task : Task) (is : slice_get tasks t ≡ Some task) where
    -- what the task reads has names, if it is a bit
    read_done : (y : Task) → TaskReads r task y → IsTask r y → IsBitTask r y
        → (rails : Rails) × NamedTask after y rails
    read_done y reads there bit =
        let s = schedule.after t task y is reads there in progress.done s.0 y s.1 s.2 bit

    cell_named : (c : ℕ) (x : cells.Cell) → IsAt r.cells c x → x.word ≡ false → TaskReads r task (Cell c)
        → IsNamed after.cells c
    cell_named c x at bit reads =
        by_test (is_driven x.kind) (λ d. read_done (Cell c) reads (x, at, d) (x, at, bit))
        (λ d. let h = begun.first c x at bit d in (h.0, progress.keeps (Cell c) h.0 h.1))

    room_for : (cost : ℕ) → HasRoom (cost_left r before) old → cost ≤ cost_left r after → HasRoom cost new
    room_for cost room l =
        let s = progress.spent in let w = s.within.nets in let i = s.within.inputs in let e = s.cost_is in
        let a = room.room in let b = room.inputs_room in
        record { room = omega (arith, w, e, a, l); inputs_room = omega (arith, i, e, b, l) }

    exprs_ready : (e : ℕ) (x : RtlExpr) → task ≡ Expr e → IsAt r.exprs e x → IsExprReady after.cells after.exprs x
    exprs_ready e x same at =
        by_expr x (sound.exprs e x at) (λ y h. subst (λ k. TaskReads r k y) (sym same) (x, at, h))
      where
        by_expr : (x : RtlExpr) → ExprFits r e x
            → ((y : Task) → Rattle.task_schedule.specs.Schedule.ExprReads x y → TaskReads r task y)
            → IsExprReady after.cells after.exprs x
        by_expr (exprs.Number n) fits reads = tt
        by_expr (exprs.Truth b) fits reads = tt
        by_expr (exprs.Cell c) fits reads = let n = progress.cell_count in omega (arith, n, fits)
        by_expr (exprs.Apply op index args) fits reads = (
          fits.0,
          λ bits. λ k d l.
              let a = slice_index_or args k d in
              let inside : Contains args a = Contains-get_or args k d l in
              let (below, sort) = fits.2 a inside in
              read_done (Expr a) (reads (Expr a) inside) (within r.exprs a sort.1) (subst (HasSort r a) bits sort),
        )

    transfer_named : (c : ℕ) → task ≡ Cell c → (x : cells.Cell) → IsAt r.cells c x → x.word ≡ false → (t : Transfer)
        → Contains r.transfers t → t.target ≡ c → IsTransferNamed after.exprs t
    transfer_named c same x at bit t inside to =
        let (guard, (cell, at_cell, any_value, no_input)) = sound.transfers t inside in
        let here = one_entry r.cells c cell x (subst (λ n. IsAt r.cells n cell) to at_cell) at in
        let value : HasSort r t.value false =
        subst (HasSort r t.value) (ap (λ (x : cells.Cell). x.word) here ∙ bit) any_value in (
          read_done (Expr t.guard) (subst (λ k. TaskReads r k (Expr t.guard)) (sym same) (t, inside, to, inl refl))
              (within r.exprs t.guard guard.1) guard,
          read_done (Expr t.value) (subst (λ k. TaskReads r k (Expr t.value)) (sym same) (t, inside, to, inr refl))
              (within r.exprs t.value value.1) value,
        )

    transfers_named : (c : ℕ) → task ≡ Cell c → (x : cells.Cell) → IsAt r.cells c x → x.word ≡ false
        → All (IsTransferNamed after.exprs) (transfers_to r.transfers c)
    transfers_named c same x at bit k d l =
        let all : All (λ (t : Transfer). t.target ≡ c → IsTransferNamed after.exprs t) r.transfers =
        λ k d l. transfer_named c same x at bit (slice_index_or r.transfers k d)
        (Contains-get_or r.transfers k d l) in
        All-filter (λ (t : Transfer). eqb t.target c) (λ (t : Transfer). t.target ≡ c
        → IsTransferNamed after.exprs t) r.transfers all k d l
        (eqb-true (slice_index_or (transfers_to r.transfers c) k d).target c
        (filter_passes (λ (t : Transfer). eqb t.target c) r.transfers k d l))

    -- there is room for it, and what it reads has names
    pub is_ready : HasRoom (cost_left r before) old → IsTaskReady r after task new
    is_ready room = by_task task refl
      where
        by_task : (k : Task) → task ≡ k → IsTaskReady r after k new
        by_task (Expr e) same =
            let x = some_entry r.exprs e (subst (IsTask r) same (schedule.only t task is)) in
            let waits = subst (λ k. entry_of after k ≡ Some None) same (progress.left t task (omega arith) is) in
            let least = left_least bit_expr_cost after.exprs r.exprs e x.0 waits x.1 in
            (x.0, x.1, exprs_ready e x.0 same x.1, room_for (bit_expr_cost x.0) room (omega (arith, least)))
        by_task (Cell c) same =
            let h = subst (IsTask r) same (schedule.only t task is) in
            let waiting = subst (λ k. entry_of after k ≡ Some None) same (progress.left t task (omega arith) is) in
            (h.0, h.1, λ bit. (transfers_named c same h.0 h.1 bit, cell_room c h.0 h.1 h.2 bit waiting))
          where
            cell_room : (c : ℕ) (x : cells.Cell) → IsAt r.cells c x → is_driven x.kind ≡ true → x.word ≡ false
                → slice_get after.cells c ≡ Some None → HasRoom (2 + length (transfers_to r.transfers c)) new
            cell_room c x at driven bit waiting =
                let one : driven_count x ≡ 1 = ap (λ b. if b && not x.word then 1 else 0) driven
                ∙ ap (λ b. if not b then 1 else 0) bit in
                let least = left_least driven_cost after.cells r.cells c x waiting at in
                let rails : Rails = record { bit = record { 0 = 0 }; negation = record { 0 = 0 } } in
                let fall = waits_fall r.cells after.cells c x rails waiting at one r.transfers in
                room_for (2 + length (transfers_to r.transfers c)) room (omega (arith, least, fall, one))

    -- one more task
    module _ (newer : List Part) (later : Bits) (made : IsTaskDone r task new newer after later) where
      pub was : entry_of after task ≡ Some None
      was = progress.left t task (omega arith) is

      pub step : IsStep r task new newer after made.entry
      step = task_step r new newer after (λ c rails h. progress.below (Cell c) rails h)
          (λ e rails h. progress.below (Expr e) rails h) task made.entry (schedule.only t task is) was made.is_made

      abbrev next : Bits
      next = with_entry after task made.entry

      pub others : (s : ℕ) (y : Task) → slice_get tasks s ≡ Some y → (s ≡ t → ⊥) → y ≡ task → ⊥
      others s y at ne e = ne (schedule.once s t task (at ∙ ap Some e) is)

      -- a bit gets nets
      made_named : IsBitTask r task → (rails : Rails) × (made.entry ≡ Some rails)
      made_named bit = by_task task refl bit made.is_made
        where
          by_expr : (e : ℕ) (x : RtlExpr) (o : Option Rails) → task ≡ Expr e → IsAt r.exprs e x
              → IsSort r.cells x false
              → IsExprMade after.cells after.exprs x new newer o → (rails : Rails) × (o ≡ Some rails)
          by_expr e (exprs.Number n) o same at sort h = absurd (cc sort)
          by_expr e (exprs.Truth b) o same at sort h = (h.0, h.1)
          by_expr e (exprs.Cell c) o same at sort h =
              let n = cell_named c sort.0 sort.1 (sym sort.2)
              (subst (λ k. TaskReads r k (Cell c)) (sym same) (exprs.Cell c, at, refl)) in
              (n.0, same_Some o (Some n.0) (sym h.0 ∙ n.1))
          by_expr e (exprs.Apply op index args) None same at sort h = absurd (cc (sort, h.0))
          by_expr e (exprs.Apply op index args) (Some rails) same at sort h = (rails, refl)

          by_word : (b : Bool) (A : Type 0) (f : Rails → Type 0) → b ≡ false
              → MatchBool b A ((rails : Rails) × (made.entry ≡ Some rails) × f rails)
              → (rails : Rails) × (made.entry ≡ Some rails)
          by_word true A f e h = absurd (cc e)
          by_word false A f e h = (h.0, h.1)

          by_task : (k : Task) → task ≡ k → IsBitTask r k → IsTaskMade r after k new newer made.entry
              → (rails : Rails) × (made.entry ≡ Some rails)
          by_task (Expr e) same b h =
              by_expr e h.0 made.entry same h.1 (subst (λ x. IsSort r.cells x false)
              (one_entry r.exprs e b.0 h.0 b.1 h.1) b.2) h.2
          by_task (Cell c) same b h =
              by_word h.0.word ((made.entry ≡ None) × (newer ≡ new))
              (λ rails. IsDrivenMade after.exprs (transfers_to r.transfers c) new newer rails)
              (ap (λ (x : cells.Cell). x.word) (one_entry r.cells c h.0 b.0 h.1 b.1) ∙ b.2) h.2

      -- only bits get nets
      made_bit : (rails : Rails) → made.entry ≡ Some rails → IsBitTask r task
      made_bit rails some = by_task task refl made.is_made
        where
          by_expr : (e : ℕ) (x : RtlExpr) → IsAt r.exprs e x
              → IsExprMade after.cells after.exprs x new newer (Some rails)
              → IsSort r.cells x false
          by_expr e (exprs.Number n) at h = absurd (none-some rails (sym h.0))
          by_expr e (exprs.Truth b) at h = refl
          by_expr e (exprs.Cell c) at h = let b = progress.bits_only (Cell c) rails h.0 in (b.0, b.1, sym b.2)
          by_expr e (exprs.Apply op index args) at h = sym h.0

          by_word : (b : Bool) (f : Rails → Type 0)
              → MatchBool b ((made.entry ≡ None) × (newer ≡ new))
              ((rails : Rails) × (made.entry ≡ Some rails) × f rails)
              → b ≡ false
          by_word true f h = absurd (none-some rails (sym h.0 ∙ some))
          by_word false f h = refl

          by_task : (k : Task) → task ≡ k → IsTaskMade r after k new newer made.entry → IsBitTask r k
          by_task (Expr e) same h =
              (h.0, h.1, by_expr e h.0 h.1 (subst (IsExprMade after.cells after.exprs h.0 new newer) some h.2))
          by_task (Cell c) same h = (
            h.0,
            h.1,
            by_word h.0.word (λ rails. IsDrivenMade after.exprs
                (transfers_to r.transfers c) new newer rails) h.2,
          )

      pub progress_more : IsProgress r tasks (t + 1) old newer before later
      progress_more = subst (IsProgress r tasks (t + 1) old newer before) (sym made.is_after) (record {
        adds = logic_on old new newer progress.adds step.adds;
        cell_count = cells_after after made.entry task ∙ progress.cell_count;
        expr_count = exprs_after after made.entry task ∙ progress.expr_count;
        keeps = λ y rails h. names_stay after made.entry task y rails was (progress.keeps y rails h);
        below = λ y rails h. by_below y rails (named_after after made.entry task y rails was h);
        bits_only = λ y rails h. by_bits y rails (named_after after made.entry task y rails was h);
        done = λ s y l at bit. by_done s y at bit (cases_eq s t) l;
        left = λ s y l at. entry_other after made.entry task y (others s y at (λ e. absurd (omega (arith, e, l))))
            ∙ progress.left s y (omega arith) at;
        spent = record {
          cost = progress.spent.cost + step.spent.cost;
          entries = progress.spent.entries + step.spent.entries;
          within = within_on progress.spent.cost progress.spent.entries step.spent.cost step.spent.entries old new
              newer
              progress.spent.within step.spent.within;
          cost_is = let a = progress.spent.cost_is in let b = step.spent.cost_is in omega (arith, a, b);
          entries_is = let a = progress.spent.entries_is in let b = step.spent.entries_is in omega (arith, a, b);
        };
      })
        where
          longer : length new ≤ length newer
          longer = logic_longer new newer step.adds

          by_below : (y : Task) (rails : Rails) → ((y ≡ task) × (made.entry ≡ Some rails)) ⊎ NamedTask after y rails
              → AreBelow (length newer) rails
          by_below y rails (inl h) = step.below rails h.1
          by_below y rails (inr h) = let b = progress.below y rails h in
              let m = b.bit_below in let n = b.negation_below in
              record { bit_below = omega (arith, m, longer); negation_below = omega (arith, n, longer) }

          by_bits : (y : Task) (rails : Rails) → ((y ≡ task) × (made.entry ≡ Some rails)) ⊎ NamedTask after y rails
              → IsBitTask r y
          by_bits y rails (inl h) = subst (IsBitTask r) (sym h.0) (made_bit rails h.1)
          by_bits y rails (inr h) = progress.bits_only y rails h

          by_done : (s : ℕ) (y : Task) → slice_get tasks s ≡ Some y → IsBitTask r y → (s ≡ t) ⊎ (s ≡ t → ⊥)
              → s < t + 1
              → (rails : Rails) × NamedTask next y rails
          by_done s y at bit (inl e) l =
              let same : task ≡ y = same_Some task y (sym is ∙ (ap (slice_get tasks) (sym e) ∙ at)) in
              let m = made_named (subst (IsBitTask r) (sym same) bit) in (
                m.0,
                subst (λ k. entry_of next k ≡ Some (Some m.0)) same
                    (entry_same after made.entry task None was ∙ ap Some m.1),
              )
          by_done s y at bit (inr ne) l =
              let d = progress.done s y (omega arith) at bit in
              (d.0, names_stay after made.entry task y d.0 was d.1)
