-- Tasks, one after the other.
use Rattle.std.proofs.Common.{◌≡◌, ℕ, ◌+◌, ◌≤◌, ◌⊎◌, inl, inr, List, Option, Some, None, Bool, true, false, length}
use Rattle.std.proofs.Common.{refl, sym, ◌∙◌, ap, subst, arith}
use Rattle.std.specs.Prelude.{MatchBool, ◌&&◌, not, slice_get, if◌then◌else◌}
use Rattle.std.proofs.lemmas.Option.{none-some, same_Some, slice_get_within}
use Rattle.std.proofs.lemmas.List.{length-set}
use Rattle.mp_base.proofs.Entries.{get_set_same, get_set_other, one_entry}
use Rattle.std.proofs.lemmas.Bool.{cases_eq}
use Rattle.nor_net.specs.declared.net.Part.{Part}
use Rattle.rtl_form.specs.declared.rtl.Cell as cells
use Rattle.rtl_form.specs.declared.rtl.RtlExpr.{RtlExpr}
use Rattle.rtl_form.specs.declared.rtl.Rtl.{Rtl}
use Rattle.mp_base.specs.Entries.{IsAt}
use Rattle.rtl_form.specs.Environment.{is_driven}
use Rattle.task_schedule.specs.declared.task.Task.{Task}
use Rattle.task_schedule.specs.declared.task.Task.TheVariants.{Expr, Cell}
use Rattle.bit_gates.specs.declared.rails.Rails.{Rails}
use Rattle.control_nor.specs.declared.names.Bits.{Bits}
use Rattle.bit_gates.specs.Adding.{AddsLogic}
use Rattle.bit_gates.specs.Cells.{IsDrivenMade, transfers_to}
use Rattle.bit_gates.specs.Exprs.{IsExprMade}
use Rattle.control_nor.specs.Lowering.{IsEntry}
use Rattle.control_nor.specs.Progress.{IsSpent, NamedTask, driven_cost, driven_count}
use Rattle.bit_gates.specs.Rails.{AllBelow, AreBelow}
use Rattle.task_schedule.specs.Schedule.{IsTask}
use Rattle.bit_gates.specs.Size.{IsWithinCost, bit_expr_cost, entry_count}
use Rattle.control_nor.specs.Tasks.{IsTaskMade, entry_of, with_entry}
use Rattle.bit_gates.proofs.Adding.{logic_none}
use Rattle.control_nor.proofs.Left.{left_some, set_there, waits_fall}
use Rattle.control_nor.proofs.Made.{AreAdded, driven_added, expr_added, nothing_added}

-- two tasks are the same or not
pub task_cases : (x y : Task) → (x ≡ y) ⊎ (x ≡ y → ⊥)
task_cases (Expr d) (Expr e) = elim (cases_eq d e) [ inl h ↦ inl (ap Expr h) | inr ne ↦ inr (λ h. ne (cc h)) ]
task_cases (Expr d) (Cell e) = inr (λ h. absurd (cc h))
task_cases (Cell d) (Expr e) = inr (λ h. absurd (cc h))
task_cases (Cell d) (Cell e) = elim (cases_eq d e) [ inl h ↦ inl (ap Cell h) | inr ne ↦ inr (λ h. ne (cc h)) ]

-- ---- entries of tasks after one was set

module _ (bits : Bits) (o : Option Rails) where
  pub entry_same : (task : Task) (was : Option Rails) → entry_of bits task ≡ Some was
      → entry_of (with_entry bits task o) task ≡ Some o
  entry_same (Expr e) was h = get_set_same bits.exprs e o (slice_get_within bits.exprs e was h)
  entry_same (Cell c) was h = get_set_same bits.cells c o (slice_get_within bits.cells c was h)

  pub entry_other : (task y : Task) → (y ≡ task → ⊥) → entry_of (with_entry bits task o) y ≡ entry_of bits y
  entry_other (Expr e) (Expr d) ne = get_set_other bits.exprs e o d (λ h. ne (ap Expr h))
  entry_other (Expr e) (Cell d) ne = refl
  entry_other (Cell c) (Expr d) ne = refl
  entry_other (Cell c) (Cell d) ne = get_set_other bits.cells c o d (λ h. ne (ap Cell h))

  pub cells_after : (task : Task) → length (with_entry bits task o).cells ≡ length bits.cells
  cells_after (Expr e) = refl
  cells_after (Cell c) = length-set bits.cells c o

  pub exprs_after : (task : Task) → length (with_entry bits task o).exprs ≡ length bits.exprs
  exprs_after (Expr e) = length-set bits.exprs e o
  exprs_after (Cell c) = refl

-- a name after a task is the task's own or was there before
pub named_after : (bits : Bits) (o : Option Rails) (task y : Task) (rails : Rails) → entry_of bits task ≡ Some None
    → NamedTask (with_entry bits task o) y rails → ((y ≡ task) × (o ≡ Some rails)) ⊎ NamedTask bits y rails
named_after bits o task y rails was h =
    elim (task_cases y task) [
      | inl e ↦ inl (
        e,
        same_Some o (Some rails) (sym (entry_same bits o task None was)
            ∙ (ap (entry_of (with_entry bits task o)) (sym e) ∙ h)),
      )
      | inr ne ↦ inr (sym (entry_other bits o task y ne) ∙ h)
    ]

-- names stay
pub names_stay : (bits : Bits) (o : Option Rails) (task y : Task) (rails : Rails) → entry_of bits task ≡ Some None
    → NamedTask bits y rails → NamedTask (with_entry bits task o) y rails
names_stay bits o task y rails was h =
    entry_other bits o task y (λ e. absurd (none-some rails
    (same_Some None (Some rails) (sym was ∙ (ap (entry_of bits) (sym e) ∙ h))))) ∙ h

-- ---- one task

-- an expression where a word enters
abbrev pub IsEntryTask : Rtl → Task → Type 0
IsEntryTask r (Expr e) = (x : RtlExpr) × IsAt r.exprs e x × IsEntry x
IsEntryTask r (Cell c) = ⊥

-- what a task added
pub record IsStep (r : Rtl) (task : Task) (old new : List Part) (before : Bits) (o : Option Rails) : Type 0 where
  pub adds : AddsLogic old new
  pub below : (rails : Rails) → o ≡ Some rails → AreBelow (length new) rails
  pub inputs : (n : ℕ) → length old ≤ n → slice_get new n ≡ Some
      Rattle.nor_net.specs.declared.net.Part.TheVariants.Input
      → IsEntryTask r task × ((rails : Rails) × (o ≡ Some rails) × (rails.bit.0 ≡ n))
  pub entry : IsEntryTask r task → (rails : Rails) → o ≡ Some rails → (length old ≤ rails.bit.0)
      × (slice_get new rails.bit.0 ≡ Some Rattle.nor_net.specs.declared.net.Part.TheVariants.Input)
  pub spent : IsSpent r old new before (with_entry before task o)

module _ (r : Rtl) (old new : List Part) (before : Bits)
    (cells_below : AllBelow (length old) before.cells) (exprs_below : AllBelow (length old) before.exprs) where
  -- where nothing was added, what is left is the same
  none_step : (task : Task) (o : Option Rails) → entry_of before task ≡ Some None → o ≡ None → new ≡ old
      → IsStep r task old new before o
  none_step task o was is same = record {
    adds = subst (AddsLogic old) (sym same) (logic_none old);
    below = λ rails e. absurd (none-some rails (sym is ∙ e));
    inputs = λ n l e. absurd (let long = slice_get_within new n
        Rattle.nor_net.specs.declared.net.Part.TheVariants.Input e in
        let s = ap length same in omega (arith, long, s, l));
    entry = λ y rails e. absurd (none-some rails (sym is ∙ e));
    spent = subst (λ bits. IsSpent r old new before bits) (sym still) (record {
      cost = 0;
      entries = 0;
      within = subst (IsWithinCost 0 0 old) (sym same) (record {
        nets = omega arith;
        inputs = omega arith;
        active = omega arith;
      });
      cost_is = omega arith;
      entries_is = omega arith;
    });
  }
    where
      by_task : (task : Task) → entry_of before task ≡ Some None → with_entry before task None ≡ before
      by_task (Expr e) was = ap (λ es. record before { exprs = es }) (set_there before.exprs e None was)
      by_task (Cell c) was = ap (λ cs. record before { cells = cs }) (set_there before.cells c None was)

      still : with_entry before task o ≡ before
      still = ap (with_entry before task) is ∙ by_task task was

  expr_step : (e : ℕ) (x : RtlExpr) (o : Option Rails) → IsAt r.exprs e x → slice_get before.exprs e ≡ Some None
      → IsExprMade before.cells before.exprs x old new o → IsStep r (Expr e) old new before o
  expr_step e x None at was made =
      none_step (Expr e) None was refl (nothing_added before.cells before.exprs old new cells_below exprs_below x
      made).0
  expr_step e x (Some rails) at was made = record {
    adds = added.adds;
    below = λ q h. subst (AreBelow (length new)) (same_Some rails q h) added.below;
    inputs = λ n l i. let h = added.inputs n l i in ((x, at, h.0), (rails, refl, h.1));
    entry = λ y q h.
        subst (λ q. (length old ≤ q.bit.0) × (slice_get new q.bit.0
        ≡ Some Rattle.nor_net.specs.declared.net.Part.TheVariants.Input))
        (same_Some rails q h) (added.entry (subst IsEntry (one_entry r.exprs e y.0 x y.1 at) y.2));
    spent = record {
      cost = bit_expr_cost x;
      entries = entry_count x;
      within = added.within;
      cost_is = let f = left_some bit_expr_cost before.exprs r.exprs e x rails was at in
          omega (arith, f);
      entries_is = left_some entry_count before.exprs r.exprs e x rails was at;
    };
  }
    where
      added : AreAdded (IsEntry x) (bit_expr_cost x) (entry_count x) old new rails
      added = expr_added before.cells before.exprs old new cells_below exprs_below x rails made

  cell_step : (c : ℕ) (x : cells.Cell) (rails : Rails) → IsAt r.cells c x → driven_count x ≡ 1
      → slice_get before.cells c ≡ Some None
      → IsDrivenMade before.exprs (transfers_to r.transfers c) old new rails
      → IsStep r (Cell c) old new before (Some rails)
  cell_step c x rails at driven was made = record {
    adds = added.adds;
    below = λ q h. subst (AreBelow (length new)) (same_Some rails q h) added.below;
    inputs = λ n l i. absurd (added.inputs n l i).0;
    entry = λ y q h. absurd y;
    spent = record {
      cost = 2 + length (transfers_to r.transfers c);
      entries = 0;
      within = added.within;
      cost_is = let f = left_some driven_cost before.cells r.cells c x rails was at in
          let g = waits_fall r.cells before.cells c x rails was at driven r.transfers in
          omega (arith, f, g, driven);
      entries_is = omega arith;
    };
  }
    where
      added : AreAdded ⊥ (2 + length (transfers_to r.transfers c)) 0 old new rails
      added = driven_added before.exprs (transfers_to r.transfers c) old new rails made

  -- what a task added, if the expression or cell had no nets
  pub task_step : (task : Task) (o : Option Rails) → IsTask r task → entry_of before task ≡ Some None
      → IsTaskMade r before task old new o → IsStep r task old new before o
  task_step (Expr e) o is was made = expr_step e made.0 o made.1 was made.2
  task_step (Cell c) o is was made = by_word made.0.word refl made.2
    where
      driven : made.0.word ≡ false → driven_count made.0 ≡ 1
      driven bit =
          let same = one_entry r.cells c is.0 made.0 is.1 made.1 in
          ap (λ b. if b && not made.0.word then 1 else 0) (ap (λ (x : cells.Cell). is_driven x.kind) (sym same)
          ∙ is.2)
          ∙ ap (λ b. if not b then 1 else 0) bit

      by_word : (b : Bool) → made.0.word ≡ b
          → MatchBool b ((o ≡ None) × (new ≡ old))
          ((rails : Rails) × (o ≡ Some rails) × IsDrivenMade before.exprs (transfers_to r.transfers c) old new rails)
          → IsStep r (Cell c) old new before o
      by_word true w h = none_step (Cell c) o was h.0 h.1
      by_word false w h =
          subst (IsStep r (Cell c) old new before) (sym h.1) (cell_step c made.0 h.0 made.1 (driven w) was h.2)
