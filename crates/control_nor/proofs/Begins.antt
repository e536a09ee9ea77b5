-- What stands before the tasks, and before the next values.
use Rattle.std.proofs.Common.{◌≡◌, ℕ, zero, suc, ◌<◌, inl, List, Option, Some, None, Bool, true, false, length}
use Rattle.std.proofs.Common.{replicate, get_or, eqb, refl, sym, ◌∙◌, ap, subst, arith}
use Rattle.std.specs.Prelude.{All, Contains, IfSome, IsSome, not, ◌&&◌, ◌==◌, slice_get}
use Rattle.std.proofs.lemmas.Bool.{eqb-true}
use Rattle.std.proofs.lemmas.List.{length-replicate}
use Rattle.std.proofs.lemmas.List.Elements.{All-filter, Contains-get_or, filter_passes}
use Rattle.std.proofs.lemmas.Option.{none-some, same_Some, slice_get_within}
use Rattle.std.proofs.lemmas.Map.Keys.{any_passes_from_place}
use Rattle.mp_base.specs.declared.pad.Pad.{Pad}
use Rattle.mp_base.proofs.Induction.{by_test}
use Rattle.nor_net.specs.declared.net.NetId.{NetId}
use Rattle.nor_net.specs.declared.net.Phase.TheVariants as phases
use Rattle.nor_net.specs.declared.net.Part.{Part}
use Rattle.nor_net.specs.declared.net.Part.TheVariants.{Latch}
use Rattle.rtl_form.specs.declared.rtl.Cell as cells
use Rattle.rtl_form.specs.declared.rtl.CellKind.{CellKind}
use Rattle.rtl_form.specs.declared.rtl.CellKind.TheVariants as kinds
use Rattle.rtl_form.specs.declared.rtl.Transfer.{Transfer}
use Rattle.rtl_form.specs.declared.rtl.Rtl.{Rtl}
use Rattle.mp_base.specs.Entries.{IsAt}
use Rattle.mp_base.proofs.Entries.{one_entry, some_entry, within}
use Rattle.rtl_form.specs.Environment.{is_driven, is_stored}
use Rattle.rtl_form.specs.Sound.{CellFits, HasSort, IsReset, IsSound}
use Rattle.task_schedule.specs.declared.task.Task.{Task}
use Rattle.task_schedule.specs.declared.task.Task.TheVariants.{Expr, Cell}
use Rattle.bit_gates.specs.declared.rails.Rails.{Rails}
use Rattle.control_nor.specs.declared.names.Bits.{Bits}
use Rattle.bit_gates.specs.Cells.{IsTransferNamed, transfers_to}
use Rattle.control_nor.specs.Done.{AreDone}
use Rattle.control_nor.specs.First.{AreFirstDone}
use Rattle.control_nor.specs.NextValues.{AreNextValues, AreStored, AreWaiting, IsStoring, SlavesBehind, is_stored_bit}
use Rattle.control_nor.specs.Progress.{IsBegun, NamedTask}
use Rattle.bit_gates.specs.Rails.{AreBelow, IsNamed, Named}
use Rattle.task_schedule.specs.Schedule.{IsSchedule, IsTask}
use Rattle.control_nor.specs.Tasks.{entry_of}
use Rattle.bit_gates.proofs.Adding.{logic_keep}

pub none_named : (n k : ℕ) (rails : Rails) → Named (replicate n None) k rails → ⊥
none_named zero k rails e = none-some (Some rails) e
none_named (suc n) zero rails e = none-some rails (same_Some None (Some rails) e)
none_named (suc n) (suc k) rails e = none_named n k rails e

none_there : (n k : ℕ) → k < n → slice_get {X = Option Rails} (replicate n None) k ≡ Some None
none_there zero k l = absurd (omega arith)
none_there (suc n) zero l = refl
none_there (suc n) (suc k) l = none_there n k (omega arith)

-- a stored bit
pub stored_kind : (x : cells.Cell) → is_stored_bit x ≡ true → (x.word ≡ false) × (x.kind ≡ kinds.Stored)
stored_kind x on = by_cell x.word x.kind refl refl on
  where
    by_cell : (word : Bool) (kind : CellKind) → x.word ≡ word → x.kind ≡ kind → (not word && is_stored kind) ≡ true
        → (x.word ≡ false) × (x.kind ≡ kinds.Stored)
    by_cell true kind w k e = absurd (cc e)
    by_cell false (kinds.Input n) w k e = absurd (cc e)
    by_cell false (kinds.Output n) w k e = absurd (cc e)
    by_cell false kinds.Inner w k e = absurd (cc e)
    by_cell false kinds.Stored w k e = (w, k)

pub is_stored_from : (x : cells.Cell) → x.word ≡ false → x.kind ≡ kinds.Stored → is_stored_bit x ≡ true
is_stored_from x w k = ap (λ b. not b && is_stored x.kind) w ∙ ap is_stored k

-- where a bit is stored, a cell resets
pub has_reset : (r : Rtl) → IsSound r → (c : ℕ) (x : cells.Cell) → IsAt r.cells c x → x.kind ≡ kinds.Stored
    → (reset : ℕ) × (r.reset ≡ Some reset)
has_reset r sound c x at kind =
    by_reset r.reset refl (sound.resets (any_passes_from_place (λ (x : cells.Cell). is_stored x.kind) r.cells c x
    at (ap is_stored kind)))
  where
    by_reset : (o : Option ℕ) → r.reset ≡ o → IsSome o → (reset : ℕ) × (r.reset ≡ Some reset)
    by_reset None e h = absurd (cc h)
    by_reset (Some k) e h = (k, e)

module _ (r : Rtl) (sound : IsSound r) (old mid : List Part) (named : List (Option Rails))
    (pads : List (Option NetId))
    (first : AreFirstDone r (length r.cells) old mid named pads) where
  abbrev bits0 : Bits
  bits0 = record { cells = named; exprs = replicate (length r.exprs) None }

  at_cell : (c : ℕ) (rails : Rails) → Named named c rails → (x : cells.Cell) × IsAt r.cells c x
  at_cell c rails h = some_entry r.cells c (let w = slice_get_within named c (Some rails) h in
      let n = first.names.count in omega (arith, w, n))

  pub begun : IsBegun r mid bits0
  begun = record {
    cell_count = first.names.count;
    expr_count = length-replicate (length r.exprs) None;
    below = λ task rails h. below_of task rails h;
    bits_only = λ task rails h. bit_of task rails h;
    first = λ c x at w d. first.names.first c x (within r.cells c at) at w d;
    waiting = λ task h. wait_of_task task h;
  }
    where
      below_of : (task : Task) (rails : Rails) → NamedTask bits0 task rails → AreBelow (length mid) rails
      below_of (Expr e) rails h = absurd (none_named (length r.exprs) e rails h)
      below_of (Cell c) rails h = first.names.below c rails h

      bit_of : (task : Task) (rails : Rails) → NamedTask bits0 task rails
          → Rattle.control_nor.specs.Progress.IsBitTask r task
      bit_of (Expr e) rails h = absurd (none_named (length r.exprs) e rails h)
      bit_of (Cell c) rails h = let x = at_cell c rails h in (x.0, x.1, first.names.bits_only c x.0 rails x.1 h)

      wait_of_task : (task : Task) → IsTask r task → entry_of bits0 task ≡ Some None
      wait_of_task (Expr e) h = none_there (length r.exprs) e h
      wait_of_task (Cell c) h = first.names.waiting c h.0 (within r.cells c h.1) h.1 h.2

  module _ (tasks : List Task) (schedule : IsSchedule r tasks) (mid2 : List Part) (bits : Bits) (ends : List ℕ)
      (done : AreDone r tasks (length tasks) mid mid2 bits0 bits ends) where
    pub in_tasks : (task : Task) → IsTask r task → (t : ℕ) × (t < length tasks) × (slice_get tasks t ≡ Some task)
    in_tasks task h = let t = schedule.all task h in (t.0, slice_get_within tasks t.0 task t.1, t.1)

    pub expr_named : (e : ℕ) → HasSort r e false → IsNamed bits.exprs e
    expr_named e h = let t = in_tasks (Expr e) (within r.exprs e h.1) in done.progress.done t.0 (Expr e) t.1 t.2 h

    -- a cell that nothing drives has the nets that it had first
    pub first_rails : (c : ℕ) (x : cells.Cell) (rails : Rails) → IsAt r.cells c x → is_driven x.kind ≡ false
        → Named bits.cells c rails → Named named c rails
    first_rails c x rails at d h =
        let b = done.progress.bits_only (Cell c) rails h in
        let word = ap (λ (x : cells.Cell). x.word) (one_entry r.cells c x b.0 at b.1) ∙ b.2 in
        let f = first.names.first c x (within r.cells c at) at word d in
        subst (Named named c) (same_Some f.0 rails (same_Some (Some f.0) (Some rails)
        (sym (done.progress.keeps (Cell c) f.0 f.1) ∙ h))) f.1

    pub cell_named : (c : ℕ) (x : cells.Cell) → IsAt r.cells c x → x.word ≡ false → IsNamed bits.cells c
    cell_named c x at word = by_test (is_driven x.kind)
        (λ d. let t = in_tasks (Cell c) (x, at, d) in done.progress.done t.0 (Cell c) t.1 t.2 (x, at, word))
        (λ d. let f = first.names.first c x (within r.cells c at) at word d in
        (f.0, done.progress.keeps (Cell c) f.0 f.1))

    stored_first : (c : ℕ) (x : cells.Cell) (rails : Rails) → IsAt r.cells c x → is_stored_bit x ≡ true
        → Named bits.cells c rails
        → Named named c rails
    stored_first c x rails at on h = first_rails c x rails at (ap is_driven (stored_kind x on).1) h

    pub slaves_behind : SlavesBehind r bits (length old)
    slaves_behind c x rails at on h = first.names.negation_behind c rails (stored_first c x rails at on h)

    pub waiting : AreWaiting r mid2 bits
    waiting = record {
      below = λ e rails h. done.progress.below (Expr e) rails h;
      has = λ c x at on. cell_named c x at (stored_kind x on).0;
      slaves = λ c x rails at on h. logic_keep mid mid2 rails.negation.0 (Latch phases.B None) done.progress.adds
          (first.nets.slaves c x rails at (stored_kind x on).1 (stored_first c x rails at on h)).is_slave;
      apart = λ c d x y p q at on h at_d on_d k e.
          let a = stored_first c x p at on h in let b = stored_first d y q at_d on_d k in
          let m = (first.nets.slaves c x p at (stored_kind x on).1 a).behind in
          let n = (first.nets.slaves d y q at_d (stored_kind y on_d).1 b).behind in
          first.names.apart c d p q a b (omega (arith, m, n, e));
      transfers = λ c x at on. named_of c x at on;
    }
      where
        named_of : (c : ℕ) (x : cells.Cell) → IsAt r.cells c x → is_stored_bit x ≡ true
            → All (IsTransferNamed bits.exprs) (transfers_to r.transfers c)
        named_of c x at on k d l =
            All-filter (λ (t : Transfer). eqb t.target c) (λ (t : Transfer). t.target ≡ c
            → IsTransferNamed bits.exprs t) r.transfers
            (λ k d l. each (get_or r.transfers k d) (Contains-get_or r.transfers k d l)) k d l
            (eqb-true (get_or (transfers_to r.transfers c) k d).target c
            (filter_passes (λ (t : Transfer). eqb t.target c) r.transfers k d l))
          where
            each : (t : Transfer) → Contains r.transfers t → t.target ≡ c → IsTransferNamed bits.exprs t
            each t inside to =
                let (guard, (cell, at_cell, value, no_input)) = sound.transfers t inside in
                let here = one_entry r.cells c cell x (subst (λ n. IsAt r.cells n cell) to at_cell) at in (
                  expr_named t.guard guard,
                  expr_named t.value
                      (subst (HasSort r t.value) (ap (λ (x : cells.Cell). x.word) here ∙ (stored_kind x on).0) value),
                )

    -- the cell that resets has nets
    pub reset_named : (c : ℕ) → r.reset ≡ Some c → IsNamed bits.cells c
    reset_named c e =
        let h : IsReset r c = subst (λ o. IfSome o (IsReset r)) e sound.reset in
        let fits : CellFits r h.0 (kinds.Input h.1) = subst (CellFits r h.0) h.4 (sound.cells c h.0 h.3) in
        let same = one_entry (r.pads).inputs h.1 fits.0 h.2 fits.1 h.5 in
        let word : h.0.word ≡ false = fits.2 ∙ (ap (λ (p : Pad). not (p.width == 0)) same
        ∙ ap (λ n. not (n == 0)) h.6) in
        cell_named c h.0 h.3 word

-- the next values of all cells are those of all stored bits
pub all_next : (r : Rtl) (bits : Bits) (index : ℕ) (rails : Rails) (old new : List Part) → r.reset ≡ Some index
    → Named bits.cells index rails → AreStored r bits (length r.cells) rails.bit old new
    → AreNextValues r bits old new
all_next r bits index rails old new is named h = record {
  longer = h.longer;
  keeps = h.keeps;
  behind = h.behind;
  within = (h.within.0, h.within.1, let e = h.within.2 in omega (arith, e));
  stored = λ c reset x q at on_at on k e n.
      let same : rails ≡ at = same_Some rails at (same_Some (Some rails) (Some at)
      (sym named ∙ (ap (slice_get bits.cells) (same_Some index reset (sym is ∙ e)) ∙ n))) in
      subst (λ (p : Rails). IsStoring bits.exprs (transfers_to r.transfers c) (length old) new q p.bit) same
      (h.stored c x q (within r.cells c on_at) on_at on k);
  inputs = h.inputs;
  latches = h.latches;
  unfed = λ n p e. let u = h.unfed n p e in (u.0, λ c x q at on k z. u.1 c x q (within r.cells c at) at on k z);
}

-- where nothing resets there are none
pub none_next : (r : Rtl) → IsSound r → (bits : Bits) (old : List Part) → r.reset ≡ None
    → AreNextValues r bits old old
none_next r sound bits old e = record {
  longer = omega arith;
  keeps = λ n p q fed. q;
  behind = λ before l h. h;
  within = (0, record { nets = omega arith; inputs = omega arith; active = omega arith }, omega arith);
  stored = λ c reset x q at on_at on k f n. absurd (none-some reset (sym e ∙ f));
  inputs = λ n q. q;
  latches = λ n p source q. inl q;
  unfed = λ n p q. (
    q,
    λ c x rails at on k z. let h = has_reset r sound c x at (stored_kind x on).1 in
        none-some h.0 (sym e ∙ h.1),
  );
}
