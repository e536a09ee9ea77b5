-- How far a path is made, when one step more is done.
use Rattle.std.proofs.Common.{◌≡◌, ℕ, suc, ◌+◌, ◌<◌, ◌≤◌, ◌⊎◌, inl, inr, List, ◌++◌, Some, None, Bool, true, false, sym}
use Rattle.std.proofs.Common.{◌∙◌, ap, subst, arith}
use Rattle.std.specs.Prelude.{Contains, MatchBool, slice_get, slice_set}
use Rattle.std.proofs.lemmas.Bool.{true≢false, cases_eq}
use Rattle.std.proofs.lemmas.Option.{same_Some}
use Rattle.mp_base.proofs.Entries.{all_at, get_kept, one_entry}
use Rattle.nor_net.specs.declared.net.NetId.{NetId}
use Rattle.nor_net.specs.declared.net.Part.{Part}
use Rattle.nor_net.specs.declared.net.Part.TheVariants.{Latch}
use Rattle.rtl_form.specs.declared.rtl.Cell as cells
use Rattle.rtl_form.specs.declared.rtl.RtlExpr.{RtlExpr}
use Rattle.rtl_form.specs.declared.rtl.RtlExpr.TheVariants.{Number, Truth, Cell, Apply}
use Rattle.rtl_form.specs.declared.rtl.Rtl.{Rtl}
use Rattle.mp_base.specs.Entries.{IsAt}
use Rattle.rtl_form.specs.Environment.{is_driven}
use Rattle.rtl_form.specs.Sound.{IsSort}
use Rattle.control_nor.specs.declared.names.Names.{Names}
use Rattle.task_schedule.specs.declared.task.Task.{Task}
use Rattle.task_schedule.specs.declared.task.Task.TheVariants as tasks
use Rattle.control_nor.specs.Lowering.{IsEntry, Stands}
use Rattle.path_form.specs.declared.path.Lift.{Lift}
use Rattle.path_form.specs.Shape.{is_fed}
use Rattle.path_values.specs.Allocated.{DrivenWord}
use Rattle.datapath_making.specs.declared.making.Making.{Making}
use Rattle.datapath_making.specs.Growing.{Appends, Grows, IsUnfed}
use Rattle.datapath_making.specs.Sizes.{Spends}
use Rattle.datapath_making.specs.Steps.{IsFree, IsWaiting}
use Rattle.datapath_making.specs.WellMade.{IsWellMade}
use Rattle.datapath_making.proofs.Lists.{get_cases, set_cases, set_stands}
use Rattle.datapath_alloc.specs.Progress.{AreCellsMade, AreExprsMade, AreSpent, IsBegun, IsDone, IsDrivenWord}
use Rattle.datapath_alloc.specs.Progress.{IsExprMade}
use Rattle.datapath_alloc.proofs.Keeping.{Keeps, driven_kept, lift_kept, placed_kept, port_kept, program_kept}
use Rattle.datapath_alloc.proofs.Keeping.{stored_kept}

-- ---- what was spent

pub spent_more : (cost most c x : ℕ) (old new : Making) → AreSpent cost most old → Spends c x old new
    → AreSpent (cost + c) (most + x) new
spent_more cost most c x old new s h = record {
  nets = let a = s.nets in let b = h.nets in omega (arith, a, b);
  inputs = let a = s.inputs in let b = h.inputs in omega (arith, a, b);
  columns = let a = s.columns in let b = h.columns in omega (arith, a, b);
  crossings = let a = s.crossings in let b = h.crossings in omega (arith, a, b);
}

pub spent_within : (cost most c x : ℕ) (m : Making) → cost ≤ c → most ≤ x → AreSpent cost most m → AreSpent c x m
spent_within cost most c x m l n s = record {
  nets = let a = s.nets in omega (arith, a, l);
  inputs = let a = s.inputs in omega (arith, a, l);
  columns = let a = s.columns in omega (arith, a, l);
  crossings = let a = s.crossings in omega (arith, a, n);
}

-- ---- latches without data

pub unfed_back : (old new : List Part) → Appends old new → (n : ℕ) → IsUnfed new n → IsUnfed old n
unfed_back old new a n u =
    elim (get_cases old a.0 n (Latch u.0 None) (ap (λ ps. slice_get ps n) (sym a.1) ∙ u.1)) [
      | inl h ↦ (u.0, h.1)
      | inr h ↦ absurd (true≢false (sym (all_at (λ q. is_fed q ≡ true) a.0 h.0 (Latch u.0 None) a.2 h.2)))
    ]

pub waiting_kept : (old more new : List Part) (id : NetId) → new ≡ old ++ more → IsWaiting old id → IsWaiting new id
waiting_kept old more new id e h = record {
  slave = h.slave;
  behind = h.behind;
  is_slave = ap (λ ps. slice_get ps h.slave.0) e ∙ get_kept old more h.slave.0 _ h.is_slave;
  is_word = ap (λ ps. slice_get ps id.0) e ∙ get_kept old more id.0 _ h.is_word;
}

-- ---- what was begun

pub begun_kept : (r : Rtl) (bits : List Part) (names : Names) (old new : Making) → IsBegun r bits names old
    → Grows old new → IsWellMade new → IsBegun r bits names new
begun_kept r bits names old new b g made = record {
  made = made;
  width = g.width ∙ b.width;
  control = g.control ∙ b.control;
  names = g.names ∙ b.names;
  reset = λ c e. let h = b.reset c e in (h.0, g.reset ∙ h.1, h.2);
  cell_count = g.cell_count ∙ b.cell_count;
  word_count = g.word_count ∙ b.word_count;
  pad_count = g.pad_count ∙ b.pad_count;
}

-- ---- tasks

module _ (names : Names) where
  pub done_more : (t : ℕ) (task : Task) → IsDone names t task → IsDone names (suc t) task
  done_more t task (s, l, e) = (s, omega (arith, l), e)

  pub done_last : (t : ℕ) (task : Task) → slice_get names.tasks t ≡ Some task → IsDone names (suc t) task
  done_last t task e = (t, omega arith, e)

  pub done_cases : (t : ℕ) (task : Task) → IsDone names (suc t) task
      → IsDone names t task ⊎ (slice_get names.tasks t ≡ Some task)
  done_cases t task (s, l, e) =
      elim (cases_eq s t) [
        | inl same ↦ inr (ap (slice_get names.tasks) (sym same) ∙ e)
        | inr ne ↦ inl (s, omega (arith, l, ne), e)
      ]

module _ (r : Rtl) (names : Names) where
  -- ---- cells, where nothing is made for them

  module _ (old new : Making) (k : Keeps old new) where
    pub cells_kept : (i t j : ℕ) → new.cell_words ≡ old.cell_words → new.pads ≡ old.pads
        → Appends old.slices.net new.slices.net → AreCellsMade r names i t j old → AreCellsMade r names i t j new
    cells_kept i t j same pads a h = record {
      ports = λ c n l w. let p = h.ports c n l w in
          (p.0, p.1, k.cells c p.0 p.2, k.pads n p.1 p.3, port_kept old new k p.0 p.1 p.4);
      waiting = λ c l m w. let p = h.waiting c l m w in
          (p.0, k.cells c p.0 p.1, waiting_kept old.slices.net a.0 new.slices.net p.0 a.1 p.2);
      stored = λ c reset l w e. let p = h.stored c reset l w e in
          (p.0, k.cells c p.0 p.1, stored_kept old new k r names c reset p.0 p.2);
      driven = λ c w d. let p = h.driven c w d in
          (p.0, k.cells c p.0 p.1, driven_kept old new k r names c p.0 p.2);
      only = λ c id e. h.only c id (subst (λ es. Stands es c id) same e);
      pads = λ n pad e. h.pads n pad (subst (λ es. Stands es n pad) pads e);
      unfed = λ n u. let p = h.unfed n (unfed_back old.slices.net new.slices.net a n u) in
          (p.0, p.1, p.2, p.3, k.cells p.0 p.1 p.4, p.5);
    }

    expr_kept : (e : ℕ) (x : RtlExpr) → IsExprMade r names old e x → IsExprMade r names new e x
    expr_kept e (Number n) h = (h.0, program_kept old new k h.0 h.1, h.2, k.words e h.0.net h.3)
    expr_kept e (Truth b) h = h
    expr_kept e (Cell c) h = λ x at w. let p = h x at w in (p.0, k.words e p.0 p.1, k.cells c p.0 p.2)
    expr_kept e (Apply op index args) h = record {
      word = λ w. let p = h.word w in (p.0, k.words e p.0 p.1, placed_kept old new k op args p.0 p.2);
      test = λ w b ne. let p = h.test w b ne in
          (p.0, lift_kept old new k p.0 p.1, p.2, p.3 ∙ sym k.grows.width, placed_kept old new k op args p.0.from p.4);
      bit = λ is. let p = h.bit is in (p.0, lift_kept old new k p.0 p.1, p.2, p.3, k.words _ p.0.from p.4);
    }

    -- ---- expressions, where nothing is made for them

    pub exprs_kept : (t : ℕ) → new.words ≡ old.words → new.lifts ≡ old.lifts → AreExprsMade r names t old
        → AreExprsMade r names t new
    exprs_kept t same lifts h = record {
      exprs = λ e x at d. expr_kept e x (h.exprs e x at d);
      only = λ e id s. h.only e id (subst (λ es. Stands es e id) same s);
      lifts = λ l c. h.lifts l (subst (λ ls. Contains ls l) lifts c);
    }

    -- what is made for expression e, of the next task
    pub expr_more : (t e : ℕ) (x : RtlExpr) → slice_get names.tasks t ≡ Some (tasks.Expr e) → IsAt r.exprs e x
        → IsExprMade r names new e x
        → ((d : ℕ) (id : NetId) → Stands new.words d id → Stands old.words d id ⊎ ((d ≡ e) × IsSort r.cells x true))
        → ((l : Lift) → Contains new.lifts l → Contains old.lifts l ⊎ (Stands names.exprs e l.control × IsEntry x))
        → AreExprsMade r names t old → AreExprsMade r names (suc t) new
    expr_more t e x is at made words lifts h = record {
      exprs = λ d y dat done.
          elim (done_cases names t (tasks.Expr d) done) [
            | inl before ↦ expr_kept d y (h.exprs d y dat before)
            | inr now ↦ here d y dat now
          ];
      only = λ d id s.
          elim (words d id s) [
            | inl before ↦ let o = h.only d id before in (o.0, o.1, o.2, done_more names t (tasks.Expr d) o.3)
            | inr now ↦ subst (λ n. (y : RtlExpr) × IsAt r.exprs n y × IsSort r.cells y true
                × IsDone names (suc t) (tasks.Expr n)) (sym now.0)
                (x, at, now.1, done_last names t (tasks.Expr e) is)
          ];
      lifts = λ l c.
          elim (lifts l c) [
            | inl before ↦ let o = h.lifts l before in
                (o.0, o.1, o.2, o.3, o.4, done_more names t (tasks.Expr o.0) o.5)
            | inr now ↦ (e, x, at, now.1, now.0, done_last names t (tasks.Expr e) is)
          ];
    }
      where
        here : (d : ℕ) (y : RtlExpr) → IsAt r.exprs d y → slice_get names.tasks t ≡ Some (tasks.Expr d)
            → IsExprMade r names new d y
        here d y dat now =
            let task = same_Some (tasks.Expr e) (tasks.Expr d) (sym is ∙ now) in
            let same : e ≡ d = cc in
            subst (λ n. IsExprMade r names new n y) same
            (subst (IsExprMade r names new e) (one_entry r.exprs e x y at
            (subst (λ n. IsAt r.exprs n y) (sym same) dat)) made)

    -- ---- driven words

    pub driven_more : (i t j c : ℕ) (x : cells.Cell) (id : NetId) → slice_get names.tasks t ≡ Some (tasks.Cell c)
        → IsAt r.cells c x → x.word ≡ true → is_driven x.kind ≡ true → IsFree old.cell_words c
        → new.cell_words ≡ slice_set old.cell_words c (Some id) → new.pads ≡ old.pads
        → Appends old.slices.net new.slices.net → DrivenWord r new.slices new.casts names new.words c id
        → AreCellsMade r names i t j old → AreCellsMade r names i (suc t) j new
    driven_more i t j c x id is at word driven free set pads a made h = record {
      ports = λ d n l w. let p = h.ports d n l w in
          (p.0, p.1, k.cells d p.0 p.2, k.pads n p.1 p.3, port_kept old new k p.0 p.1 p.4);
      waiting = λ d l m w. let p = h.waiting d l m w in
          (p.0, k.cells d p.0 p.1, waiting_kept old.slices.net a.0 new.slices.net p.0 a.1 p.2);
      stored = λ d reset l w e. let p = h.stored d reset l w e in
          (p.0, k.cells d p.0 p.1, stored_kept old new k r names d reset p.0 p.2);
      driven = λ d w done.
          elim (done_cases names t (tasks.Cell d) done) [
            | inl before ↦ let p = h.driven d w before in
                (p.0, k.cells d p.0 p.1, driven_kept old new k r names d p.0 p.2)
            | inr now ↦ here d now
          ];
      only = λ d o s.
          elim (set_cases old.cell_words c id d o (subst (λ es. Stands es d o) set s)) [
            | inl now ↦ subst (λ n. (y : cells.Cell) × IsAt r.cells n y × (y.word ≡ true)
                × MatchBool (is_driven y.kind) (IsDone names (suc t) (tasks.Cell n)) (n < i)) (sym now.0) (
                  x,
                  at,
                  word,
                  subst (λ b. MatchBool b (IsDone names (suc t) (tasks.Cell c)) (c < i)) (sym driven)
                      (done_last names t (tasks.Cell c) is),
                )
            | inr before ↦ let p = h.only d o before.1 in
                (p.0, p.1, p.2, later d (is_driven p.0.kind) p.3)
          ];
      pads = λ n pad e. h.pads n pad (subst (λ es. Stands es n pad) pads e);
      unfed = λ n u. let p = h.unfed n (unfed_back old.slices.net new.slices.net a n u) in
          (p.0, p.1, p.2, p.3, k.cells p.0 p.1 p.4, p.5);
    }
      where
        here : (d : ℕ) → slice_get names.tasks t ≡ Some (tasks.Cell d)
            → (o : NetId) × Stands new.cell_words d o × DrivenWord r new.slices new.casts names new.words d o
        here d now =
            let task = same_Some (tasks.Cell c) (tasks.Cell d) (sym is ∙ now) in
            let same : c ≡ d = cc in
            subst (λ n. (o : NetId) × Stands new.cell_words n o
            × DrivenWord r new.slices new.casts names new.words n o) same
            (id, subst (λ es. Stands es c id) (sym set) (set_stands old.cell_words c id free), made)

        later : (d : ℕ) (b : Bool) → MatchBool b (IsDone names t (tasks.Cell d)) (d < i)
            → MatchBool b (IsDone names (suc t) (tasks.Cell d)) (d < i)
        later d true e = done_more names t (tasks.Cell d) e
        later d false e = e

  -- ---- a task for which nothing is made

  pub cells_on : (i t j : ℕ) (m : Making)
      → ((c : ℕ) → slice_get names.tasks t ≡ Some (tasks.Cell c) → IsDrivenWord r c → ⊥)
      → AreCellsMade r names i t j m → AreCellsMade r names i (suc t) j m
  cells_on i t j m never h = record {
    ports = h.ports;
    waiting = h.waiting;
    stored = h.stored;
    driven = λ c w done.
        elim (done_cases names t (tasks.Cell c) done) [
          | inl before ↦ h.driven c w before
          | inr now ↦ absurd (never c now w)
        ];
    only = λ c id s. let p = h.only c id s in (p.0, p.1, p.2, later c (is_driven p.0.kind) p.3);
    pads = h.pads;
    unfed = h.unfed;
  }
    where
      later : (d : ℕ) (b : Bool) → MatchBool b (IsDone names t (tasks.Cell d)) (d < i)
          → MatchBool b (IsDone names (suc t) (tasks.Cell d)) (d < i)
      later d true e = done_more names t (tasks.Cell d) e
      later d false e = e

  pub exprs_on : (t : ℕ) (m : Making) → ((e : ℕ) → slice_get names.tasks t ≡ Some (tasks.Expr e) → ⊥)
      → AreExprsMade r names t m → AreExprsMade r names (suc t) m
  exprs_on t m never h = record {
    exprs = λ e x at done.
        elim (done_cases names t (tasks.Expr e) done) [
          | inl before ↦ h.exprs e x at before
          | inr now ↦ absurd (never e now)
        ];
    only = λ e id s. let p = h.only e id s in (p.0, p.1, p.2, done_more names t (tasks.Expr e) p.3);
    lifts = λ l c. let p = h.lifts l c in (p.0, p.1, p.2, p.3, p.4, done_more names t (tasks.Expr p.0) p.5);
  }
