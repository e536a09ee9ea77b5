-- How far a path is made, when one task more is done.
use Rattle.std.proofs.Common.{◌≡◌, ℕ, suc, ◌+◌, ◌*◌, ◌≤◌, ◌⊎◌, inl, inr, List, Option, Some, None, true, false, length}
use Rattle.std.proofs.Common.{refl, sym, ◌∙◌, ap, subst, arith}
use Rattle.organelles.specs.declared.slices.SliceNet.{SliceNet}
use Rattle.std.specs.Prelude.{Contains, ◌&&◌, not, if◌then◌else◌, slice_get, slice_index_or, slice_set}
use Rattle.std.specs.Option.{option_map_or}
use Rattle.std.proofs.lemmas.Bool.{true≢false, false≢true, cases_eq}
use Rattle.std.proofs.lemmas.Option.{none-some, same_Some, slice_get_within}
use Rattle.std.proofs.lemmas.List.Elements.{Contains-push, Contains-push_cases}
use Rattle.mp_base.specs.declared.op.Op.{Op}
use Rattle.mp_base.specs.declared.op.Op.TheVariants as ops
use Rattle.mp_base.proofs.Entries.{get_set_same, get_set_other, one_entry}
use Rattle.nor_net.specs.declared.net.NetId.{NetId}
use Rattle.nor_net.specs.declared.net.Part.{Part}
use Rattle.rtl_form.specs.declared.rtl.Cell as cells
use Rattle.rtl_form.specs.declared.rtl.RtlExpr.{RtlExpr}
use Rattle.rtl_form.specs.declared.rtl.RtlExpr.TheVariants.{Number, Apply}
use Rattle.rtl_form.specs.declared.rtl.Rtl.{Rtl}
use Rattle.rtl_form.specs.Cost.{expr_cost, op_cost}
use Rattle.mp_base.specs.Entries.{IsAt}
use Rattle.rtl_form.specs.Environment.{is_driven}
use Rattle.rtl_form.specs.Operands.{gives_word, takes_words}
use Rattle.rtl_form.specs.Sound.{IsSort}
use Rattle.control_nor.specs.declared.names.Names.{Names}
use Rattle.task_schedule.specs.declared.task.Task.{Task}
use Rattle.task_schedule.specs.declared.task.Task.TheVariants as tasks
use Rattle.control_nor.specs.Lowering.{IsEntry, Stands}
use Rattle.bit_gates.specs.Size.{entry_count}
use Rattle.path_form.specs.declared.path.Lift.{Lift}
use Rattle.path_form.specs.Shape.{is_fed}
use Rattle.path_values.specs.Allocated.{transfers_to, Placed, DrivenWord}
use Rattle.datapath_making.specs.declared.making.Making.{Making}
use Rattle.datapath_making.specs.Growing.{Appends, Grows}
use Rattle.datapath_making.specs.Steps.{IsBitMade, IsDrivenMade, IsFree, IsNumberMade, IsOperatorMade, IsStep}
use Rattle.datapath_making.specs.Steps.{IsTestMade}
use Rattle.datapath_making.specs.WellMade.{IsWellMade}
use Rattle.datapath_making.proofs.Keeping.{grows_refl, nothing_more, spends_none}
use Rattle.datapath_making.proofs.Lists.{set_cases, set_keeps, set_stands}
use Rattle.datapath_alloc.specs.Progress.{AreCellsMade, AreExprsMade, IsDrivenWord, IsExprMade, IsProgress}
use Rattle.datapath_sharing.specs.Asking.{IsLifted}
use Rattle.datapath_alloc.specs.Spending.{driven_cost, driven_crossings, task_cost, task_crossings, writes}
use Rattle.datapath_alloc.proofs.Costs.{sum_next}
use Rattle.datapath_alloc.proofs.Keeping.{Keeps}
use Rattle.datapath_alloc.proofs.Reaching.{free_cell, free_word}
use Rattle.datapath_alloc.proofs.Steps.{
  begun_kept,
  cells_kept,
  cells_on,
  driven_more,
  expr_more,
  exprs_kept,
  exprs_on,
  spent_more,
  spent_within,
}

-- ---- steps that add nothing

pub still : (m : Making) → IsWellMade m → IsStep 0 0 m m
still m made = record { grows = grows_refl m; spends = spends_none m; marks = refl; made = made }

pub appends_not : (net : List Part) → Appends net net
appends_not net = nothing_more (λ q. is_fed q ≡ true) net

-- ---- what a driven word costs

module _ (r : Rtl) (c : ℕ) (x : cells.Cell) (at : IsAt r.cells c x) (word : x.word ≡ true)
    (driven : is_driven x.kind ≡ true) where
  pub driven_pays : driven_cost r c ≡ 2 + 4 * writes r c
  driven_pays = ap (λ o. option_map_or (λ (y : cells.Cell). if y.word then (if is_driven y.kind then 2 + 4 * writes r c
      else 0) else 0) o 0) at
      ∙ (ap (λ b. if b then (if is_driven x.kind then 2 + 4 * writes r c else 0) else 0) word
      ∙ ap (λ b. if b then 2 + 4 * writes r c else 0) driven)

  driven_crosses : driven_crossings r c ≡ writes r c
  driven_crosses = ap (λ o. option_map_or (λ (y : cells.Cell). if y.word then (if is_driven y.kind then writes r c
      else 0) else 0) o 0) at
      ∙ (ap (λ b. if b then (if is_driven x.kind then writes r c else 0) else 0) word
      ∙ ap (λ b. if b then writes r c else 0) driven)

-- ---- names that stay

pub keeps_all : (old new : Making) → Grows old new → new.cell_words ≡ old.cell_words → new.words ≡ old.words
    → new.pads ≡ old.pads → Keeps old new
keeps_all old new g cs ws ps = record {
  grows = g;
  cells = λ c id h. subst (λ es. Stands es c id) (sym cs) h;
  words = λ e id h. subst (λ es. Stands es e id) (sym ws) h;
  pads = λ k id h. subst (λ es. Stands es k id) (sym ps) h;
}

keeps_word : (old new : Making) → Grows old new → new.cell_words ≡ old.cell_words → new.pads ≡ old.pads
    → (e : ℕ) (id : NetId) → IsFree old.words e → new.words ≡ slice_set old.words e (Some id) → Keeps old new
keeps_word old new g cs ps e id free ws = record {
  grows = g;
  cells = λ c o h. subst (λ es. Stands es c o) (sym cs) h;
  words = λ d o h. subst (λ es. Stands es d o) (sym ws) (set_keeps old.words e id d o free h);
  pads = λ k o h. subst (λ es. Stands es k o) (sym ps) h;
}

-- an entry that was set to what may be a net
pub set_either : (entries : List (Option NetId)) (k : ℕ) (o : Option NetId) (n : ℕ) (other : NetId) → IsFree entries k
    → Stands (slice_set entries k o) n other → ((n ≡ k) × (o ≡ Some other)) ⊎ Stands entries n other
set_either entries k o n other free h =
    elim (cases_eq n k) [
      | inl e ↦ inl (
        e,
        same_Some o (Some other) (sym (get_set_same entries k o
            (slice_get_within entries k None free)) ∙ (ap (slice_get (slice_set entries k o)) (sym e) ∙ h)),
      )
      | inr ne ↦ inr (sym (get_set_other entries k o n ne) ∙ h)
    ]

pub set_either_keeps : (entries : List (Option NetId)) (k : ℕ) (o : Option NetId) (n : ℕ) (other : NetId)
    → IsFree entries k → Stands entries n other → Stands (slice_set entries k o) n other
set_either_keeps entries k o n other free h =
    get_set_other entries k o n
    (λ e. none-some other (same_Some None (Some other) (sym free ∙ (ap (slice_get entries) (sym e) ∙ h)))) ∙ h

module _ (r : Rtl) (bits : List Part) (names : Names) (old new : Making) (t : ℕ)
    (p : IsProgress r bits names (length r.cells) t 0 old) where
  -- a task for at most its cost
  pub task_step : (task : Task) (c x : ℕ) → slice_get names.tasks t ≡ Some task → c ≤ task_cost r task
      → x ≤ task_crossings r task → IsStep c x old new
      → AreCellsMade r names (length r.cells) (suc t) 0 new → AreExprsMade r names (suc t) new
      → IsProgress r bits names (length r.cells) (suc t) 0 new
  task_step task c x is lc lx step cells exprs = record {
    given = p.given;
    begun = begun_kept r bits names old new p.begun step.grows step.made;
    cells = cells;
    exprs = exprs;
    spends =
        let a = sum_next (task_cost r) names.tasks t task is in
        let b = sum_next (task_crossings r) names.tasks t task is in
        spent_within _ _ _ _ new (omega (arith, a, lc)) (omega (arith, b, lx))
        (spent_more _ _ c x old new p.spends step.spends);
    cleared = λ e. absurd (false≢true e);
  }

  -- ---- expressions

  module _ (e : ℕ) (x : RtlExpr) (is : slice_get names.tasks t ≡ Some (tasks.Expr e)) (at : IsAt r.exprs e x) where
    cost_is : task_cost r (tasks.Expr e) ≡ expr_cost x
    cost_is = ap (λ o. option_map_or expr_cost o 0) at

    entries_are : task_crossings r (tasks.Expr e) ≡ entry_count x
    entries_are = ap (λ o. option_map_or entry_count o 0) at

    no_cell : (c : ℕ) → slice_get names.tasks t ≡ Some (tasks.Cell c) → IsDrivenWord r c → ⊥
    no_cell c now w = let q : tasks.Expr e ≡ tasks.Cell c = same_Some _ _ (sym is ∙ now) in cc

    pub expr_step : (c y : ℕ) → c ≤ expr_cost x → y ≤ entry_count x → IsStep c y old new → Keeps old new
        → new.cell_words ≡ old.cell_words → new.pads ≡ old.pads → Appends old.slices.net new.slices.net
        → IsExprMade r names new e x
        → ((d : ℕ) (id : NetId) → Stands new.words d id → Stands old.words d id ⊎ ((d ≡ e) × IsSort r.cells x true))
        → ((l : Lift) → Contains new.lifts l → Contains old.lifts l ⊎ (Stands names.exprs e l.control × IsEntry x))
        → IsProgress r bits names (length r.cells) (suc t) 0 new
    expr_step c y lc ly step k cs ps a made words lifts =
        let ce = cost_is in
        let ee = entries_are in
        task_step (tasks.Expr e) c y is (omega (arith, lc, ce)) (omega (arith, ly, ee)) step
        (cells_on r names (length r.cells) t 0 new no_cell
        (cells_kept r names old new k (length r.cells) t 0 cs ps a p.cells))
        (expr_more r names old new k t e x is at made words lifts p.exprs)

    -- an expression that gets a word
    word_step : (c : ℕ) (id : NetId) → c ≤ expr_cost x → IsStep c 0 old new → IsFree old.words e
        → new.words ≡ slice_set old.words e (Some id) → new.cell_words ≡ old.cell_words → new.pads ≡ old.pads
        → new.lifts ≡ old.lifts → Appends old.slices.net new.slices.net → IsSort r.cells x true
        → (Keeps old new → Stands new.words e id → IsExprMade r names new e x)
        → IsProgress r bits names (length r.cells) (suc t) 0 new
    word_step c id lc step free ws cs ps ls a sort made =
        let k = keeps_word old new step.grows cs ps e id free ws in
        expr_step c 0 lc (omega arith) step k cs ps a
        (made k (subst (λ es. Stands es e id) (sym ws) (set_stands old.words e id free)))
        (λ d o s. elim (set_cases old.words e id d o (subst (λ es. Stands es d o) ws s)) [
          | inl now ↦ inr (now.0, sort)
          | inr before ↦ inl before.1
        ])
        (λ l h. inl (subst (λ xs. Contains xs l) ls h))

    -- one that gets none
    pub plain_step : (c y : ℕ) → c ≤ expr_cost x → y ≤ entry_count x → IsStep c y old new → new.words ≡ old.words
        → new.cell_words ≡ old.cell_words → new.pads ≡ old.pads → Appends old.slices.net new.slices.net
        → (Keeps old new → IsExprMade r names new e x)
        → ((l : Lift) → Contains new.lifts l → Contains old.lifts l ⊎ (Stands names.exprs e l.control × IsEntry x))
        → IsProgress r bits names (length r.cells) (suc t) 0 new
    plain_step c y lc ly step ws cs ps a made lifts =
        let k = keeps_all old new step.grows cs ws ps in
        expr_step c y lc ly step k cs ps a (made k) (λ d o s. inl (subst (λ es. Stands es d o) ws s)) lifts

  pub number_done : (e n : ℕ) → slice_get names.tasks t ≡ Some (tasks.Expr e) → IsAt r.exprs e (Number n)
      → IsStep 1 0 old new → IsNumberMade e n old new → IsProgress r bits names (length r.cells) (suc t) 0 new
  number_done e n is at step made =
      word_step e (Number n) is at 1 made.program.net (omega arith) step
      (free_word r bits names p.given.sound p.given.lowered old t e is p.begun p.exprs) made.words made.cells made.pads
      made.lifts made.appends refl (λ k s. (made.program, made.is_program, made.bits, s))

  -- ---- operators

  module _ (e : ℕ) (op : Op) (index : ℕ) (args : List ℕ) (is : slice_get names.tasks t ≡ Some (tasks.Expr e))
      (at : IsAt r.exprs e (Apply op index args)) where
    own_names : (id : NetId) → Stands old.names.exprs e id → Stands names.exprs e id
    own_names id h = subst (λ (n : Names). Stands n.exprs e id) p.begun.names h

    pub operator_done : gives_word op ≡ true → IsStep (op_cost op (length args)) 0 old new
        → IsOperatorMade e op args old new → IsProgress r bits names (length r.cells) (suc t) 0 new
    operator_done word step made =
        word_step e (Apply op index args) is at (op_cost op (length args)) made.id (omega arith) step
        (free_word r bits names p.given.sound p.given.lowered old t e is p.begun p.exprs) made.words made.cells
        made.pads made.lifts made.appends (sym word) (λ k s. record {
          word = λ w. (made.id, s, placed_on k made.id made.placed);
          test = λ w b ne. absurd (true≢false (sym word ∙ b));
          bit = λ q. absurd (true≢false (sym word ∙ ap gives_word q));
        })
      where
        placed_on : Keeps old new → (id : NetId)
            → Placed new.slices old.words op args id
            → Placed new.slices new.words op args id
        placed_on k id h = record {
          kind = h.kind;
          is_kind = h.is_kind;
          a = h.a;
          b = h.b;
          before = h.before;
          a_in = h.a_in;
          b_in = h.b_in;
          chains_in = h.chains_in;
          grown = h.grown;
          is_result = h.is_result;
          is_a = k.words _ h.a h.is_a;
          is_b = k.words _ h.b h.is_b;
        }

    test_done : takes_words op ≡ true → gives_word op ≡ false → (op ≡ ops.Bit → ⊥)
        → IsStep (op_cost op (length args)) 1 old new → IsTestMade e op args old new
        → IsProgress r bits names (length r.cells) (suc t) 0 new
    test_done takes gives ne step made =
        plain_step e (Apply op index args) is at (op_cost op (length args)) 1 (omega arith)
        (let c = entry_is op takes gives in omega (arith, c)) step made.words made.cells made.pads made.appends
        (λ k. record {
          word = λ w. absurd (true≢false (sym w ∙ gives));
          test = λ w b no. (
            made.lift,
            subst (λ ls. Contains ls made.lift) (sym made.lifts)
                (Contains-push old.lifts made.lift),
            own_names made.lift.control made.is_entry,
            made.is_top ∙ sym step.grows.width,
            subst (λ ws. Placed new.slices ws op args made.lift.from)
                (sym made.words) made.placed,
          );
          bit = λ q. absurd (ne q);
        })
        (λ l c. elim (Contains-push_cases old.lifts made.lift l (subst (λ ls. Contains ls l) made.lifts c)) [
          | inl before ↦ inl before
          | inr now ↦ inr (
            subst (λ (l : Lift). Stands names.exprs e l.control) now
                (own_names made.lift.control made.is_entry),
            (takes, gives),
          )
        ])
      where
        entry_is : (op : Op) → takes_words op ≡ true → gives_word op ≡ false → entry_count (Apply op index args) ≡ 1
        entry_is op t g = ap (λ b. if b then 1 else 0) (ap (λ b. b && not (gives_word op)) t ∙ ap not g)

    bit_done : op ≡ ops.Bit → IsStep 1 1 old new → IsBitMade e index (slice_index_or args 0 0) old new
        → IsProgress r bits names (length r.cells) (suc t) 0 new
    bit_done q step made =
        plain_step e (Apply op index args) is at 1 1
        (let c = ap (λ o. op_cost o (length args)) q in omega (arith, c))
        (let c = ap (λ o. entry_count (Apply o index args)) q in omega (arith, c)) step made.words made.cells made.pads
        (subst (λ (s : SliceNet). Appends old.slices.net s.net)
        (sym made.slices) (appends_not old.slices.net))
        (λ k. record {
          word = λ w. absurd (true≢false (sym w ∙ ap gives_word q));
          test = λ w b no. absurd (no q);
          bit = λ s. (
            made.lift,
            subst (λ ls. Contains ls made.lift) (sym made.lifts)
                (Contains-push old.lifts made.lift),
            own_names made.lift.control made.is_entry,
            made.at_index,
            subst (λ ws. Stands ws (slice_index_or args 0 0) made.lift.from) (sym made.words) made.is_word,
          );
        })
        (λ l c. elim (Contains-push_cases old.lifts made.lift l (subst (λ ls. Contains ls l) made.lifts c)) [
          | inl before ↦ inl before
          | inr now ↦ inr (
            subst (λ (l : Lift). Stands names.exprs e l.control) now
                (own_names made.lift.control made.is_entry),
            subst (λ o. IsEntry (Apply o index args)) (sym q) (
              refl,
              refl,
            ),
          )
        ])

    pub lifted_done : (o : Op) → op ≡ o → takes_words op ≡ true → gives_word op ≡ false
        → IsLifted e o index args old new → IsProgress r bits names (length r.cells) (suc t) 0 new
    lifted_done ops.Bit q takes gives h = bit_done q h.0 h.1
    lifted_done ops.Zero q takes gives h =
        test_done takes gives (λ s. let z : ops.Zero ≡ ops.Bit = sym q ∙ s in cc)
        (subst (λ o. IsStep (op_cost o (length args)) 1 old new) (sym q) h.0)
        (subst (λ o. IsTestMade e o args old new) (sym q) h.1)
    lifted_done ops.Equal q takes gives h =
        test_done takes gives (λ s. let z : ops.Equal ≡ ops.Bit = sym q ∙ s in cc)
        (subst (λ o. IsStep (op_cost o (length args)) 1 old new) (sym q) h.0)
        (subst (λ o. IsTestMade e o args old new) (sym q) h.1)
    lifted_done ops.Less q takes gives h =
        test_done takes gives (λ s. let z : ops.Less ≡ ops.Bit = sym q ∙ s in cc)
        (subst (λ o. IsStep (op_cost o (length args)) 1 old new) (sym q) h.0)
        (subst (λ o. IsTestMade e o args old new) (sym q) h.1)
    lifted_done ops.And q takes gives h = absurd (false≢true (sym (ap takes_words q) ∙ takes))
    lifted_done ops.Or q takes gives h = absurd (false≢true (sym (ap takes_words q) ∙ takes))
    lifted_done ops.Nor q takes gives h = absurd (false≢true (sym (ap takes_words q) ∙ takes))
    lifted_done ops.Nand q takes gives h = absurd (false≢true (sym (ap takes_words q) ∙ takes))
    lifted_done ops.Xor q takes gives h = absurd (false≢true (sym (ap takes_words q) ∙ takes))
    lifted_done ops.Not q takes gives h = absurd (false≢true (sym (ap takes_words q) ∙ takes))
    lifted_done ops.Add q takes gives h = absurd (true≢false (sym (ap gives_word q) ∙ gives))
    lifted_done ops.Sub q takes gives h = absurd (true≢false (sym (ap gives_word q) ∙ gives))
    lifted_done ops.Inc q takes gives h = absurd (true≢false (sym (ap gives_word q) ∙ gives))
    lifted_done ops.Dec q takes gives h = absurd (true≢false (sym (ap gives_word q) ∙ gives))
    lifted_done ops.WordAnd q takes gives h = absurd (true≢false (sym (ap gives_word q) ∙ gives))
    lifted_done ops.WordOr q takes gives h = absurd (true≢false (sym (ap gives_word q) ∙ gives))
    lifted_done ops.WordXor q takes gives h = absurd (true≢false (sym (ap gives_word q) ∙ gives))
    lifted_done ops.WordNot q takes gives h = absurd (true≢false (sym (ap gives_word q) ∙ gives))
    lifted_done ops.Left q takes gives h = absurd (true≢false (sym (ap gives_word q) ∙ gives))
    lifted_done ops.Right q takes gives h = absurd (true≢false (sym (ap gives_word q) ∙ gives))

  -- ---- driven words

  pub driven_done : (c : ℕ) (x : cells.Cell) → slice_get names.tasks t ≡ Some (tasks.Cell c) → IsAt r.cells c x
      → x.word ≡ true
      → IsStep (2 + 4 * length (transfers_to r c)) (length (transfers_to r c)) old new → IsDrivenMade r c old new
      → IsProgress r bits names (length r.cells) (suc t) 0 new
  driven_done c x is at word step made =
      task_step (tasks.Cell c) _ _ is (let e = driven_pays r c x at word driven in omega (arith, e))
      (let e = driven_crosses r c x at word driven in omega (arith, e)) step
      (driven_more r names old new k (length r.cells) t 0 c x made.id is at word driven free made.cells made.pads
      made.appends
      (subst (λ ws. DrivenWord r new.slices new.casts names ws c made.id)
      (sym made.words)
      (subst (λ n. DrivenWord r new.slices new.casts n old.words c made.id)
      p.begun.names made.is_word)) p.cells)
      (exprs_on r names t new (λ e now. let q : tasks.Cell c ≡ tasks.Expr e = same_Some _ _ (sym is ∙ now) in cc)
      (exprs_kept r names old new k t made.words made.lifts p.exprs))
    where
      driven : is_driven x.kind ≡ true
      driven =
          let d = p.given.lowered.placed.schedule.only t (tasks.Cell c) is in
          ap (λ (y : cells.Cell). is_driven y.kind) (one_entry r.cells c x d.0 at d.1) ∙ d.2

      free : IsFree old.cell_words c
      free = free_cell r bits names p.given.sound p.given.lowered old (length r.cells) t 0 c x is at driven p.begun
          p.cells

      k : Keeps old new
      k = record {
        grows = step.grows;
        cells = λ d o h. subst (λ es. Stands es d o) (sym made.cells) (set_keeps old.cell_words c made.id d o free h);
        words = λ d o h. subst (λ es. Stands es d o) (sym made.words) h;
        pads = λ n o h. subst (λ es. Stands es n o) (sym made.pads) h;
      }
