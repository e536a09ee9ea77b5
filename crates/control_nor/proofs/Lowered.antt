-- The nets of all bits, with their names.
use Rattle.std.proofs.Common.{◌≡◌, ℕ, zero, suc, ◌+◌, ◌<◌, ◌≤◌, ◌⊎◌, inl, inr, List, [], ◌∷◌, ◌++◌, Option}
use Rattle.std.proofs.Common.{Some, None, Bool, true, false, length, map, replicate, get_or, refl, sym, ◌∙◌, ap, subst}
use Rattle.std.proofs.Common.{arith, cond, eqb}
use Rattle.std.specs.Prelude.{All, Contains, not, ◌&&◌, ◌||◌, ◌==◌, if◌then◌else◌, slice_get, slice_index, unwrap_or}
use Rattle.std.specs.List.{list_any, sum_by}
use Rattle.std.proofs.lemmas.Bool.{cases_lt, eqb-true, cases_eq}
use Rattle.std.proofs.lemmas.Option.{none-some, same_Some, slice_get_within, slice_get-get_or}
use Rattle.mp_base.specs.declared.pad.Pad.{Pad}
use Rattle.mp_base.specs.Merge.{merged}
use Rattle.nor_net.specs.Shape.{Fed}
use Rattle.nor_net.specs.declared.net.NetId.{NetId}
use Rattle.nor_net.specs.declared.net.Phase.{Phase}
use Rattle.nor_net.specs.declared.net.Phase.TheVariants as phases
use Rattle.nor_net.specs.declared.net.Part.{Part}
use Rattle.nor_net.specs.declared.net.Part.TheVariants.{Input, Gate, Latch}
use Rattle.rtl_form.specs.declared.rtl.Cell as cells
use Rattle.rtl_form.specs.declared.rtl.CellKind.{CellKind}
use Rattle.rtl_form.specs.declared.rtl.CellKind.TheVariants as kinds
use Rattle.rtl_form.specs.declared.rtl.RtlExpr.{RtlExpr}
use Rattle.rtl_form.specs.declared.rtl.RtlExpr.TheVariants as exprs
use Rattle.rtl_form.specs.declared.rtl.Rtl.{Rtl}
use Rattle.mp_base.specs.Entries.{IsAt}
use Rattle.rtl_form.specs.Environment.{is_driven}
use Rattle.rtl_form.specs.Operands.{takes_words, gives_word}
use Rattle.rtl_form.specs.Sound.{CellFits, HasSort, IsSort, IsSound}
use Rattle.control_nor.specs.declared.names.Names.{Names}
use Rattle.task_schedule.specs.declared.task.Task.{Task}
use Rattle.task_schedule.specs.declared.task.Task.TheVariants.{Expr, Cell}
use Rattle.bit_gates.specs.declared.rails.Rails.{Rails}
use Rattle.control_nor.specs.declared.names.Bits.{Bits}
use Rattle.bit_gates.specs.Cells.{first_cost}
use Rattle.control_nor.specs.Done.{AreDone}
use Rattle.control_nor.specs.First.{AreFirstDone}
use Rattle.control_nor.specs.Lowering.{AreInputs, ArePlaced, InputBit, IsEntered, IsEntry, IsLowered, Stands, StoredBit}
use Rattle.control_nor.specs.Lowering.{nets_before}
use Rattle.control_nor.specs.NextValues.{AreNextValues, IsStoring}
use Rattle.control_nor.specs.Progress.{left_by, level}
use Rattle.bit_gates.specs.Rails.{IsNamed, Named, net_of}
use Rattle.task_schedule.specs.Schedule.{IsSchedule, IsTask}
use Rattle.bit_gates.specs.Size.{IsWithinCost, bit_cost, entry_count}
use Rattle.bit_gates.proofs.Adding.{get_at, logic_keep, logic_longer}
use Rattle.control_nor.proofs.Begins.{cell_named, expr_named, first_rails, has_reset, in_tasks, is_stored_from}
use Rattle.control_nor.proofs.Begins.{slaves_behind}
use Rattle.control_nor.proofs.Costs.{bit_cost_most, left_all, rounds}
use Rattle.control_nor.proofs.FirstSteps.{in_more}
use Rattle.control_nor.proofs.Named.{named_stands, stands_named}
use Rattle.control_nor.proofs.Meaning.{value_small}
use Rattle.control_nor.proofs.Obeying.{gate_obeyed, obeys_less}
use Rattle.control_nor.proofs.StoredBits.{obeys_kept}
use Rattle.control_nor.proofs.Written.{written_is}
use Rattle.bit_gates.specs.Cells.{transfers_to}
use Rattle.control_nor.specs.Lowering.{BitsFit, Fetched, Gives, HasBit, KnownCell, KnownExpr, ObeysBehind, Ready}
use Rattle.control_nor.specs.Lowering.{next_bit}
use Rattle.control_nor.specs.Meaning.{AreTransfersKnown, IsExprKnown, is_active}
use Rattle.control_nor.specs.NextValues.{AreKnown, is_guarded, next_of}
use Rattle.control_nor.specs.Progress.{NamedTask}
use Rattle.bit_gates.specs.Rails.{Agree, Known}
use Rattle.mp_base.specs.declared.value.Trit.{Trit}
use Rattle.mp_base.specs.declared.value.Trit.TheVariants.{Zero, One}
use Rattle.nor_net.specs.Elements.{Spot, spot}
use Rattle.nor_net.specs.Laws.{bit}
use Rattle.nor_net.specs.Settled.{nor_value}
use Rattle.rtl_form.specs.declared.rtl.Transfer.{Transfer}
use Rattle.rtl_form.specs.Environment.{driven_value}
use Rattle.rtl_form.specs.Values.{value_of}
use Rattle.rtl_form.specs.Written.{written}
use Rattle.std.proofs.lemmas.List.Elements.{All-filter, Contains-get_or, filter_passes}
use Rattle.mp_base.proofs.Induction.{by_test}
use Rattle.mp_base.proofs.Entries.{get_front, one_entry, within}

length_map : (xs : List (Option Rails)) → length (map net_of xs) ≡ length xs
length_map [] = refl
length_map (x ∷ xs) = ap suc (length_map xs)

left_none : {X : Type 0} (f : X → ℕ) (os : List (Option Rails)) (xs : List X)
    → ((k : ℕ) (x : X) → slice_get os k ≡ Some None → slice_get xs k ≡ Some x → f x ≡ 0) → left_by f os xs ≡ 0
left_none f [] xs h = refl
left_none f (o ∷ os) [] h = refl
left_none f (None ∷ os) (x ∷ xs) h =
    let a = h 0 x refl refl in let b = left_none f os xs (λ k. h (suc k)) in omega (arith, a, b)
left_none f (Some q ∷ os) (x ∷ xs) h = left_none f os xs (λ k. h (suc k))

abbrev one_if : Bool → ℕ
one_if b = if b then 1 else 0

level_rise : (start : ℕ) (ends : List ℕ) (n : ℕ) → ((s : ℕ) → s < n → level start ends s ≤ level start ends (suc s))
    → (s t : ℕ)
    → s ≤ t → t ≤ n → level start ends s ≤ level start ends t
level_rise start ends n rise s zero l m =
    let e : s ≡ 0 = omega arith in let q = ap (level start ends) e in omega (arith, q)
level_rise start ends n rise s (suc t) l m = elim (cases_lt s (suc t)) [
  | inl k ↦ let a = level_rise start ends n rise s t (omega (arith, k)) (omega (arith, m)) in
      let b = rise t (omega (arith, m)) in omega (arith, a, b)
  | inr k ↦ let e : s ≡ suc t = omega (arith, l, k) in let q = ap (level start ends) e in omega (arith, q)
]

module _ (r : Rtl) (sound : IsSound r) (old mid mid2 after : List Part) (named : List (Option Rails))
    (pads : List (Option NetId))
    (first : AreFirstDone r (length r.cells) old mid named pads) (tasks : List Task) (schedule : IsSchedule r tasks)
    (bits : Bits) (ends : List ℕ)
    (done : AreDone r tasks (length tasks) mid mid2 (record {
      cells = named;
      exprs = replicate (length r.exprs) None;
    }) bits ends)
    (next : AreNextValues r bits mid2 after) where
  abbrev names : Names
  names = record {
    cells = map net_of bits.cells;
    exprs = map net_of bits.exprs;
    inputs = pads;
    tasks = tasks;
    start = length mid;
    ends = ends;
  }

  started : length old ≤ length mid
  started = let e = ap length first.added.1 in let a = Rattle.std.proofs.Common.length-append old first.added.0 in
      omega (arith, e, a)

  longer : length mid ≤ length mid2
  longer = logic_longer mid mid2 done.progress.adds

  keeps : (n : ℕ) (p : Part) → slice_get mid n ≡ Some p → Fed p → slice_get after n ≡ Some p
  keeps n p e fed = next.keeps n p (logic_keep mid mid2 n p done.progress.adds e) fed

  -- what stands below the tasks' nets before the next values stood there first
  in_first : (n : ℕ) (p : Part) → n < length mid → slice_get mid2 n ≡ Some p → slice_get mid n ≡ Some p
  in_first n p l e =
      sym (get_front mid done.progress.adds.0 n l) ∙ (ap (λ ps. slice_get ps n) (sym done.progress.adds.1) ∙ e)

  -- no latch is among the tasks' nets
  no_latch : (n : ℕ) (phase : Phase) (source : Option NetId) → slice_get mid2 n ≡ Some (Latch phase source)
      → n < length mid
  no_latch n phase source e = elim (cases_lt n (length mid)) [
    | inl l ↦ l
    | inr l ↦
        let m = in_more mid done.progress.adds.0 n (Latch phase source) l
        (ap (λ ps. slice_get ps n) (sym done.progress.adds.1) ∙ e) in
        let w = slice_get_within done.progress.adds.0 m.0 (Latch phase source) m.2 in
        let a = done.progress.adds.2 m.0 (Latch phase source) w in
        absurd (subst Rattle.bit_gates.specs.Adding.IsLogic
        (Rattle.std.proofs.lemmas.Option.get_or_from_slice_get done.progress.adds.0 m.0 (Latch phase source)
        (Latch phase source) m.2) a)
  ]

  task_of : (task : Task) → IsTask r task → (t : ℕ) × (t < length tasks) × (slice_get tasks t ≡ Some task)
  task_of = in_tasks r sound old mid named pads first tasks schedule mid2 bits ends done

  cell_has : (c : ℕ) (x : cells.Cell) → IsAt r.cells c x → x.word ≡ false → IsNamed bits.cells c
  cell_has = cell_named r sound old mid named pads first tasks schedule mid2 bits ends done

  first_has : (c : ℕ) (x : cells.Cell) (rails : Rails) → IsAt r.cells c x → is_driven x.kind ≡ false
      → Named bits.cells c rails
      → Named named c rails
  first_has = first_rails r sound old mid named pads first tasks schedule mid2 bits ends done

  expr_has : (e : ℕ) → HasSort r e false → IsNamed bits.exprs e
  expr_has = expr_named r sound old mid named pads first tasks schedule mid2 bits ends done

  -- ---- what was added, and how much

  added : (more : List Part) × (after ≡ old ++ more) × All Fed more
  added = (on.0, on.1, λ k d l. fed_at k (get_or on.0 k d) (slice_get-get_or on.0 k d l))
    where
      on : (more : List Part) × (after ≡ old ++ more)
      on = next.behind old (slaves_behind r sound old mid named pads first tasks schedule mid2 bits ends done) (
        first.added.0 ++ done.progress.adds.0,
        done.progress.adds.1 ∙ (ap (λ ps. ps ++ done.progress.adds.0) first.added.1
            ∙ Rattle.std.proofs.Common.append_assoc old first.added.0 done.progress.adds.0),
      )

      unfed : (n : ℕ) (phase : Phase) → length old ≤ n → slice_get after n ≡ Some (Latch phase None) → ⊥
      unfed n phase l e =
          let u = next.unfed n phase e in
          let m = no_latch n phase None u.0 in
          let f = first.nets.unfed n phase l (in_first n (Latch phase None) m u.0) in
          let word = first.names.bits_only f.0 f.1 f.2 f.3 f.5 in
          u.1 f.0 f.1 f.2 f.3 (is_stored_from f.1 word f.4) (done.progress.keeps (Cell f.0) f.2 f.5) f.6

      fed_at : (k : ℕ) (p : Part) → slice_get on.0 k ≡ Some p → Fed p
      fed_at k Input e = tt
      fed_at k (Gate inputs) e = tt
      fed_at k (Latch phase (Some source)) e = refl
      fed_at k (Latch phase None) e = absurd (unfed (length old + k) phase (omega arith)
          (ap (λ ps. slice_get ps (length old + k)) on.1 ∙ get_at old on.0 (length old + k) k
          (Latch phase None) refl e))

  entries_done : left_by entry_count bits.exprs r.exprs ≡ 0
  entries_done = left_none entry_count bits.exprs r.exprs (λ e x absent at. zero_of e x absent at (by_entry x))
    where
      by_entry : (x : RtlExpr) → (entry_count x ≡ 0) ⊎ IsSort r.cells x false
      by_entry (exprs.Number n) = inl refl
      by_entry (exprs.Truth b) = inl refl
      by_entry (exprs.Cell c) = inl refl
      by_entry (exprs.Apply op index args) = by_test (gives_word op)
          (λ w. inl (ap (λ b. one_if (takes_words op && not b)) w ∙ off (takes_words op)))
          (λ w. inr (sym w))
        where
          off : (b : Bool) → one_if (b && not true) ≡ 0
          off true = refl
          off false = refl

      zero_of : (e : ℕ) (x : RtlExpr) → slice_get bits.exprs e ≡ Some None → slice_get r.exprs e ≡ Some x
          → (entry_count x ≡ 0) ⊎ IsSort r.cells x false → entry_count x ≡ 0
      zero_of e x absent at (inl z) = z
      zero_of e x absent at (inr s) =
          let n = expr_has e (x, at, s) in
          absurd (none-some n.0 (same_Some None (Some n.0) (sym absent ∙ n.1)))

  size : IsWithinCost (bit_cost r) (sum_by entry_count r.exprs) old after
  size =
      let a = first.within in let b = done.progress.spent in let w = b.within in let c = next.within.1 in
      let n = next.within.2 in
      let k = rounds r (record { cells = named; exprs = replicate (length r.exprs) None }) refl in
      let x = b.cost_is in
      let e = b.entries_is in
      let all = left_all entry_count r.exprs in
      let z = entries_done in
      let t : sum_by first_cost (Rattle.std.proofs.Common.take (length r.cells) r.cells) ≡ sum_by first_cost r.cells =
      ap (sum_by first_cost) (take_all r.cells) in
      record {
        nets = let p = a.nets in let q = w.nets in let s = c.nets in omega (arith, p, q, s, n, k, x, t);
        inputs = let p = a.inputs in let q = w.inputs in let s = c.inputs in omega (arith, p, q, s, n, k, x, t);
        active = let p = a.active in let q = w.active in let s =
            c.active in omega (arith, p, q, s, n, k, x, t, e, all, z);
      }
    where
      take_all : (xs : List cells.Cell) → Rattle.std.proofs.Common.take (length xs) xs ≡ xs
      take_all [] = refl
      take_all (x ∷ xs) = ap (λ ys. x ∷ ys) (take_all xs)

  -- ---- places

  rise : (s t : ℕ) → s ≤ t → t ≤ length tasks → level (length mid) ends s ≤ level (length mid) ends t
  rise = level_rise (length mid) ends (length tasks) done.laid.rise

  above_start : (t : ℕ) → t ≤ length tasks → length mid ≤ level (length mid) ends t
  above_start t l = rise 0 t (omega arith) l

  same_level : (t : ℕ) → nets_before names t ≡ level (length mid) ends t
  same_level zero = refl
  same_level (suc t) = refl

  pad_in : (k : ℕ) (pad : NetId) → Stands pads k pad → (length old ≤ pad.0) × (pad.0 < length mid)
  pad_in k pad h = let p = first.nets.pads_in k pad h in (p.0, slice_get_within mid pad.0 Input p.1)

  first_below : (c : ℕ) (x : cells.Cell) (rails : Rails) → IsAt r.cells c x → is_driven x.kind ≡ false
      → Named bits.cells c rails
      → rails.bit.0 < length mid
  first_below c x rails at d h = (first.names.below c rails (first_has c x rails at d h)).bit_below

  placed : ArePlaced r old after names
  placed = record {
    schedule = schedule;
    end_count = done.laid.count;
    begin = started;
    rise = λ t l. let a = done.laid.rise t l in let b = same_level t in let c =
        same_level (suc t) in omega (arith, a, b, c);
    within = let a = done.laid.top in let b = same_level (length tasks) in let c =
        next.longer in omega (arith, a, b, c);
    pads = pad_in;
    first_cells = λ c x id at d h. let q = stands_named bits.cells c id h in
        subst (λ (i : NetId). i.0 < length mid) q.2 (first_below c x q.0 at d q.1);
    driven_cells = λ t c id at h. let q = stands_named bits.cells c id h in
        let l = slice_get_within tasks t (Cell c) at in
        let a = (done.laid.driven t c q.0 l at q.1).0 in
        let b = done.laid.below t (Cell c) q.0 l at q.1 in
        let i = ap (λ (i : NetId). i.0) q.2 in let m = same_level t in let n = same_level (suc t) in
        (omega (arith, a, i, m), omega (arith, b, i, n));
    exprs = λ t e id at h. let q = stands_named bits.exprs e id h in
        let b = done.laid.below t (Expr e) q.0 (slice_get_within tasks t (Expr e) at) at q.1 in
        let i = ap (λ (i : NetId). i.0) q.2 in let n = same_level (suc t) in omega (arith, b, i, n);
    entries = λ t e x id at is_at y h. let q = stands_named bits.exprs e id h in
        let b = (done.laid.entries t e x q.0 (slice_get_within tasks t (Expr e) at) at is_at y q.1).0 in
        let i = ap (λ (i : NetId). i.0) q.2 in let n = same_level t in omega (arith, b, i, n);
  }

  -- the ranges of two tasks don't meet
  one_task : (s t n : ℕ) → s < length tasks → t < length tasks → level (length mid) ends s ≤ n
      → n < level (length mid) ends (suc s)
      → level (length mid) ends t ≤ n → n < level (length mid) ends (suc t) → s ≡ t
  one_task s t n l m a b c d = elim (cases_eq s t) [
    | inl e ↦ e
    | inr ne ↦ elim (cases_lt s t) [
      | inl k ↦ let h = rise (suc s) t (omega (arith, k)) (omega (arith, m)) in absurd (omega (arith, h, b, c))
      | inr k ↦ let h = rise (suc t) s (omega (arith, k, ne)) (omega (arith, l)) in absurd (omega (arith, h, d, a))
    ]
  ]

  -- ---- inputs

  entry_range : (e : ℕ) (x : RtlExpr) (rails : Rails) → IsAt r.exprs e x → IsEntry x → Named bits.exprs e rails
      → (t : ℕ) × (t < length tasks) × (slice_get tasks t ≡ Some (Expr e)) × (level (length mid) ends t ≤ rails.bit.0)
      × (rails.bit.0 < level (length mid) ends (suc t)) × (slice_get mid2 rails.bit.0 ≡ Some Input)
  entry_range e x rails at y h =
      let t = task_of (Expr e) (within r.exprs e at) in
      let a = done.laid.entries t.0 e x rails t.1 t.2 at y h in
      (t.0, t.1, t.2, a.0, done.laid.below t.0 (Expr e) rails t.1 t.2 h, a.1)

  inputs : AreInputs r old after names
  inputs = record {
    pads = λ k pad h. keeps pad.0 Input (first.nets.pads_in k pad h).1 tt;
    entries = λ e x id at y h. let q = stands_named bits.exprs e id h in
        subst (λ (i : NetId). slice_get after i.0 ≡ Some Input) q.2
        (next.keeps q.0.bit.0 Input (entry_range e x q.0 at y q.1).5 tt);
    only = λ id l e. by_place id l (next.inputs id.0 e) (cases_lt id.0 (length mid));
    pads_apart = first.nets.pads_apart;
    entries_apart = λ d e x y id at on h k on_y g.
        let p = stands_named bits.exprs d id h in let q = stands_named bits.exprs e id g in
        let a = entry_range d x p.0 at on p.1 in let b = entry_range e y q.0 k on_y q.1 in
        let same : p.0.bit.0 ≡ q.0.bit.0 = ap (λ (i : NetId). i.0) (p.2 ∙ sym q.2) in
        let a3 = a.3 in let a4 = a.4 in let b3 = b.3 in let b4 = b.4 in
        let t = one_task a.0 b.0 p.0.bit.0 a.1 b.1 a3 a4 (omega (arith, b3, same)) (omega (arith, b4, same)) in
        cc (same_Some (Expr d) (Expr e) (sym a.2 ∙ (ap (slice_get tasks) t ∙ b.2)));
    latches = λ n p source l e i. elim (next.latches n p source e) [
      | inl q ↦ first.nets.latches n p source l (in_first n (Latch p (Some source)) (no_latch n p (Some source) q) q)
      | inr q ↦ absurd (cc (sym i ∙ q.1))
    ];
  }
    where
      by_place : (id : NetId) → length old ≤ id.0 → slice_get mid2 id.0 ≡ Some Input
          → (id.0 < length mid) ⊎ (length mid ≤ id.0)
          → IsEntered r names id
      by_place id l e (inl m) = let p = first.nets.inputs id.0 l (in_first id.0 Input m e) in inl (p.0, p.1)
      by_place id l e (inr m) =
          let q = done.laid.inputs id.0 m e in
          let same : q.2.bit ≡ id = ap (λ n. let i : NetId = record { 0 = n } in i) q.6 in
          inr (
            q.0,
            q.1,
            q.3,
            q.4,
            subst (Stands (map net_of bits.exprs) q.0) same
                (named_stands bits.exprs q.0 q.2 q.5),
          )

  -- ---- names

  driven_range : (c : ℕ) (x : cells.Cell) (rails : Rails) → IsAt r.cells c x → is_driven x.kind ≡ true
      → Named bits.cells c rails
      → (t : ℕ) × (t < length tasks) × (slice_get tasks t ≡ Some (Cell c)) × (level (length mid) ends t ≤ rails.bit.0)
      × (rails.bit.0 < level (length mid) ends (suc t))
  driven_range c x rails at d h =
      let t = task_of (Cell c) (x, at, d) in
      (t.0, t.1, t.2, (done.laid.driven t.0 c rails t.1 t.2 h).0, done.laid.below t.0 (Cell c) rails t.1 t.2 h)

  cell_of : (c : ℕ) (rails : Rails) → Named bits.cells c rails
      → (x : cells.Cell) × IsAt r.cells c x × (x.word ≡ false)
  cell_of c rails h = done.progress.bits_only (Cell c) rails h

  rails_apart : (c d : ℕ) (p q : Rails) → Named bits.cells c p → Named bits.cells d q → p.bit.0 ≡ q.bit.0 → c ≡ d
  rails_apart c d p q h k e = by_kinds (cell_of c p h) (cell_of d q k)
    where
      by_kinds : (x : cells.Cell) × IsAt r.cells c x × (x.word ≡ false)
          → (y : cells.Cell) × IsAt r.cells d y × (y.word ≡ false) → c ≡ d
      by_kinds a b = by_test (is_driven a.0.kind)
          (λ on. by_test (is_driven b.0.kind)
          (λ on2. let s = driven_range c a.0 p a.1 on h in let t = driven_range d b.0 q b.1 on2 k in
          let s3 = s.3 in let s4 = s.4 in let t3 = t.3 in let t4 = t.4 in
          let same = one_task s.0 t.0 p.bit.0 s.1 t.1 s3 s4 (omega (arith, t3, e)) (omega (arith, t4, e)) in
          cc (same_Some (Cell c) (Cell d) (sym s.2 ∙ (ap (slice_get tasks) same ∙ t.2))))
          (λ off. let s = driven_range c a.0 p a.1 on h in let l = first_below d b.0 q b.1 off k in
          let m = above_start s.0 (let w = s.1 in omega (arith, w)) in let n = s.3 in
          absurd (omega (arith, l, m, n, e))))
          (λ off. by_test (is_driven b.0.kind)
          (λ on2. let s = driven_range d b.0 q b.1 on2 k in let l = first_below c a.0 p a.1 off h in
          let m = above_start s.0 (let w = s.1 in omega (arith, w)) in let n = s.3 in
          absurd (omega (arith, l, m, n, e)))
          (λ off2. first.names.apart c d p q (first_has c a.0 p a.1 off h) (first_has d b.0 q b.1 off2 k) e))

  stored_bit : (c : ℕ) (x : cells.Cell) (rails : Rails) → IsAt r.cells c x → x.kind ≡ kinds.Stored
      → Named bits.cells c rails
      → StoredBit after rails.bit
  stored_bit c x rails at kind h =
      let b = cell_of c rails h in
      let word = ap (λ (x : cells.Cell). x.word) (one_entry r.cells c x b.0 at b.1) ∙ b.2 in
      let f = first_has c x rails at (ap is_driven kind) h in
      let w = first.nets.slaves c x rails at kind f in
      let k = has_reset r sound c x at kind in
      let reset = Rattle.control_nor.proofs.Begins.reset_named r sound old mid named pads first tasks schedule mid2
      bits ends done k.0 k.1 in
      let s = next.stored c k.0 x rails reset.0 at (is_stored_from x word kind) h k.1 reset.1 in
      record {
        master = s.master;
        negation = s.negation;
        slave = rails.negation;
        source = s.source;
        is_master = s.is_master;
        is_negation = s.is_negation;
        is_slave = s.is_slave;
        is_bit = keeps rails.bit.0 (Gate (rails.negation ∷ [])) w.is_bit tt;
      }

  pad_width : (k : ℕ) (pad : Pad) → IsAt (r.pads).inputs k pad → (c : ℕ) (x : cells.Cell) → IsAt r.cells c x
      → x.kind ≡ kinds.Input k
      → x.word ≡ not (pad.width == 0)
  pad_width k pad at c x is kind =
      let fits : CellFits r x (kinds.Input k) = subst (CellFits r x) kind (sound.cells c x is) in
      fits.2 ∙ ap (λ (p : Pad). not (p.width == 0)) (one_entry (r.pads).inputs k fits.0 pad fits.1 at)

  -- ---- values

  any_behind : (c : ℕ) (rails : Rails) → Named bits.cells c rails → length old ≤ rails.bit.0
  any_behind c rails h =
      let b = cell_of c rails h in
      by_test (is_driven b.0.kind)
      (λ d. let s = driven_range c b.0 rails b.1 d h in let m = above_start s.0 (let w = s.1 in omega (arith, w)) in
      let n = s.3 in let k = started in omega (arith, m, n, k))
      (λ d. first.names.behind c rails (first_has c b.0 rails b.1 d h))

  -- only a stored bit stands so
  kind_of : (c : ℕ) (rails : Rails) → Named bits.cells c rails → StoredBit after rails.bit
      → (x : cells.Cell) × IsAt r.cells c x × (x.word ≡ false) × (x.kind ≡ kinds.Stored)
  kind_of c rails h b = let x = cell_of c rails h in by_kind x.0 x.1 x.2 x.0.kind refl
    where
      by_driven : (x : cells.Cell) → IsAt r.cells c x → is_driven x.kind ≡ true → ⊥
      by_driven x at d =
          let s = driven_range c x rails at d h in
          let (behind, is_bit, (inputs, is_negation)) = done.laid.driven s.0 c rails s.1 s.2 h in
          let bit_is = next.keeps rails.bit.0 (Gate (rails.negation ∷ [])) is_bit tt in
          let off_is = next.keeps rails.negation.0 (Gate inputs) is_negation tt in
          let same : b.slave ≡ rails.negation = cc (b.is_bit, bit_is) in
          absurd (cc (b.is_slave, ap (λ (i : NetId). slice_get after i.0) same, off_is))

      by_kind : (x : cells.Cell) → IsAt r.cells c x → x.word ≡ false → (kind : CellKind) → x.kind ≡ kind
          → (x : cells.Cell) × IsAt r.cells c x × (x.word ≡ false) × (x.kind ≡ kinds.Stored)
      by_kind x at word kinds.Stored e = (x, at, word, e)
      by_kind x at word (kinds.Output k) e = absurd (by_driven x at (ap is_driven e))
      by_kind x at word kinds.Inner e = absurd (by_driven x at (ap is_driven e))
      by_kind x at word (kinds.Input k) e =
          let p = first.nets.pads_named c k x (within r.cells c at) at e word in
          let l = (first.nets.ports c k x rails p.0 at e (first_has c x rails at (ap is_driven e) h) p.1).is_latch in
          let m = keeps rails.bit.0 (Latch phases.C (Some p.0)) l refl in absurd (cc (b.is_bit, m))

  module _ (v : Spot → Trit) (env : List ℕ) (fit : BitsFit r env) (obeys : ObeysBehind after (length old) v) where
    obeys_mid : ObeysBehind mid (length old) v
    obeys_mid = obeys_kept mid after (length old) (length old) v keeps (omega arith) obeys

    obeys_mid2 : ObeysBehind mid2 (length mid) v
    obeys_mid2 = obeys_kept mid2 after (length old) (length mid) v next.keeps started obeys

    first_agree : (task : Task) (rails : Rails)
        → NamedTask (record { cells = named; exprs = replicate (length r.exprs) None }) task rails → Agree v rails
    first_agree (Expr e) rails h = absurd (Rattle.control_nor.proofs.Begins.none_named (length r.exprs) e rails h)
    first_agree (Cell c) rails h = first.agree v obeys_mid c rails h

    agree : (task : Task) (rails : Rails) → NamedTask bits task rails → Agree v rails
    agree = done.meant.agree v obeys_mid2 first_agree

    expr_known : (e : ℕ) → KnownExpr r names v env e → Known v bits.exprs e (value_of r env e)
    expr_known e known rails h =
        (agree (Expr e) rails h).from_bit (value_of r env e == 1)
        (known rails.bit (named_stands bits.exprs e rails h))

    cell_known : (c : ℕ) → KnownCell names v env c → Known v bits.cells c (slice_index env c)
    cell_known c known rails h =
        (agree (Cell c) rails h).from_bit (slice_index env c == 1)
        (known rails.bit (named_stands bits.cells c rails h))

    ready_known : (x : RtlExpr) → Ready r names v env x → IsExprKnown r v env bits x
    ready_known (exprs.Number n) h = h
    ready_known (exprs.Truth b) h = h
    ready_known (exprs.Cell c) h = cell_known c h
    ready_known (exprs.Apply op index args) h = (h.0, λ k d l. expr_known (get_or args k d) (h.1 k d l))

    transfers_known : (c : ℕ) → Fetched r names v env c → AreTransfersKnown r v env bits c
    transfers_known c h t inside to = let k = h t inside to in (expr_known t.guard k.0, expr_known t.value k.1)

    small : (c : ℕ) (x : cells.Cell) → IsAt r.cells c x → x.word ≡ false → (t : Transfer) → Contains r.transfers t
        → t.target ≡ c
        → value_of r env t.value < 2
    small c x at word t inside to =
        let (guard, (cell, at_cell, value, no_input)) = sound.transfers t inside in
        let here = one_entry r.cells c cell x (subst (λ n. IsAt r.cells n cell) to at_cell) at in
        value_small r sound env fit t.value (subst (HasSort r t.value)
        (ap (λ (x : cells.Cell). x.word) here ∙ word) value)

    gives_expr : (e : ℕ) (x : RtlExpr) → IsAt r.exprs e x → Ready r names v env x → KnownExpr r names v env e
    gives_expr e x at ready id on =
        let q = stands_named bits.exprs e id on in
        let t = task_of (Expr e) (within r.exprs e at) in
        let h = done.meant.exprs t.0 e x q.0 v env t.1 t.2 at q.1 obeys_mid2 fit (ready_known x ready) in
        subst (λ (i : NetId). HasBit v i (value_of r env e)) q.2 h.has_bit

    or_off : (a b : Bool) → (a || (b && false)) ≡ a
    or_off true b = refl
    or_off false true = refl
    or_off false false = refl

    gives_driven : (c : ℕ) (x : cells.Cell) → IsAt r.cells c x → x.word ≡ false → is_driven x.kind ≡ true
        → Fetched r names v env c → slice_index env c ≡ driven_value r env c → KnownCell names v env c
    gives_driven c x at word d fetched is id on =
        let q = stands_named bits.cells c id on in
        let t = driven_range c x q.0 at d q.1 in
        let h = done.meant.driven t.0 c q.0 v env t.1 t.2 q.1 obeys_mid2 (transfers_known c fetched) in
        let w = written_is (value_of r env) c r.transfers 0 (small c x at word) (omega arith) in
        let same : list_any (is_active (value_of r env)) (transfers_to r.transfers c) ≡ (slice_index env c == 1) =
        sym (ap (λ n. n == 1) is ∙ (w ∙ or_off (list_any (is_active (value_of r env)) (transfers_to r.transfers c))
        (not (list_any (is_guarded (value_of r env)) (transfers_to r.transfers c))))) in
        subst (λ (i : NetId). HasBit v i (slice_index env c)) q.2 (h.has_bit ∙ ap bit same)

    off_off : (b : Bool) → nor_value (bit (cond b false true) ∷ []) ≡ bit b
    off_off true = refl
    off_off false = refl

    gives_state : (c : ℕ) (id : NetId) (b : StoredBit after id) → Stands names.cells c id
        → v (spot 0 b.slave) ≡ bit (cond (slice_index env c == 1) false true) → KnownCell names v env c
    gives_state c id b on is other there =
        let q = stands_named bits.cells c id on in
        let ge : length old ≤ id.0 = (let a = any_behind c q.0 q.1 in let i = ap (λ (i : NetId). i.0) q.2 in
        omega (arith, a, i)) in
        let here : v (spot 0 id) ≡ bit (slice_index env c == 1) =
        gate_obeyed after (length old) v id (b.slave ∷ []) obeys ge b.is_bit
        ∙ (ap (λ t. nor_value (t ∷ [])) is ∙ off_off (slice_index env c == 1)) in
        let same : id ≡ other = same_Some id other (same_Some (Some id) (Some other) (sym on ∙ there)) in
        subst (λ (i : NetId). HasBit v i (slice_index env c)) same here

    and_off : (a : Bool) → (a && not true) ≡ false
    and_off true = refl
    and_off false = refl

    and_on : (a : Bool) → (a && not false) ≡ a
    and_on true = refl
    and_on false = refl

    next_is : (c reset : ℕ) (x : cells.Cell) → IsAt r.cells c x → x.word ≡ false
        → next_of (value_of r env) (transfers_to r.transfers c) (slice_index env c == 1) (slice_index env reset == 1)
        ≡ (next_bit r env reset c == 1)
    next_is c reset x at word = by_reset (slice_index env reset == 1)
      where
        old_or_new : Bool
        old_or_new = list_any (is_active (value_of r env)) (transfers_to r.transfers c)
            || (not (list_any (is_guarded (value_of r env)) (transfers_to r.transfers c)) && (slice_index env c == 1))

        by_reset : (b : Bool)
            → ((list_any (is_active (value_of r env)) (transfers_to r.transfers c)
            || (not (list_any (is_guarded (value_of r env)) (transfers_to r.transfers c))
            && (slice_index env c == 1))) && not b)
            ≡ ((if b then 0 else unwrap_or (merged (written (value_of r env) c r.transfers)) (slice_index env c)) ==
            1)
        by_reset true = and_off (list_any (is_active (value_of r env)) (transfers_to r.transfers c)
            || (not (list_any (is_guarded (value_of r env)) (transfers_to r.transfers c))
            && (slice_index env c == 1)))
        by_reset false = and_on (list_any (is_active (value_of r env)) (transfers_to r.transfers c)
            || (not (list_any (is_guarded (value_of r env)) (transfers_to r.transfers c))
            && (slice_index env c == 1)))
            ∙ sym (written_is (value_of r env) c r.transfers (slice_index env c) (small c x at word)
            (fit c x at word))

    -- the bit's latches are those that were added for it
    its_storing : (c reset : ℕ) (rails at : Rails) → Named bits.cells c rails → (b : StoredBit after rails.bit)
        → r.reset ≡ Some reset
        → Named bits.cells reset at
        → (s : IsStoring bits.exprs (transfers_to r.transfers c) (length mid2) after rails at.bit)
        × (s.source ≡ b.source)
    its_storing c reset rails at h b e k =
        let x = kind_of c rails h b in
        let s = next.stored c reset x.0 rails at x.1 (is_stored_from x.0 x.2 x.3) h e k in
        let w = first.nets.slaves c x.0 rails x.1 x.3 (first_has c x.0 rails x.1 (ap is_driven x.3) h) in
        let bit_is = keeps rails.bit.0 (Gate (rails.negation ∷ [])) w.is_bit tt in
        let slave : b.slave ≡ rails.negation = cc (b.is_bit, bit_is) in
        let negation : b.negation ≡ s.negation = cc (
          b.is_slave,
          ap (λ (i : NetId). slice_get after i.0) slave,
          s.is_slave,
        ) in
        let master : b.master ≡ s.master = cc (
          b.is_negation,
          ap (λ (i : NetId). slice_get after i.0) negation,
          s.is_negation,
        ) in
        let source : s.source ≡ b.source = cc (
          b.is_master,
          ap (λ (i : NetId). slice_get after i.0) master,
          s.is_master,
        ) in
        (s, source)

    obeys_last : ObeysBehind after (length mid2) v
    obeys_last = obeys_less after after (length old) (length mid2) v (λ n p e. e)
        (let a = started in let b = longer in omega (arith, a, b)) obeys

    each_known : (c : ℕ) → Fetched r names v env c → AreKnown v bits.exprs (value_of r env)
        (transfers_to r.transfers c)
    each_known c fetched k d l =
        All-filter (λ (t : Transfer). eqb t.target c) (λ (t : Transfer). t.target ≡ c
        → Known v bits.exprs t.guard (value_of r env t.guard)
        × Known v bits.exprs t.value (value_of r env t.value)) r.transfers
        (λ k d l. transfers_known c fetched (get_or r.transfers k d) (Contains-get_or r.transfers k d l)) k d l
        (eqb-true (get_or (transfers_to r.transfers c) k d).target c
        (filter_passes (λ (t : Transfer). eqb t.target c) r.transfers k d l))

    gives_next : (c reset : ℕ) (id : NetId) (b : StoredBit after id) → Stands names.cells c id → r.reset ≡ Some reset
        → KnownCell names v env c → KnownCell names v env reset → Fetched r names v env c
        → HasBit v b.source (next_bit r env reset c)
    gives_next c reset id b on e known known_reset fetched =
        let q = stands_named bits.cells c id on in by_rails q.0 q.1 id q.2 b
      where
        by_rails : (rails : Rails) → Named bits.cells c rails → (id : NetId) → rails.bit ≡ id
            → (b : StoredBit after id)
            → HasBit v b.source (next_bit r env reset c)
        by_rails rails h id same =
            subst (λ (i : NetId). (b : StoredBit after i) → HasBit v b.source (next_bit r env reset c)) same (λ b.
            let k = Rattle.control_nor.proofs.Begins.reset_named r sound old mid named pads first tasks schedule mid2
            bits ends done reset e in
            let x = kind_of c rails h b in
            let s = its_storing c reset rails k.0 h b e k.1 in
            let m = s.0.means v (value_of r env) (slice_index env c == 1) (slice_index env reset == 1) obeys_last
            (each_known c fetched)
            (cell_known c known rails h) (known_reset k.0.bit (named_stands bits.cells reset k.0 k.1)) in
            subst (λ (i : NetId). HasBit v i (next_bit r env reset c)) s.1 (m ∙ ap bit (next_is c reset x.0 x.1 x.2)))

    gives_clear : (c reset : ℕ) (id at : NetId) (b : StoredBit after id) → Stands names.cells c id
        → r.reset ≡ Some reset
        → Stands names.cells reset at → v (spot 0 at) ≡ One → v (spot 0 b.source) ≡ Zero
    gives_clear c reset id at b on e on_reset high =
        let q = stands_named bits.cells c id on in let k = stands_named bits.cells reset at on_reset in
        by_rails q.0 q.1 id q.2 k.0 k.1 (ap (λ (i : NetId). v (spot 0 i)) k.2 ∙ high) b
      where
        by_rails : (rails : Rails) → Named bits.cells c rails → (id : NetId) → rails.bit ≡ id → (k : Rails)
            → Named bits.cells reset k
            → v (spot 0 k.bit) ≡ One → (b : StoredBit after id) → v (spot 0 b.source) ≡ Zero
        by_rails rails h id same k there one =
            subst (λ (i : NetId). (b : StoredBit after i) → v (spot 0 b.source) ≡ Zero) same (λ b.
            let s = its_storing c reset rails k h b e there in
            ap (λ (i : NetId). v (spot 0 i)) (sym s.1) ∙ s.0.clears v obeys_last one)

    gives : Gives r after names v env
    gives = record {
      exprs = λ e x at sort ready. gives_expr e x at ready;
      driven = gives_driven;
      state = gives_state;
      next = gives_next;
      clear = gives_clear;
    }

  not_zero : (n : ℕ) → not (n == 0) ≡ false → n ≡ 0
  not_zero zero e = refl
  not_zero (suc n) e = absurd (cc (e, Rattle.std.proofs.lemmas.Bool.ne_eqb (suc n) 0 (λ q. absurd (omega arith))))

  pub lowered : IsLowered r old after names
  lowered = record {
    added = added;
    size = size;
    few = let a = size.nets in let b = bit_cost_most r in omega (arith, a, b);
    few_inputs = let a = size.inputs in let b = bit_cost_most r in omega (arith, a, b);
    cell_count = length_map bits.cells ∙ done.progress.cell_count;
    expr_count = length_map bits.exprs ∙ done.progress.expr_count;
    pad_count = first.nets.pad_count;
    cell_names = λ c x at. (
      λ word. let n = cell_has c x at word in (n.0.bit, named_stands bits.cells c n.0 n.1),
      λ h. let q = stands_named bits.cells c h.0 h.1 in let b = cell_of c q.0 q.1 in
          ap (λ (x : cells.Cell). x.word) (one_entry r.cells c x b.0 at b.1) ∙ b.2,
    );
    expr_names = λ e x at. (
      λ sort. let n = expr_has e (x, at, sort) in (n.0.bit, named_stands bits.exprs e n.0 n.1),
      λ h. let q = stands_named bits.exprs e h.0 h.1 in let b = done.progress.bits_only (Expr e) q.0 q.1 in
          subst (λ x. IsSort r.cells x false) (one_entry r.exprs e b.0 x b.1 at) b.2,
    );
    pad_names = λ k pad at. (
      λ flat. let only = sound.input_cells k (within (r.pads).inputs k at) in let x = only.1 in
          let word = pad_width k pad at only.0 x.0 x.1 x.2 ∙ ap (λ n. not (n == 0)) flat in
          first.nets.pads_named only.0 k x.0 (within r.cells only.0 x.1) x.1 x.2 word,
      λ h. let p = first.nets.pads_only k h.0 h.1 in
          not_zero pad.width (sym (pad_width k pad at p.0 p.1 p.3 p.4) ∙ p.5),
    );
    cells_apart = λ c d id h k. let p = stands_named bits.cells c id h in let q = stands_named bits.cells d id k in
        rails_apart c d p.0 q.0 p.1 q.1 (ap (λ (i : NetId). i.0) (p.2 ∙ sym q.2));
    driven = λ c x id at d h. let q = stands_named bits.cells c id h in
        let t = driven_range c x q.0 at d q.1 in
        let g = done.laid.driven t.0 c q.0 t.1 t.2 q.1 in (
          q.0.negation ∷ [],
          subst (λ (i : NetId). slice_get after i.0 ≡ Some (Gate (q.0.negation ∷ []))) q.2
              (next.keeps q.0.bit.0 (Gate (q.0.negation ∷ [])) g.1 tt),
        );
    stored = λ c x id at kind h. let q = stands_named bits.cells c id h in
        subst (StoredBit after) q.2 (stored_bit c x q.0 at kind q.1);
    ports = λ c k x id pad at kind h on. let q = stands_named bits.cells c id h in
        let p = first.nets.ports c k x q.0 pad at kind (first_has c x q.0 at (ap is_driven kind) q.1) on in
        subst (λ (i : NetId). InputBit after i pad) q.2 (record {
          is_latch = keeps q.0.bit.0 (Latch phases.C (Some pad)) p.is_latch refl;
          is_pad = keeps pad.0 Input p.is_pad tt;
        });
    placed = placed;
    inputs = inputs;
    gives = λ v env size fit obeys. gives v env fit obeys;
  }
