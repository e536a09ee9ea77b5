-- Where the nets of tasks are, and what they mean, task by task.
use Rattle.std.proofs.Common.{◌≡◌, ℕ, zero, suc, ◌+◌, ◌<◌, ◌≤◌, ◌⊎◌, inl, inr, List, [], ◌∷◌, ◌++◌, Option, Some, None}
use Rattle.std.proofs.Common.{Bool, true, false, length, refl, sym, ◌∙◌, ap, subst, arith, eqb, get_or, length-append}
use Rattle.std.specs.Prelude.{All, MatchBool, ◌==◌, slice_get, slice_index}
use Rattle.std.specs.List.{list_any}
use Rattle.std.proofs.lemmas.Bool.{eqb-true, cases_eq}
use Rattle.std.proofs.lemmas.List.{get_or_append_left, get_or_push}
use Rattle.std.proofs.lemmas.List.Elements.{All-filter, Contains-get_or, filter_passes}
use Rattle.std.proofs.lemmas.Option.{none-some, same_Some, slice_get_within}
use Rattle.mp_base.specs.declared.value.Trit.{Trit}
use Rattle.mp_base.proofs.Entries.{get_front, one_entry}
use Rattle.nor_net.specs.declared.net.NetId.{NetId}
use Rattle.nor_net.specs.declared.net.Part.{Part}
use Rattle.nor_net.specs.declared.net.Part.TheVariants.{Input, Gate}
use Rattle.nor_net.specs.Elements.{Spot}
use Rattle.rtl_form.specs.declared.rtl.Transfer.{Transfer}
use Rattle.rtl_form.specs.declared.rtl.RtlExpr.{RtlExpr}
use Rattle.rtl_form.specs.declared.rtl.RtlExpr.TheVariants as exprs
use Rattle.rtl_form.specs.declared.rtl.Rtl.{Rtl}
use Rattle.mp_base.specs.Entries.{IsAt}
use Rattle.rtl_form.specs.Sound.{IsSound}
use Rattle.rtl_form.specs.Values.{value_of}
use Rattle.task_schedule.specs.declared.task.Task.{Task}
use Rattle.task_schedule.specs.declared.task.Task.TheVariants.{Expr, Cell}
use Rattle.bit_gates.specs.declared.rails.Rails.{Rails}
use Rattle.control_nor.specs.declared.names.Bits.{Bits}
use Rattle.bit_gates.specs.Cells.{IsDrivenMade, transfers_to}
use Rattle.bit_gates.specs.Exprs.{IsExprMade}
use Rattle.control_nor.specs.Lowering.{BitsFit, IsEntry, ObeysBehind}
use Rattle.control_nor.specs.Meaning.{AreTransfersKnown, IsExprKnown, IsMeant, is_active}
use Rattle.control_nor.specs.Progress.{IsBegun, IsLaid, IsProgress, NamedTask, level}
use Rattle.bit_gates.specs.Rails.{Agree, HasRails, Known, Named}
use Rattle.task_schedule.specs.Schedule.{IsSchedule}
use Rattle.control_nor.specs.Tasks.{IsTaskDone, IsTaskMade, entry_of, with_entry}
use Rattle.bit_gates.proofs.Adding.{get_at, gates_longer, logic_keep, logic_longer}
use Rattle.control_nor.proofs.Meaning.{driven_agree, driven_meant, expr_agree, expr_meant}
use Rattle.control_nor.proofs.Obeying.{obeys_less}
use Rattle.control_nor.proofs.Progress.{IsEntryTask, IsStep, entry_other, entry_same, named_after, names_stay}
use Rattle.control_nor.proofs.Running.{others, step, was}

-- ---- levels

level_kept : (start : ℕ) (ends : List ℕ) (x s : ℕ) → s ≤ length ends
    → level start (ends ++ x ∷ []) s ≡ level start ends s
level_kept start ends x zero l = refl
level_kept start ends x (suc s) l = get_or_append_left ends (x ∷ []) 0 s (omega arith)

level_last : (start : ℕ) (ends : List ℕ) (x t : ℕ) → length ends ≡ t → level start (ends ++ x ∷ []) (suc t) ≡ x
level_last start ends x t e = ap (slice_index (ends ++ x ∷ [])) (sym e) ∙ get_or_push ends x 0 (length ends) refl

-- a driven bit is a gate on a gate
driven_at : (entries : List (Option Rails)) (ts : List Transfer) (old new : List Part) (rails : Rails)
    → IsDrivenMade entries ts old new rails
    → (length old ≤ rails.bit.0) × (slice_get new rails.bit.0 ≡ Some (Gate (rails.negation ∷ [])))
    × ((inputs : List NetId) × (slice_get new rails.negation.0 ≡ Some (Gate inputs)))
driven_at entries ts old new rails h =
    let l = gates_longer old h.middle h.are_terms.adds in
    let n = h.pair.at_negation in
    let m = h.pair.at_bit in (
      omega (arith, l, n),
      ap (λ ps. slice_get ps rails.bit.0) h.pair.parts
          ∙ get_at h.middle (Gate h.terms ∷ Gate (rails.negation ∷ []) ∷ []) rails.bit.0 1
          (Gate (rails.negation ∷ [])) (omega (arith, n)) refl,
      (
        h.terms,
        ap (λ ps. slice_get ps rails.negation.0) h.pair.parts
            ∙ get_at h.middle (Gate h.terms ∷ Gate (rails.negation ∷ []) ∷ []) rails.negation.0 0 (Gate h.terms)
            (omega (arith, m)) refl,
      ),
    )

pub nothing_laid : (r : Rtl) (tasks : List Task) (old : List Part) (before : Bits)
    → IsLaid r tasks 0 old old before []
nothing_laid r tasks old before = record {
  count = refl;
  top = refl;
  rise = λ s l. absurd (omega arith);
  below = λ s task rails l h q. absurd (omega arith);
  driven = λ s c rails l h q. absurd (omega arith);
  entries = λ s e x rails l h at y q. absurd (omega arith);
  inputs = λ n l e. absurd (let w = slice_get_within old n Input e in omega (arith, w, l));
}

pub nothing_meant : (r : Rtl) (tasks : List Task) (old : List Part) (before : Bits)
    → IsMeant r tasks 0 (length old) old before before
nothing_meant r tasks old before = record {
  agree = λ v obeys all task rails h. all task rails h;
  exprs = λ s e x rails v env l h at q obeys fit known. absurd (omega arith);
  driven = λ s c rails v env l h q obeys known. absurd (omega arith);
}

module _ (r : Rtl) (sound : IsSound r) (tasks : List Task) (schedule : IsSchedule r tasks) (old : List Part)
    (before : Bits)
    (begun : IsBegun r old before) (t : ℕ) (new : List Part) (after : Bits)
    (progress : IsProgress r tasks t old new before after) (task : Task) (is : slice_get tasks t ≡ Some task)
    (newer : List Part) (later : Bits) (made : IsTaskDone r task new newer after later) where
  abbrev next : Bits
  next = with_entry after task made.entry

  here : entry_of after task ≡ Some None
  here = was r sound tasks schedule old before begun t new after progress task is newer later made

  now : IsStep r task new newer after made.entry
  now = step r sound tasks schedule old before begun t new after progress task is newer later made

  other_task : (s : ℕ) (y : Task) → slice_get tasks s ≡ Some y → s < t → y ≡ task → ⊥
  other_task s y at l = others r sound tasks schedule old before begun t new after progress task is newer later made
      s y at
      (λ e. absurd (omega arith))

  -- the same place has the same task
  this_task : (s : ℕ) (y : Task) → slice_get tasks s ≡ Some y → s ≡ t → task ≡ y
  this_task s y at e = same_Some task y (sym is ∙ (ap (slice_get tasks) (sym e) ∙ at))

  named_here : (y : Task) (rails : Rails) → task ≡ y → NamedTask next y rails → made.entry ≡ Some rails
  named_here y rails e h =
      same_Some made.entry (Some rails)
      (sym (entry_same after made.entry task None here) ∙ (ap (entry_of next) e ∙ h))

  named_there : (s : ℕ) (y : Task) (rails : Rails) → slice_get tasks s ≡ Some y → s < t → NamedTask next y rails
      → NamedTask after y rails
  named_there s y rails at l h = sym (entry_other after made.entry task y (other_task s y at l)) ∙ h

  keeps_parts : (n : ℕ) (p : Part) → slice_get new n ≡ Some p → slice_get newer n ≡ Some p
  keeps_parts n p e = logic_keep new newer n p now.adds e

  longer : length new ≤ length newer
  longer = logic_longer new newer now.adds

  at_or_below : (s : ℕ) → s < t + 1 → (s ≡ t) ⊎ (s < t)
  at_or_below s l = elim (cases_eq s t) [ inl e ↦ inl e | inr ne ↦ inr (omega arith) ]

  module _ (ends : List ℕ) (laid : IsLaid r tasks t old new after ends) where
    abbrev more : List ℕ
    more = ends ++ length newer ∷ []

    same_level : (s : ℕ) → s ≤ t → level (length old) more s ≡ level (length old) ends s
    same_level s l = level_kept (length old) ends (length newer) s (let c = laid.count in omega (arith, c))

    last_level : level (length old) more (suc t) ≡ length newer
    last_level = level_last (length old) ends (length newer) t laid.count

    top_level : level (length old) more t ≡ length new
    top_level = same_level t (omega arith) ∙ laid.top

    driven_here : (k : Task) → task ≡ k → (c : ℕ) → k ≡ Cell c → (rails : Rails)
        → IsTaskMade r after k new newer made.entry
        → made.entry ≡ Some rails
        → (length new ≤ rails.bit.0) × (slice_get newer rails.bit.0 ≡ Some (Gate (rails.negation ∷ [])))
        × ((inputs : List NetId) × (slice_get newer rails.negation.0 ≡ Some (Gate inputs)))
    driven_here (Expr e) same c kind rails h some = absurd (cc kind)
    driven_here (Cell d) same c kind rails h some = by_word h.0.word h.2
      where
        by_word : (b : Bool) → MatchBool b ((made.entry ≡ None) × (newer ≡ new))
            ((rails : Rails) × (made.entry ≡ Some rails) × IsDrivenMade after.exprs
            (transfers_to r.transfers d) new newer rails)
            → (length new ≤ rails.bit.0) × (slice_get newer rails.bit.0 ≡ Some (Gate (rails.negation ∷ [])))
            × ((inputs : List NetId) × (slice_get newer rails.negation.0 ≡ Some (Gate inputs)))
        by_word true q = absurd (none-some rails (sym q.0 ∙ some))
        by_word false q =
            let same = same_Some q.0 rails (sym q.1 ∙ some) in
            driven_at after.exprs (transfers_to r.transfers d) new newer rails
            (subst (IsDrivenMade after.exprs (transfers_to r.transfers d) new newer) same q.2)

    entered : (k : Task) (rails : Rails) (n : ℕ) → IsEntryTask r k → NamedTask next k rails → rails.bit.0 ≡ n
        → (e : ℕ) × (x : RtlExpr) × (rails : Rails) × IsAt r.exprs e x × IsEntry x × Named next.exprs e rails
        × (rails.bit.0 ≡ n)
    entered (Expr e) rails n y h at = (e, y.0, rails, y.1, y.2, h, at)
    entered (Cell c) rails n y h at = absurd y

    pub laid_more : IsLaid r tasks (t + 1) old newer later more
    laid_more = subst (λ bits. IsLaid r tasks (t + 1) old newer bits more) (sym made.is_after) (record {
      count = let a = length-append ends (length newer ∷ []) in let c = laid.count in omega (arith, a, c);
      top = ap (level (length old) more) (let e : t + 1 ≡ suc t = omega arith in e) ∙ last_level;
      rise = λ s l. elim (at_or_below s l) [
        | inl e ↦ let a : level (length old) more s ≡ length new = ap (level (length old) more) e ∙ top_level in
            let b : level (length old) more (suc s) ≡ length newer = ap (λ n. level (length old) more (suc n)) e
            ∙ last_level in
            omega (arith, a, b, longer)
        | inr m ↦ let a = same_level s (omega arith) in let b = same_level (suc s) (omega arith) in let c =
            laid.rise s m in
            omega (arith, a, b, c)
      ];
      below = λ s y rails l at h. elim (at_or_below s l) [
        | inl e ↦ let b : level (length old) more (suc s) ≡ length newer =
            ap (λ n. level (length old) more (suc n)) e ∙ last_level in
            let k = (now.below rails (named_here y rails (this_task s y at e) h)).bit_below in omega (arith, b, k)
        | inr m ↦ let b = same_level (suc s) (omega arith) in
            let k = laid.below s y rails m at (named_there s y rails at m h) in omega (arith, b, k)
      ];
      driven = λ s c rails l at h. elim (at_or_below s l) [
        | inl e ↦ let same = this_task s (Cell c) at e in
            let g = driven_here task refl c same rails made.is_made (named_here (Cell c) rails same h) in
            let a : level (length old) more s ≡ length new = ap (level (length old) more) e ∙ top_level in
            let b = g.0 in (omega (arith, a, b), g.1, g.2)
        | inr m ↦ let (behind, is_bit, (inputs, is_negation)) =
            laid.driven s c rails m at (named_there s (Cell c) rails at m h) in
            let a = same_level s (omega arith) in (
              omega (arith, a, behind),
              keeps_parts rails.bit.0 (Gate (rails.negation ∷ [])) is_bit,
              (inputs, keeps_parts rails.negation.0 (Gate inputs) is_negation),
            )
      ];
      entries = λ s e x rails l at is_at y h. elim (at_or_below s l) [
        | inl q ↦ let same = this_task s (Expr e) at q in
            let g = now.entry (subst (IsEntryTask r) (sym same) (x, is_at, y)) rails
            (named_here (Expr e) rails same h) in
            let a : level (length old) more s ≡ length new = ap (level (length old) more) q ∙ top_level in
            let b = g.0 in (omega (arith, a, b), g.1)
        | inr m ↦ let g = laid.entries s e x rails m at is_at y (named_there s (Expr e) rails at m h) in
            let a = same_level s (omega arith) in let b = g.0 in
            (omega (arith, a, b), keeps_parts rails.bit.0 Input g.1)
      ];
      inputs = λ n l e. by_place n l e (Rattle.std.proofs.lemmas.Bool.cases_lt n (length new));
    })
      where
        by_place : (n : ℕ) → length old ≤ n → slice_get newer n ≡ Some Input → (n < length new) ⊎ (length new ≤ n)
            → (e : ℕ) × (x : RtlExpr) × (rails : Rails) × IsAt r.exprs e x × IsEntry x × Named next.exprs e rails
            × (rails.bit.0 ≡ n)
        by_place n l e (inl m) =
            let g = laid.inputs n l (sym (get_front new now.adds.0 n m)
            ∙ (ap (λ ps. slice_get ps n) (sym now.adds.1) ∙ e)) in
            (g.0, g.1, g.2, g.3, g.4, names_stay after made.entry task (Expr g.0) g.2 here g.5, g.6)
        by_place n l e (inr m) =
            let (is_entry, (rails, some, stands)) = now.inputs n m e in
            entered task rails n is_entry (entry_same after made.entry task None here ∙ ap Some some) stands

  -- ---- what they mean

  cells_fewer : (v : Spot → Trit) (c x : ℕ) → Known v next.cells c x → Known v after.cells c x
  cells_fewer v c x known rails h = known rails (names_stay after made.entry task (Cell c) rails here h)

  exprs_fewer : (v : Spot → Trit) (e x : ℕ) → Known v next.exprs e x → Known v after.exprs e x
  exprs_fewer v e x known rails h = known rails (names_stay after made.entry task (Expr e) rails here h)

  known_fewer : (v : Spot → Trit) (env : List ℕ) (x : RtlExpr) → IsExprKnown r v env next x
      → IsExprKnown r v env after x
  known_fewer v env (exprs.Number n) known = known
  known_fewer v env (exprs.Truth b) known = known
  known_fewer v env (exprs.Cell c) known = cells_fewer v c (slice_index env c) known
  known_fewer v env (exprs.Apply op index args) known =
      (known.0, λ k d l. exprs_fewer v (get_or args k d) (value_of r env (get_or args k d)) (known.1 k d l))

  transfers_fewer : (v : Spot → Trit) (env : List ℕ) (c : ℕ) → AreTransfersKnown r v env next c
      → AreTransfersKnown r v env after c
  transfers_fewer v env c known u inside to =
      let k = known u inside to in
      (exprs_fewer v u.guard (value_of r env u.guard) k.0, exprs_fewer v u.value (value_of r env u.value) k.1)

  module _ (v : Spot → Trit) (obeys : ObeysBehind newer (length old) v) where
    earlier : ObeysBehind new (length old) v
    earlier = obeys_less new newer (length old) (length old) v keeps_parts (omega arith) obeys

    own : ObeysBehind newer (length new) v
    own = obeys_less newer newer (length old) (length new) v (λ n p e. e) (logic_longer old new progress.adds) obeys

    task_agree : ((y : Task) (rails : Rails) → NamedTask after y rails → Agree v rails) → (k : Task) → task ≡ k
        → IsTaskMade r after k new newer made.entry → (rails : Rails) → made.entry ≡ Some rails → Agree v rails
    task_agree all (Expr e) same h rails some =
        expr_agree r sound after new newer rails v own h.0
        (subst (IsExprMade after.cells after.exprs h.0 new newer) some h.2)
        (λ c q n. all (Cell c) q n) (λ d q n. all (Expr d) q n)
    task_agree all (Cell c) same h rails some = by_word h.0.word h.2
      where
        by_word : (b : Bool) → MatchBool b ((made.entry ≡ None) × (newer ≡ new))
            ((rails : Rails) × (made.entry ≡ Some rails) × IsDrivenMade after.exprs
            (transfers_to r.transfers c) new newer rails)
            → Agree v rails
        by_word true q = absurd (none-some rails (sym q.0 ∙ some))
        by_word false q = driven_agree after.exprs (transfers_to r.transfers c) new newer rails
            (subst (IsDrivenMade after.exprs (transfers_to r.transfers c) new newer)
            (same_Some q.0 rails (sym q.1 ∙ some)) q.2) v own

    task_expr : (e : ℕ) (x : RtlExpr) (rails : Rails) (env : List ℕ)
        → IsTaskMade r after (Expr e) new newer made.entry
        → made.entry ≡ Some rails → IsAt r.exprs e x → BitsFit r env → IsExprKnown r v env after x
        → HasRails v rails (value_of r env e == 1)
    task_expr e x rails env h some at fit known =
        expr_meant r sound after new newer rails v own e x env at fit
        (subst (λ y. IsExprMade after.cells after.exprs y new newer (Some rails)) (one_entry r.exprs e h.0 x h.1 at)
        (subst (IsExprMade after.cells after.exprs h.0 new newer) some h.2)) known

    task_driven : (c : ℕ) (rails : Rails) (env : List ℕ) → IsTaskMade r after (Cell c) new newer made.entry
        → made.entry ≡ Some rails → AreTransfersKnown r v env after c
        → HasRails v rails (list_any (is_active (value_of r env)) (transfers_to r.transfers c))
    task_driven c rails env h some known = by_word h.0.word h.2
      where
        each : All (λ (u : Transfer). Known v after.exprs u.guard (value_of r env u.guard)
            × Known v after.exprs u.value (value_of r env u.value))
            (transfers_to r.transfers c)
        each k d l =
            let all : All (λ (u : Transfer). u.target ≡ c → Known v after.exprs u.guard (value_of r env u.guard)
            × Known v after.exprs u.value (value_of r env u.value)) r.transfers =
            λ k d l. known (get_or r.transfers k d) (Contains-get_or r.transfers k d l) in
            All-filter (λ (u : Transfer). eqb u.target c) (λ (u : Transfer). u.target ≡ c
            → Known v after.exprs u.guard (value_of r env u.guard)
            × Known v after.exprs u.value (value_of r env u.value)) r.transfers all k d l
            (eqb-true (get_or (transfers_to r.transfers c) k d).target c
            (filter_passes (λ (u : Transfer). eqb u.target c) r.transfers k d l))

        by_word : (b : Bool) → MatchBool b ((made.entry ≡ None) × (newer ≡ new))
            ((rails : Rails) × (made.entry ≡ Some rails) × IsDrivenMade after.exprs
            (transfers_to r.transfers c) new newer rails)
            → HasRails v rails (list_any (is_active (value_of r env)) (transfers_to r.transfers c))
        by_word true q = absurd (none-some rails (sym q.0 ∙ some))
        by_word false q = driven_meant after.exprs (transfers_to r.transfers c) new newer rails
            (subst (IsDrivenMade after.exprs (transfers_to r.transfers c) new newer)
            (same_Some q.0 rails (sym q.1 ∙ some)) q.2) v own r
            (value_of r env) each

  pub meant_more : IsMeant r tasks t (length old) new before after
      → IsMeant r tasks (t + 1) (length old) newer before later
  meant_more meant = subst (IsMeant r tasks (t + 1) (length old) newer before) (sym made.is_after) (record {
    agree = λ v obeys all y rails h. elim (named_after after made.entry task y rails here h) [
      | inl q ↦ task_agree v obeys (meant.agree v (earlier v obeys) all) task refl made.is_made rails q.1
      | inr q ↦ meant.agree v (earlier v obeys) all y rails q
    ];
    exprs = λ s e x rails v env l at is_at h obeys fit known. elim (at_or_below s l) [
      | inl q ↦ let same = this_task s (Expr e) at q in
          task_expr v obeys e x rails env (subst (λ k. IsTaskMade r after k new newer made.entry) same made.is_made)
          (named_here (Expr e) rails same h) is_at fit (known_fewer v env x known)
      | inr m ↦ meant.exprs s e x rails v env m at is_at (named_there s (Expr e) rails at m h) (earlier v obeys) fit
          (known_fewer v env x known)
    ];
    driven = λ s c rails v env l at h obeys known. elim (at_or_below s l) [
      | inl q ↦ let same = this_task s (Cell c) at q in
          task_driven v obeys c rails env (subst (λ k. IsTaskMade r after k new newer made.entry) same made.is_made)
          (named_here (Cell c) rails same h) (transfers_fewer v env c known)
      | inr m ↦ meant.driven s c rails v env m at (named_there s (Cell c) rails at m h) (earlier v obeys)
          (transfers_fewer v env c known)
    ];
  })
