-- The cost of transfers pays for all that is made.
use Rattle.std.proofs.Common.{◌≡◌, ℕ, zero, suc, ◌+◌, ◌-◌, ◌*◌, ◌<◌, ◌≤◌, inl, inr, List, [], ◌∷◌, Option, Some, None}
use Rattle.std.proofs.Common.{Bool, true, false, cond, eqb, ltb, length, take, refl, sym, ◌∙◌, ap, subst, arith}
use Rattle.std.specs.Prelude.{IsSome, IfSome, if◌then◌else◌, ◌&&◌, ◌||◌, ◌==◌, not, nat_lt, slice_get}
use Rattle.std.specs.List.{filter, list_any, sum_by}
use Rattle.std.specs.Option.{option_map_or}
use Rattle.std.proofs.lemmas.Bool.{eq-eqb, false≢true, lt-ltb, ne_eqb, ltb-true, cases_eq}
use Rattle.std.proofs.lemmas.Option.{none-some, same_Some, get_or_from_slice_get, slice_get_within}
use Rattle.std.proofs.lemmas.List.{take_all}
use Rattle.std.proofs.lemmas.List.Sums.{sum_by-cons, sum_by-le-sum_by, sum_by-take-le, sum_by_more}
use Rattle.std.proofs.lemmas.Map.Keys.{any_passes_from_place}
use Rattle.mp_base.specs.declared.pad.Pad.{Pad}
use Rattle.mp_base.proofs.Entries.{any_found, one_entry, within}
use Rattle.nor_net.specs.declared.net.Part.{Part}
use Rattle.nor_net.specs.declared.net.Part.TheVariants as parts
use Rattle.rtl_form.specs.declared.rtl.Cell as cells
use Rattle.rtl_form.specs.declared.rtl.CellKind.{CellKind}
use Rattle.rtl_form.specs.declared.rtl.CellKind.TheVariants as kinds
use Rattle.rtl_form.specs.declared.rtl.RtlExpr.{RtlExpr}
use Rattle.rtl_form.specs.declared.rtl.RtlExpr.TheVariants as exprs
use Rattle.rtl_form.specs.declared.rtl.Transfer.{Transfer}
use Rattle.rtl_form.specs.declared.rtl.Rtl.{Rtl}
use Rattle.rtl_form.specs.Cost.{cell_cost, cost, expr_cost, transfer_cost}
use Rattle.rtl_form.specs.Environment.{is_driven, is_stored}
use Rattle.rtl_form.specs.Operands.{gives_word}
use Rattle.rtl_form.specs.Sound.{CellFits, IsReset, IsSound}
use Rattle.task_schedule.specs.declared.task.Task.{Task}
use Rattle.task_schedule.specs.declared.task.Task.TheVariants as tasks
use Rattle.task_schedule.specs.Schedule.{IsSchedule}
use Rattle.bit_gates.specs.Size.{active_count, bit_cell_cost, bit_cost, bit_expr_cost, bit_transfer_cost, entry_count}
use Rattle.path_form.specs.Sizes.{active}
use Rattle.datapath_alloc.specs.Spending.{clear_cost, crossed, driven_cost, driven_crossings, first_cost, for_task}
use Rattle.datapath_alloc.specs.Spending.{for_word, is_stored_word, next_cost, next_crossings, spent}
use Rattle.bit_gates.specs.Cells.{latch_cost}
use Rattle.datapath_alloc.specs.Spending.{task_cost, total, writes}
use Rattle.datapath_alloc.proofs.Totals.{entry_sum, sum_distinct, total_add, total_behind, total_le, total_list}

-- 1 for true
abbrev one_if : Bool → ℕ
one_if b = cond b 1 0

-- ---- sums

total_zero : (f : ℕ → ℕ) (n : ℕ) → ((i : ℕ) → f i ≡ 0) → total f n ≡ 0
total_zero f zero h = refl
total_zero f (suc n) h = let r = total_zero f n h in let e = h n in omega arith

total_four : (f : ℕ → ℕ) (n : ℕ) → total (λ i. 4 * f i) n ≡ 4 * total f n
total_four f zero = omega arith
total_four f (suc n) = let r = total_four f n in omega arith

pub total_grows : (f : ℕ → ℕ) (m n : ℕ) → m ≤ n → total f m ≤ total f n
total_grows f m zero l = let e : m ≡ 0 = omega arith in let z = ap (total f) e in omega arith
total_grows f m (suc n) l =
    elim (cases_eq m (suc n)) [
      | inl e ↦ let z = ap (total f) e in omega arith
      | inr ne ↦ let r = total_grows f m n (omega arith) in omega arith
    ]

-- all but one of these are 0
total_point : (a : ℕ) (g : ℕ → ℕ) (n : ℕ) → total (λ c. cond (eqb a c) (g c) 0) n ≤ g a
total_point a g zero = omega arith
total_point a g (suc n) =
    elim (cases_eq a n) [
      | inl e ↦ let z = before n (omega arith) in
          let h = here n e in
          omega arith
      | inr ne ↦ let r = total_point a g n in
          let h : cond (eqb a n) (g n) 0 ≡ 0 = ap (λ b. cond b (g n) 0) (ne_eqb a n ne) in
          omega arith
    ]
  where
    here : (m : ℕ) → a ≡ m → cond (eqb a m) (g m) 0 ≡ g a
    here m e = ap (λ b. cond b (g m) 0) (eq-eqb a m e) ∙ ap g (sym e)

    before : (m : ℕ) → m ≤ a → total (λ c. cond (eqb a c) (g c) 0) m ≡ 0
    before zero l = refl
    before (suc m) l =
        let r = before m (omega arith) in
        let h : cond (eqb a m) (g m) 0 ≡ 0 = ap (λ b. cond b (g m) 0) (ne_eqb a m (λ q. absurd (omega arith))) in
        omega arith

sum_same : {X : Type 0} (f g : X → ℕ) (xs : List X) → ((k : ℕ) (x : X) → slice_get xs k ≡ Some x → f x ≡ g x)
    → sum_by f xs ≡ sum_by g xs
sum_same f g [] h = refl
sum_same f g (x ∷ xs) h =
    let r = sum_same f g xs (λ k y e. h (suc k) y e) in
    let here = h 0 x refl in
    let a = sum_by-cons f x xs in
    let b = sum_by-cons g x xs in
    omega arith

sum_add : {X : Type 0} (f g : X → ℕ) (xs : List X) → sum_by (λ x. f x + g x) xs ≡ sum_by f xs + sum_by g xs
sum_add f g [] = refl
sum_add f g (x ∷ xs) =
    let r = sum_add f g xs in
    let a = sum_by-cons f x xs in
    let b = sum_by-cons g x xs in
    let c = sum_by-cons (λ x. f x + g x) x xs in
    omega arith

sum_four : {X : Type 0} (f : X → ℕ) (xs : List X) → sum_by (λ x. 4 * f x) xs ≡ 4 * sum_by f xs
sum_four f [] = refl
sum_four f (x ∷ xs) =
    let r = sum_four f xs in
    let a = sum_by-cons f x xs in
    let c = sum_by-cons (λ x. 4 * f x) x xs in
    omega arith

-- a sum that is less by d at one element
sum_slack : {X : Type 0} (f g : X → ℕ) (d : ℕ) (xs : List X) (k : ℕ) (x : X) → slice_get xs k ≡ Some x
    → ((y : X) → f y ≤ g y) → f x + d ≤ g x → sum_by f xs + d ≤ sum_by g xs
sum_slack f g d [] k x e le here = absurd (none-some x e)
sum_slack f g d (y ∷ ys) zero x e le here =
    let r = sum_by-le-sum_by f g ys le in
    let a = sum_by-cons f y ys in
    let b = sum_by-cons g y ys in
    let p = ap f (same_Some y x e) in
    let q = ap g (same_Some y x e) in
    omega arith
sum_slack f g d (y ∷ ys) (suc k) x e le here =
    let r = sum_slack f g d ys k x e le here in
    let a = sum_by-cons f y ys in
    let b = sum_by-cons g y ys in
    let l = le y in
    omega arith

pub sum_next : {X : Type 0} (f : X → ℕ) (xs : List X) (t : ℕ) (x : X) → slice_get xs t ≡ Some x
    → sum_by f (take (suc t) xs) ≡ sum_by f (take t xs) + f x
sum_next f xs t x e =
    let s = sum_by_more f xs t x (slice_get_within xs t x e) in
    let g = ap f (get_or_from_slice_get xs t x x e) in
    let n : suc t ≡ t + 1 = omega arith in
    let h = ap (λ m. sum_by f (take m xs)) n in
    omega arith

-- what a test finds among the first elements it finds among all
any_take : {X : Type 0} (p : X → Bool) (xs : List X) (j : ℕ) → list_any p (take j xs) ≡ true → list_any p xs ≡ true
any_take p [] zero e = e
any_take p [] (suc j) e = e
any_take p (x ∷ xs) zero e = absurd (false≢true e)
any_take {X} p (x ∷ xs) (suc j) e = by_head (p x) (any_take p xs j) e
  where
    by_head : (b : Bool) → (list_any p (take j xs) ≡ true → list_any p xs ≡ true)
        → (b || list_any p (take j xs)) ≡ true
        → (b || list_any p xs) ≡ true
    by_head true again h = refl
    by_head false again h = again h

-- ---- transfers, by their targets

module _ (r : Rtl) where
  -- a cell is a word
  abbrev word_at : ℕ → Bool
  word_at c = option_map_or (λ (x : cells.Cell). x.word) (slice_get r.cells c) false

  abbrev word_target : Transfer → ℕ
  word_target t = one_if (word_at t.target)

  -- how many of some transfers write to a word
  abbrev word_writes : List Transfer → ℕ → ℕ
  word_writes ts c = if word_at c then length (filter (λ (t : Transfer). t.target == c) ts) else 0

  one_write : (t : Transfer) (ts : List Transfer) (c : ℕ)
      → word_writes (t ∷ ts) c ≡ word_writes ts c + cond (eqb t.target c) (one_if (word_at c)) 0
  one_write t ts c = by_tests (word_at c) (eqb t.target c)
    where
      by_tests : (w b : Bool)
          → (if w then length (cond b (t ∷ filter (λ (t : Transfer). t.target == c) ts)
          (filter (λ (t : Transfer). t.target == c) ts)) else 0)
          ≡ (if w then length (filter (λ (t : Transfer). t.target == c) ts) else 0) + cond b (one_if w) 0
      by_tests true true = omega arith
      by_tests true false = omega arith
      by_tests false true = omega arith
      by_tests false false = omega arith

  writes_within : (ts : List Transfer) (n : ℕ) → total (word_writes ts) n ≤ sum_by word_target ts
  writes_within [] n = let z = total_zero (word_writes []) n (λ c. none (word_at c) 0) in omega (arith, z)
    where
      none : (w : Bool) (n : ℕ) → (if w then n else n) ≡ n
      none true n = refl
      none false n = refl
  writes_within (t ∷ ts) n =
      let r = writes_within ts n in
      let a = total_le (word_writes (t ∷ ts))
      (λ c. word_writes ts c + cond (eqb t.target c) (one_if (word_at c)) 0) n
      (λ c l. let e = one_write t ts c in omega (arith, e)) in
      let b = total_add (word_writes ts) (λ c. cond (eqb t.target c) (one_if (word_at c)) 0) n in
      let p = total_point t.target (λ c. one_if (word_at c)) n in
      let s = sum_by-cons word_target t ts in
      omega (arith, r, a, b, p, s)

  -- ---- tasks

  module _ (list : List Task) (schedule : IsSchedule r list) (f : RtlExpr → ℕ) (g : ℕ → ℕ) where
    -- expressions and cells by one number
    abbrev code : Task → ℕ
    code (tasks.Expr e) = e
    code (tasks.Cell c) = length r.exprs + c

    abbrev of_code : ℕ → ℕ
    of_code i = if nat_lt i (length r.exprs) then entry_sum f r.exprs i else g (i - length r.exprs)

    task_code : (t : ℕ) (task : Task) → slice_get list t ≡ Some task → for_task f g r task ≡ of_code (code task)
    task_code t (tasks.Expr e) is =
        let l = schedule.only t (tasks.Expr e) is in
        sym (ap (λ b. if b then entry_sum f r.exprs e else g (e - length r.exprs)) (lt-ltb e (length r.exprs) l))
    task_code t (tasks.Cell c) is =
        let n : (length r.exprs + c) - length r.exprs ≡ c = omega arith in
        sym (ap (λ b. if b then entry_sum f r.exprs (length r.exprs + c)
        else g ((length r.exprs + c) - length r.exprs)) (not_less (length r.exprs) c) ∙ ap g n)
      where
        not_less : (n c : ℕ) → ltb (n + c) n ≡ false
        not_less n c = by_test (ltb (n + c) n) refl
          where
            by_test : (b : Bool) → ltb (n + c) n ≡ b → b ≡ false
            by_test true e = absurd (let l = ltb-true (n + c) n e in omega (arith, l))
            by_test false e = refl

    code_below : (t : ℕ) (task : Task) → slice_get list t ≡ Some task
        → code task < length r.exprs + length r.cells
    code_below t (tasks.Expr e) is = let l = schedule.only t (tasks.Expr e) is in omega (arith, l)
    code_below t (tasks.Cell c) is = let l = within r.cells c (schedule.only t (tasks.Cell c) is).1 in omega (arith, l)

    same_code : (s t : ℕ) (x y : Task) → slice_get list s ≡ Some x → slice_get list t ≡ Some y → code x ≡ code y
        → x ≡ y
    same_code s t (tasks.Expr e) (tasks.Expr d) a b q = ap tasks.Expr q
    same_code s t (tasks.Expr e) (tasks.Cell d) a b q =
        absurd (let l = schedule.only s (tasks.Expr e) a in omega (arith, l, q))
    same_code s t (tasks.Cell c) (tasks.Expr d) a b q =
        absurd (let l = schedule.only t (tasks.Expr d) b in omega (arith, l, q))
    same_code s t (tasks.Cell c) (tasks.Cell d) a b q = ap tasks.Cell (omega (arith, q))

    -- the tasks of a schedule together have at most what all expressions and cells have
    pub tasks_within : sum_by (for_task f g r) list ≤ sum_by f r.exprs + total g (length r.cells)
    tasks_within =
        let a = sum_same (for_task f g r) (λ x. of_code (code x)) list task_code in
        let b = sum_distinct code (length r.exprs + length r.cells) list of_code code_below
        (λ s t x y ex ey q. schedule.once s t x ex
        (subst (λ z. slice_get list t ≡ Some z) (sym (same_code s t x y ex ey q)) ey)) in
        let c = total_behind of_code (length r.exprs) (length r.cells) in
        let d = total_le of_code (entry_sum f r.exprs) (length r.exprs) (λ i l.
        let e = ap (λ b. if b then entry_sum f r.exprs i else g (i - length r.exprs)) (lt-ltb i (length r.exprs) l) in
        omega (arith, e)) in
        let e = total_le (λ i. of_code (length r.exprs + i)) g (length r.cells) (λ i l. cell_code i) in
        let h = total_list f r.exprs in
        omega (arith, a, b, c, d, e, h)
      where
        cell_code : (i : ℕ) → of_code (length r.exprs + i) ≤ g i
        cell_code i = by_test (nat_lt (length r.exprs + i) (length r.exprs)) refl
          where
            by_test : (b : Bool) → nat_lt (length r.exprs + i) (length r.exprs) ≡ b
                → (if b then entry_sum f r.exprs (length r.exprs + i)
                else g ((length r.exprs + i) - length r.exprs)) ≤ g i
            by_test true e = absurd (let l = ltb-true _ _ e in omega (arith, l))
            by_test false e =
                let n : (length r.exprs + i) - length r.exprs ≡ i = omega arith in
                let q = ap g n in omega (arith, q)

  -- ---- cells

  -- the words of a cell cost what it costs, and four for each transfer
  cell_parts : (c : ℕ) → first_cost r c + driven_cost r c + next_cost r c
      ≤ for_word cell_cost r c + 4 * word_writes r.transfers c
  cell_parts c = by_entry (slice_get r.cells c) (writes r c)
    where
      by_kind : (w : Bool) (kind : CellKind) (n : ℕ)
          → (if w then latch_cost kind else 0) + (if w then (if is_driven kind then 2 + 4 * n else 0) else 0)
          + (if w then (if is_stored kind then 5 + 4 * n else 0) else 0)
          ≤ (if w then cell_cost kind else 0) + 4 * (if w then n else 0)
      by_kind true (kinds.Input k) n = omega arith
      by_kind true (kinds.Output k) n = omega arith
      by_kind true kinds.Inner n = omega arith
      by_kind true kinds.Stored n = omega arith
      by_kind false kind n = omega arith

      by_entry : (o : Option cells.Cell) (n : ℕ)
          → option_map_or (λ (x : cells.Cell). if x.word then latch_cost x.kind else 0) o 0
          + option_map_or (λ (x : cells.Cell). if x.word then (if is_driven x.kind then 2 + 4 * n else 0) else 0) o 0
          + option_map_or (λ (x : cells.Cell). if x.word then (if is_stored x.kind then 5 + 4 * n else 0) else 0) o 0
          ≤ option_map_or (λ (x : cells.Cell). if x.word then cell_cost x.kind else 0) o 0
          + 4 * (if option_map_or (λ (x : cells.Cell). x.word) o false then n else 0)
      by_entry None n = omega arith
      by_entry (Some x) n = by_kind x.word x.kind n

  -- and so many crossings
  cell_crossings : (c : ℕ) → driven_crossings r c + next_crossings r c ≤ word_writes r.transfers c
  cell_crossings c = by_entry (slice_get r.cells c) (writes r c)
    where
      by_kind : (w : Bool) (kind : CellKind) (n : ℕ)
          → (if w then (if is_driven kind then n else 0) else 0) + (if w then (if is_stored kind then n else 0) else 0)
          ≤ (if w then n else 0)
      by_kind true (kinds.Input k) n = omega arith
      by_kind true (kinds.Output k) n = omega arith
      by_kind true kinds.Inner n = omega arith
      by_kind true kinds.Stored n = omega arith
      by_kind false kind n = omega arith

      by_entry : (o : Option cells.Cell) (n : ℕ)
          → option_map_or (λ (x : cells.Cell). if x.word then (if is_driven x.kind then n else 0) else 0) o 0
          + option_map_or (λ (x : cells.Cell). if x.word then (if is_stored x.kind then n else 0) else 0) o 0
          ≤ (if option_map_or (λ (x : cells.Cell). x.word) o false then n else 0)
      by_entry None n = omega arith
      by_entry (Some x) n = by_kind x.word x.kind n

  abbrev word_cell : cells.Cell → ℕ
  word_cell x = if x.word then cell_cost x.kind else 0

  abbrev all_cell : cells.Cell → ℕ
  all_cell x = cell_cost x.kind

  word_less : (x : cells.Cell) → word_cell x ≤ all_cell x
  word_less x = by_word x.word (cell_cost x.kind)
    where
      by_word : (w : Bool) (n : ℕ) → (if w then n else 0) ≤ n
      by_word true n = omega arith
      by_word false n = omega arith

  bit_less : (x : cells.Cell) → bit_cell_cost x ≤ all_cell x
  bit_less x = by_word x.word (cell_cost x.kind)
    where
      by_word : (w : Bool) (n : ℕ) → (if w then 0 else n) ≤ n
      by_word true n = omega arith
      by_word false n = omega arith

  -- the first stored word, if there is one
  pub stored_word : list_any is_stored_word (take (length r.cells) r.cells) ≡ true
      → (c : ℕ) × (x : cells.Cell) × (slice_get r.cells c ≡ Some x) × (x.word ≡ true) × (x.kind ≡ kinds.Stored)
  stored_word e =
      let f = any_found is_stored_word r.cells (any_take is_stored_word r.cells (length r.cells) e) in
      let p = parts f.1.word f.1.kind f.3 in
      (f.0, f.1, f.2, p.0, p.1)
    where
      parts : (w : Bool) (kind : CellKind) → (w && is_stored kind) ≡ true → (w ≡ true) × (kind ≡ kinds.Stored)
      parts true (kinds.Input k) e = absurd (false≢true e)
      parts true (kinds.Output k) e = absurd (false≢true e)
      parts true kinds.Inner e = absurd (false≢true e)
      parts true kinds.Stored e = (refl, refl)
      parts false kind e = absurd (false≢true e)

  -- the cast of reset is paid for by the cell of reset, which is a bit
  word_slack : IsSound r → sum_by word_cell r.cells + clear_cost r (length r.cells) ≤ sum_by all_cell r.cells
  word_slack sound = by_test (list_any is_stored_word (take (length r.cells) r.cells)) refl
    where
      paid : (c : ℕ) (x : cells.Cell) → slice_get r.cells c ≡ Some x → x.kind ≡ kinds.Stored
          → sum_by word_cell r.cells + 1 ≤ sum_by all_cell r.cells
      paid c x e is =
          by_reset r.reset refl
          (sound.resets (any_passes_from_place (λ (x : cells.Cell). is_stored x.kind) r.cells c x e
          (ap is_stored is)))
        where
          of_reset : (n : ℕ) → IsReset r n → sum_by word_cell r.cells + 1 ≤ sum_by all_cell r.cells
          of_reset n h =
              let fits : CellFits r h.0 (kinds.Input h.1) = subst (CellFits r h.0) h.4 (sound.cells n h.0 h.3) in
              let bit : h.0.word ≡ false = fits.2 ∙ ap not (ap (λ (q : Pad). q.width == 0)
              (one_entry (r.pads).inputs h.1 fits.0 h.2 fits.1 h.5) ∙ eq-eqb h.2.width 0 h.6) in
              let less : word_cell h.0 ≡ 0 = ap (λ b. if b then cell_cost h.0.kind else 0) bit in
              let two : all_cell h.0 ≡ 2 = ap cell_cost h.4 in
              sum_slack word_cell all_cell 1 r.cells n h.0 h.3 word_less
              (omega (arith, less, two))

          by_reset : (o : Option ℕ) → r.reset ≡ o → IsSome o → sum_by word_cell r.cells + 1 ≤ sum_by all_cell r.cells
          by_reset None e h = absurd (false≢true h)
          by_reset (Some n) e h = of_reset n (subst (λ o. IfSome o (IsReset r)) e sound.reset)

      by_test : (b : Bool) → list_any is_stored_word (take (length r.cells) r.cells) ≡ b
          → sum_by word_cell r.cells + (if b then 1 else 0) ≤ sum_by all_cell r.cells
      by_test true e = let s = stored_word e in paid s.0 s.1 s.2 s.4
      by_test false e = let l = sum_by-le-sum_by word_cell all_cell r.cells word_less in omega (arith, l)

  -- in the control it is paid for by the stored word
  bit_slack : sum_by bit_cell_cost r.cells + clear_cost r (length r.cells) ≤ sum_by all_cell r.cells
  bit_slack = by_test (list_any is_stored_word (take (length r.cells) r.cells)) refl
    where
      by_test : (b : Bool) → list_any is_stored_word (take (length r.cells) r.cells) ≡ b
          → sum_by bit_cell_cost r.cells + (if b then 1 else 0) ≤ sum_by all_cell r.cells
      by_test true e =
          let s = stored_word e in
          let less : bit_cell_cost s.1 ≡ 0 = ap (λ b. if b then 0 else cell_cost s.1.kind) s.3 in
          let seven : all_cell s.1 ≡ 7 = ap cell_cost s.4 in
          sum_slack bit_cell_cost all_cell 1 r.cells s.0 s.1 s.2 bit_less (omega (arith, less, seven))
      by_test false e = let l = sum_by-le-sum_by bit_cell_cost all_cell r.cells bit_less in omega (arith, l)

  -- ---- all

  four_target : (t : Transfer) → 4 * word_target t ≤ transfer_cost r.cells t
  four_target t = by_word (word_at t.target)
    where
      by_word : (w : Bool) → 4 * one_if w ≤ (if w then 4 else 1)
      by_word true = omega arith
      by_word false = omega arith

  both_targets : (t : Transfer) → bit_transfer_cost r.cells t + word_target t ≤ transfer_cost r.cells t
  both_targets t = by_word (word_at t.target)
    where
      by_word : (w : Bool) → (if not w then 1 else 0) + one_if w ≤ (if w then 4 else 1)
      by_word true = omega arith
      by_word false = omega arith

  bit_expr_less : (x : RtlExpr) → bit_expr_cost x ≤ expr_cost x
  bit_expr_less (exprs.Number n) = omega arith
  bit_expr_less (exprs.Truth b) = omega arith
  bit_expr_less (exprs.Cell c) = omega arith
  bit_expr_less (exprs.Apply op index args) = by_word (gives_word op) (expr_cost (exprs.Apply op index args))
    where
      by_word : (w : Bool) (n : ℕ) → (if w then 0 else n) ≤ n
      by_word true n = omega arith
      by_word false n = omega arith

  module _ (sound : IsSound r) (list : List Task) (schedule : IsSchedule r list) where
    pub all_spent : spent r (length r.cells) list (length r.cells) ≤ cost r
    all_spent =
        let n = length r.cells in
        let t = tasks_within list schedule expr_cost (driven_cost r) in
        let a = total_add (first_cost r) (driven_cost r) n in
        let b = total_add (λ c. first_cost r c + driven_cost r c) (next_cost r) n in
        let c = total_le (λ c. first_cost r c + driven_cost r c + next_cost r c)
        (λ c. for_word cell_cost r c + 4 * word_writes r.transfers c) n (λ c l. cell_parts c) in
        let d = total_add (for_word cell_cost r) (λ c. 4 * word_writes r.transfers c) n in
        let e = total_four (word_writes r.transfers) n in
        let w = writes_within r.transfers n in
        let h = total_list word_cell r.cells in
        let s = word_slack sound in
        let f = sum_four word_target r.transfers in
        let q = sum_by-le-sum_by (λ t. 4 * word_target t) (transfer_cost r.cells) r.transfers four_target in
        omega (arith, t, a, b, c, d, e, w, h, s, f, q)

    pub all_crossed : (control : List Part) → sum_by active_count control + sum_by entry_count r.exprs ≤ bit_cost r
        → sum_by active control + crossed r list (length r.cells) ≤ cost r
    all_crossed control within =
        let n = length r.cells in
        let t = tasks_within list schedule entry_count (driven_crossings r) in
        let a = total_add (driven_crossings r) (next_crossings r) n in
        let c = total_le (λ c. driven_crossings r c + next_crossings r c) (word_writes r.transfers) n
        (λ c l. cell_crossings c) in
        let w = writes_within r.transfers n in
        let s = bit_slack in
        let x = sum_by-le-sum_by bit_expr_cost expr_cost r.exprs bit_expr_less in
        let f = sum_add (bit_transfer_cost r.cells) word_target r.transfers in
        let q = sum_by-le-sum_by (λ t. bit_transfer_cost r.cells t + word_target t) (transfer_cost r.cells) r.transfers
        both_targets in
        let m = sum_same active active_count control (λ k p e. same_count p) in
        omega (arith, within, t, a, c, w, s, x, f, q, m)
      where
        same_count : (p : Part) → active p ≡ active_count p
        same_count parts.Input = refl
        same_count (parts.Gate inputs) = refl
        same_count (parts.Latch phase source) = refl

    -- what is spent on the way is at most that
    pub spent_below : (i t j : ℕ) → i ≤ length r.cells → j ≤ length r.cells
        → spent r i (take t list) j ≤ spent r (length r.cells) list (length r.cells)
    spent_below i t j li lj =
        let a = total_grows (first_cost r) i (length r.cells) li in
        let b = total_grows (next_cost r) j (length r.cells) lj in
        let c = sum_by-take-le (task_cost r) list t in
        let d = clear_grows in
        omega (arith, a, b, c, d)
      where
        clear_grows : clear_cost r j ≤ clear_cost r (length r.cells)
        clear_grows = by_tests (list_any is_stored_word (take j r.cells)) refl
          where
            all : list_any is_stored_word (take j r.cells) ≡ true → clear_cost r (length r.cells) ≡ 1
            all e = ap one_if (ap (list_any is_stored_word) (take_all (length r.cells) r.cells (omega arith))
                ∙ any_take is_stored_word r.cells j e)

            by_tests : (b : Bool) → list_any is_stored_word (take j r.cells) ≡ b
                → one_if b ≤ clear_cost r (length r.cells)
            by_tests true e = let h = all e in omega (arith, h)
            by_tests false e = omega arith
