-- Tasks in the order of their moments.
use Rattle.std.proofs.Common.{◌≡◌, ℕ, zero, suc, ◌+◌, ◌-◌, ◌*◌, ◌<◌, ◌≤◌, ◌⊎◌, inl, inr, List, [], ◌∷◌, Some}
use Rattle.std.proofs.Common.{Bool, false, length, map, get_or, refl, sym, ◌∙◌, ap, subst, arith, eqb}
use Rattle.std.specs.Prelude.{All, Contains, slice_get, slice_index}
use Rattle.std.specs.List.{IsDistinct}
use Rattle.std.specs.List.Sorted.{IsNonDecreasingBy, IsPermutation}
use Rattle.std.proofs.lemmas.Bool.{cases_lt, eq-eqb, ne_eqb, cases_eq}
use Rattle.std.proofs.lemmas.List.Elements.{recursion_from_All, All-from_recursion}
use Rattle.std.proofs.lemmas.List.Sorted.{All-permutation, Contains-permutation}
use Rattle.std.proofs.lemmas.Map.Keys.{IsDistinct-IsPermutation}
use Rattle.std.proofs.lemmas.Option.{get_or_from_slice_get, none-some, same_Some, slice_get-get_or}
use Rattle.std.proofs.lemmas.Option.{slice_get_within}
use Rattle.std.proofs.Math.Nat.{mul-le-mul_right}
use Rattle.rtl_form.specs.declared.rtl.Transfer.{Transfer}
use Rattle.rtl_form.specs.declared.rtl.RtlExpr.{RtlExpr}
use Rattle.rtl_form.specs.declared.rtl.RtlExpr.TheVariants as exprs
use Rattle.rtl_form.specs.declared.rtl.Rtl.{Rtl}
use Rattle.mp_base.specs.Entries.{IsAt}
use Rattle.mp_base.proofs.Entries.{contains_from_get, get_from_contains, get_map, map_get, within}
use Rattle.rtl_form.specs.Sound.{IsSound, ReadsCell}
use Rattle.task_schedule.specs.declared.task.Task.{Task}
use Rattle.task_schedule.specs.declared.task.Task.TheVariants.{Expr, Cell}
use Rattle.task_schedule.specs.declared.scheduling.Entry.{Entry}
use Rattle.task_schedule.specs.Schedule.{ExprReads, IsSchedule, IsTask, TaskReads}
use Rattle.task_schedule.specs.Turns.{AreCellTurns, AreEntries, AreExprTurns, cell_moment, expr_moment}
use Rattle.task_schedule.proofs.Turns.{tight}

-- ---- numbers of two digits

same_turn : (a b i j s : ℕ) → a ≤ b → i < j → a * s + i < b * s + j
same_turn a b i j s l m = let h = mul-le-mul_right s l in omega (arith, h)

next_turn : (a b i j s : ℕ) → a < b → i < s → a * s + i < b * s + j
next_turn a b i j s l m =
    let k : suc a ≤ b = omega arith in
    let h = mul-le-mul_right s k in
    let e : suc a * s ≡ a * s + s = grind arith in omega (arith, h, e)

digits_differ : (a b i j s : ℕ) → i < s → j < s → (a ≡ b → i ≡ j → ⊥) → a * s + i ≡ b * s + j → ⊥
digits_differ a b i j s l m ne e = elim (cases_lt a b) [
  | inl q ↦ let h = next_turn a b i j s q l in omega (arith, h, e)
  | inr q ↦ elim (cases_lt b a) [
    | inl p ↦ let h = next_turn b a j i s p m in omega (arith, h, e)
    | inr p ↦ let same : a ≡ b = omega (arith, p, q) in
        ne same (let h = ap (λ n. n * s) same in omega (arith, h, e))
  ]
]

-- ---- elements that differ

abbrev same_moment : Entry → Entry → Bool
same_moment x y = eqb x.moment y.moment

distinct_from : (xs : List Entry)
    → ((i j : ℕ) (x y : Entry) → i < j → slice_get xs i ≡ Some x → slice_get xs j ≡ Some y → x.moment ≡ y.moment → ⊥)
    → IsDistinct same_moment xs
unfolding IsDistinct
distinct_from [] h = tt
distinct_from (x ∷ xs) h = (
  recursion_from_All (λ y. same_moment x y ≡ false) xs (λ k d l. ne_eqb x.moment (get_or xs k d).moment
      (h 0 (suc k) x (get_or xs k d) (omega arith) refl (slice_get-get_or xs k d l))),
  distinct_from xs (λ i j x y l. h (suc i) (suc j) x y (omega arith)),
)

distinct_at : (xs : List Entry) → IsDistinct same_moment xs → (i j : ℕ) (x y : Entry) → i < j
    → slice_get xs i ≡ Some x
    → slice_get xs j ≡ Some y → x.moment ≡ y.moment → ⊥
unfolding IsDistinct
distinct_at [] h i j x y l p q e = none-some x p
distinct_at (z ∷ xs) h zero zero x y l p q e = absurd (omega arith)
distinct_at (z ∷ xs) h zero (suc j) x y l p q e =
    let w = slice_get_within xs j y q in
    let a = All-from_recursion (λ y. same_moment z y ≡ false) xs h.0 j y w in
    let is = get_or_from_slice_get xs j y y q in
    let same : z ≡ x = same_Some z x p in
    absurd (cc (eq-eqb x.moment y.moment e, subst (λ (w : Entry). same_moment z w ≡ false) is a, same))
distinct_at (z ∷ xs) h (suc i) zero x y l p q e = absurd (omega arith)
distinct_at (z ∷ xs) h (suc i) (suc j) x y l p q e = distinct_at xs h.1 i j x y (omega arith) p q e

-- ---- the schedule

module _ (r : Rtl) (sound : IsSound r) (cells turns : List ℕ) (cell_turns : AreCellTurns r (length r.order) cells)
    (expr_turns : AreExprTurns r cells (length r.exprs) turns) (es ys : List Entry)
    (are : AreEntries r turns (length r.exprs) (length r.order) es) (permuted : IsPermutation es ys)
    (rising : IsNonDecreasingBy (λ (e : Entry). e.moment) ys) where
  abbrev expr_entry : ℕ → Entry
  expr_entry e = record { moment = expr_moment r turns e; task = Expr e }

  abbrev cell_entry : ℕ → Entry
  cell_entry p = record { moment = cell_moment r p; task = Cell (slice_index r.order p) }

  abbrev IsOwn : Entry → Type 0
  IsOwn y = ((e : ℕ) × (e < length r.exprs) × (y ≡ expr_entry e)) ⊎
      ((p : ℕ) × (p < length r.order) × (y ≡ cell_entry p))

  entry_at : (k : ℕ) (y : Entry) → slice_get es k ≡ Some y
      → ((k < length r.exprs) × (y ≡ expr_entry k))
      ⊎ ((p : ℕ) × (p < length r.order) × (k ≡ length r.exprs + p) × (y ≡ cell_entry p))
  entry_at k y e = elim (cases_lt k (length r.exprs)) [
    | inl l ↦ inl (l, same_Some y (expr_entry k) (sym e ∙ are.exprs k l))
    | inr l ↦ let w = slice_get_within es k y e in let n = are.count in
        let p : k - length r.exprs < length r.order = omega (arith, w, n, l) in
        let at : k ≡ length r.exprs + (k - length r.exprs) = omega (arith, l) in
        inr (
          k - length r.exprs,
          p,
          at,
          same_Some y (cell_entry (k - length r.exprs))
              (sym e ∙ (ap (slice_get es) at ∙ are.cells (k - length r.exprs) p)),
        )
  ]

  own_es : All IsOwn es
  own_es k d l = elim (entry_at k (get_or es k d) (slice_get-get_or es k d l)) [
    | inl h ↦ inl (k, h.0, h.1)
    | inr h ↦ inr (h.0, h.1, h.3)
  ]

  own : (t : ℕ) (y : Entry) → slice_get ys t ≡ Some y → IsOwn y
  own t y e = subst IsOwn (get_or_from_slice_get ys t y y e)
      (All-permutation IsOwn es ys permuted own_es t y (slice_get_within ys t y e))

  differ : (i j : ℕ) (x y : Entry) → i < j → slice_get es i ≡ Some x → slice_get es j ≡ Some y → x.moment ≡ y.moment
      → ⊥
  differ i j x y l p q e = elim (entry_at i x p) [
    | inl a ↦ elim (entry_at j y q) [
      | inl b ↦ digits_differ (slice_index turns i) (slice_index turns j) i j (suc (length r.exprs))
          (let m = a.0 in omega (arith, m))
          (let m = b.0 in omega (arith, m)) (λ s t. absurd (omega (arith, t, l)))
          (sym (ap (λ (z : Entry). z.moment) a.1) ∙ (e ∙ ap (λ (z : Entry). z.moment) b.1))
      | inr b ↦ digits_differ (slice_index turns i) b.0 i (length r.exprs) (suc (length r.exprs))
          (let m = a.0 in omega (arith, m))
          (omega arith) (λ s t. let m = a.0 in absurd (omega (arith, t, m)))
          (sym (ap (λ (z : Entry). z.moment) a.1) ∙ (e ∙ ap (λ (z : Entry). z.moment) b.3))
    ]
    | inr a ↦ elim (entry_at j y q) [
      | inl b ↦ let m = b.0 in let n = a.2 in absurd (omega (arith, m, n, l))
      | inr b ↦ digits_differ a.0 b.0 (length r.exprs) (length r.exprs) (suc (length r.exprs)) (omega arith)
          (omega arith)
          (λ s t. let m = a.2 in let n = b.2 in absurd (omega (arith, m, n, l, s)))
          (sym (ap (λ (z : Entry). z.moment) a.3) ∙ (e ∙ ap (λ (z : Entry). z.moment) b.3))
    ]
  ]

  apart : IsDistinct same_moment ys
  apart = IsDistinct-IsPermutation same_moment (λ x y. flip x.moment y.moment) es ys permuted
      (distinct_from es differ)
    where
      flip : (m n : ℕ) → eqb m n ≡ eqb n m
      flip m n = elim (cases_eq m n) [
        | inl e ↦ eq-eqb m n e ∙ sym (eq-eqb n m (sym e))
        | inr ne ↦ ne_eqb m n ne ∙ sym (ne_eqb n m (λ e. ne (sym e)))
      ]

  find : (k : ℕ) (y : Entry) → slice_get es k ≡ Some y → (j : ℕ) × (slice_get ys j ≡ Some y)
  find k y e = get_from_contains ys y (Contains-permutation es ys y permuted (contains_from_get es k y e))

  abbrev tasks : List Task
  tasks = map (λ (e : Entry). e.task) ys

  task_at : (t : ℕ) (y : Entry) → slice_get ys t ≡ Some y → slice_get tasks t ≡ Some y.task
  task_at = map_get (λ (e : Entry). e.task) ys

  entry_of : (t : ℕ) (x : Task) → slice_get tasks t ≡ Some x → (y : Entry) × (slice_get ys t ≡ Some y) × (y.task ≡ x)
  entry_of = get_map (λ (e : Entry). e.task) ys

  -- a place has one cell, and a cell one place
  one_place : (p q : ℕ) → p < length r.order → q < length r.order → slice_index r.order p ≡ slice_index r.order q
      → p ≡ q
  one_place p q l m e = elim (cases_eq p q) [
    | inl same ↦ same
    | inr ne ↦ elim (cases_lt p q) [
      | inl s ↦ absurd (sound.order.once p q s m e)
      | inr s ↦ absurd (sound.order.once q p (omega (arith, s, ne)) l (sym e))
    ]
  ]

  -- the entry of a task that there is
  its_entry : (x : Task) → IsTask r x → (j : ℕ) × (y : Entry) × (slice_get ys j ≡ Some y) × (y.task ≡ x)
  its_entry (Expr e) h = let f = find e (expr_entry e) (are.exprs e h) in (f.0, expr_entry e, f.1, refl)
  its_entry (Cell c) h =
      let p = sound.order.all c h.0 h.1 h.2 in
      let f = find (length r.exprs + p.0) (cell_entry p.0) (are.cells p.0 p.1) in
      (f.0, cell_entry p.0, f.1, ap Cell p.2)

  same_task : (y z : Entry) → IsOwn y → IsOwn z → y.task ≡ z.task → y.moment ≡ z.moment
  same_task y z a b e = elim a [
    | inl p ↦ elim b [
      | inl q ↦ let same : p.0 ≡ q.0 =
          cc (sym (ap (λ (z : Entry). z.task) p.2) ∙ (e ∙ ap (λ (z : Entry). z.task) q.2)) in
          ap (λ (z : Entry). z.moment) p.2 ∙ (ap (expr_moment r turns) same ∙ sym (ap (λ (z : Entry). z.moment) q.2))
      | inr q ↦ absurd (cc (sym (ap (λ (z : Entry). z.task) p.2) ∙ (e ∙ ap (λ (z : Entry). z.task) q.2)))
    ]
    | inr p ↦ elim b [
      | inl q ↦ absurd (cc (sym (ap (λ (z : Entry). z.task) p.2) ∙ (e ∙ ap (λ (z : Entry). z.task) q.2)))
      | inr q ↦ let same : slice_index r.order p.0 ≡ slice_index r.order q.0 =
          cc (sym (ap (λ (z : Entry). z.task) p.2) ∙ (e ∙ ap (λ (z : Entry). z.task) q.2)) in
          ap (λ (z : Entry). z.moment) p.2 ∙ (ap (cell_moment r) (one_place p.0 q.0 p.1 q.1 same)
          ∙ sym (ap (λ (z : Entry). z.moment) q.2))
    ]
  ]

  -- what a task reads comes at an earlier moment
  expr_before : (e : ℕ) (x : RtlExpr) (y : Task) → IsAt r.exprs e x → ExprReads x y → (z : Entry) → IsOwn z
      → z.task ≡ y
      → z.moment < expr_moment r turns e
  expr_before e (exprs.Number n) y at h z own is = absurd h
  expr_before e (exprs.Truth b) y at h z own is = absurd h
  expr_before e (exprs.Cell c) (Expr d) at h z own is = absurd h
  expr_before e (exprs.Cell c) (Cell d) at h z own is = elim own [
    | inl q ↦ absurd (cc (sym (ap (λ (z : Entry). z.task) q.2) ∙ is))
    | inr q ↦
        let place : slice_index r.order q.0 ≡ d = cc (sym (ap (λ (z : Entry). z.task) q.2) ∙ is) in
        let turn = expr_turns.each e (exprs.Cell c) (within r.exprs e at) at
        ∙ (ap (slice_index cells) (h ∙ sym place) ∙ cell_turns.placed q.0 q.1) in
        let m = ap (λ (z : Entry). z.moment) q.2 in
        let n = next_turn q.0 (slice_index turns e) (length r.exprs) e (suc (length r.exprs)) (omega (arith, turn))
        (omega arith) in
        omega (arith, m, n)
  ]
  expr_before e (exprs.Apply op k args) (Cell d) at h z own is = absurd h
  expr_before e (exprs.Apply op k args) (Expr a) at h z own is = elim own [
    | inr q ↦ absurd (cc (sym (ap (λ (z : Entry). z.task) q.2) ∙ is))
    | inl q ↦
        let same : q.0 ≡ a = cc (sym (ap (λ (z : Entry). z.task) q.2) ∙ is) in
        let b = (expr_turns.each e (exprs.Apply op k args) (within r.exprs e at) at).bound a h in
        let l = ((sound.exprs e (exprs.Apply op k args) at).2 a h).0 in
        let m = ap (λ (z : Entry). z.moment) q.2 ∙ ap (expr_moment r turns) same in
        let n = same_turn (slice_index turns a) (slice_index turns e) a e (suc (length r.exprs)) b l in
        omega (arith, m, n)
  ]

  -- guards and values of the transfers to a cell have turns up to its place
  turn_of : (p : ℕ) (t : Transfer) (e : ℕ) → p < length r.order → Contains r.transfers t
      → t.target ≡ slice_index r.order p
      → (t.guard ≡ e) ⊎ (t.value ≡ e) → e < length r.exprs → slice_index turns e ≤ p
  turn_of p t e l inside to which small = elim (tight r sound cells turns cell_turns expr_turns e small) [
    | inl z ↦ omega (arith, z)
    | inr q ↦
        let cell = sound.order.driven q.0 q.1 in
        let reads : ReadsCell r.exprs (slice_index r.order q.0) t.guard ⊎ ReadsCell r.exprs
        (slice_index r.order q.0) t.value =
        elim which [
          | inl g ↦ inl (subst (ReadsCell r.exprs (slice_index r.order q.0)) (sym g) q.3)
          | inr g ↦ inr (subst (ReadsCell r.exprs (slice_index r.order q.0)) (sym g) q.3)
        ] in
        let j = sound.order.after p (slice_index r.order q.0) l (t, cell.0, inside, to, cell.1, cell.2, reads) in
        let b = j.1 in
        let same = one_place j.0 q.0 (omega (arith, b, l)) q.1 j.2 in
        let turn = q.2 in omega (arith, b, same, turn)
  ]

  before : (x y : Task) → TaskReads r x y → (w z : Entry) → IsOwn w → w.task ≡ x → IsOwn z → z.task ≡ y
      → z.moment < w.moment
  before (Expr e) y h w z own_w is_w own_z is_z = elim own_w [
    | inl q ↦
        let same : q.0 ≡ e = cc (sym (ap (λ (z : Entry). z.task) q.2) ∙ is_w) in
        let m = ap (λ (z : Entry). z.moment) q.2 ∙ ap (expr_moment r turns) same in
        let l = expr_before e h.0 y h.1 h.2 z own_z is_z in omega (arith, m, l)
    | inr q ↦ absurd (cc (sym (ap (λ (z : Entry). z.task) q.2) ∙ is_w))
  ]
  before (Cell c) (Cell d) h w z own_w is_w own_z is_z = absurd h
  before (Cell c) (Expr e) h w z own_w is_w own_z is_z = elim own_w [
    | inl q ↦ absurd (cc (sym (ap (λ (z : Entry). z.task) q.2) ∙ is_w))
    | inr q ↦ elim own_z [
      | inr k ↦ absurd (cc (sym (ap (λ (z : Entry). z.task) k.2) ∙ is_z))
      | inl k ↦
          let place : slice_index r.order q.0 ≡ c = cc (sym (ap (λ (z : Entry). z.task) q.2) ∙ is_w) in
          let same : k.0 ≡ e = cc (sym (ap (λ (z : Entry). z.task) k.2) ∙ is_z) in
          let small = k.1 in
          let t = turn_of q.0 h.0 k.0 q.1 h.1 (h.2 ∙ sym place)
          (elim h.3 [ inl g ↦ inl (g ∙ sym same) | inr g ↦ inr (g ∙ sym same) ]) small in
          let m = ap (λ (z : Entry). z.moment) q.2 in
          let n = ap (λ (z : Entry). z.moment) k.2 in
          let l = same_turn (slice_index turns k.0) q.0 k.0 (length r.exprs) (suc (length r.exprs)) t small in
          omega (arith, m, n, l)
    ]
  ]

  pub is_schedule : IsSchedule r tasks
  is_schedule = record {
    all = λ x h. let f = its_entry x h in (f.0, task_at f.0 f.1 f.2 ∙ ap Some f.3);
    only = λ t x h. let f = entry_of t x h in subst (IsTask r) f.2 (elim (own t f.0 f.1) [
      | inl q ↦ subst (λ (z : Entry). IsTask r z.task) (sym q.2) q.1
      | inr q ↦ subst (λ (z : Entry). IsTask r z.task) (sym q.2) (sound.order.driven q.0 q.1)
    ]);
    once = λ s t x h k. let f = entry_of s x h in let g = entry_of t x k in
        let same = same_task f.0 g.0 (own s f.0 f.1) (own t g.0 g.1) (f.2 ∙ sym g.2) in
        elim (cases_eq s t) [
          | inl e ↦ e
          | inr ne ↦ elim (cases_lt s t) [
            | inl l ↦ absurd (distinct_at ys apart s t f.0 g.0 l f.1 g.1 same)
            | inr l ↦ absurd (distinct_at ys apart t s g.0 f.0 (omega (arith, l, ne)) g.1 f.1 (sym same))
          ]
        ];
    after = λ t x y h reads there. let f = entry_of t x h in let g = its_entry y there in
        let m = before x y reads f.0 g.1 (own t f.0 f.1) f.2 (own g.0 g.1 g.2) g.3 in
        (g.0, earlier t g.0 f.0 g.1 f.1 g.2 m, task_at g.0 g.1 g.2 ∙ ap Some g.3);
  }
    where
      earlier : (t k : ℕ) (w z : Entry) → slice_get ys t ≡ Some w → slice_get ys k ≡ Some z → z.moment < w.moment
          → k < t
      earlier t k w z p q l = elim (cases_lt k t) [
        | inl m ↦ m
        | inr m ↦
            let h = rising t k w m (slice_get_within ys k z q) in
            let a = ap (λ (z : Entry). z.moment) (get_or_from_slice_get ys t w w p) in
            let b = ap (λ (z : Entry). z.moment) (get_or_from_slice_get ys k z w q) in
            absurd (omega (arith, h, a, b, l))
      ]
