-- The cells of stacks have the next stack.
use Rattle.std.proofs.Common.{
  ◌≡◌,
  ◌⊎◌,
  inl,
  inr,
  ◌∙◌,
  ℕ,
  zero,
  suc,
  ◌+◌,
  ◌-◌,
  ◌<◌,
  ◌≤◌,
  List,
  [],
  ◌∷◌,
  ◌++◌,
  Bool,
  true,
  false,
  cond,
  Option,
  Some,
  None,
  refl,
  sym,
  ap,
  subst,
  arith,
  length,
  drop,
}
use Rattle.std.specs.Prelude.{Contains, ◌==◌, nat_lt, slice_index, unwrap_or}
use Rattle.std.proofs.lemmas.Bool.{eqb-true, eqb-false, eq-eqb, ne_eqb}
use Rattle.std.proofs.lemmas.List.{get_or-take, get_or-drop, get_or_append_left, get_or-append_right, length-drop}
use Rattle.mp_base.specs.Apply.{truth}
use Rattle.mp_base.specs.Merge.{merged}
use Rattle.mp_base.proofs.Contents.{contains_head, only_one}
use Rattle.mp_base.proofs.Induction.{by_test}
use Rattle.mp_program.specs.declared.program.Process.{Process}
use Rattle.mp_program.specs.declared.program.Program.{Program}
use Rattle.mp_program.specs.Names.{index_of}
use Rattle.mp_program.specs.Effects.{Effect, Writes, Goes, Calls, Returns}
use Rattle.mp_program.specs.State.{State, Seat}
use Rattle.mp_program.specs.Step.{wrapped, next_seat}
use Rattle.mp_program.specs.Values as from
use Rattle.mp_base.specs.Entries.{IsAt}
use Rattle.mp_base.proofs.Entries.{one_entry}
use Rattle.rtl_form.specs.declared.rtl.Rtl.{Rtl}
use Rattle.rtl_form.specs.declared.rtl.Transfer.{Transfer}
use Rattle.rtl_form.specs.Written.{written}
use Rattle.process_plan.specs.Roles.{Role, Value, Placed, Stacked, stored_bit, IsReturnPlace}
use Rattle.process_plan.specs.Enables.{Enable, IsPlaceExpr}
use Rattle.process_plan.specs.Plan.{
  IsUnionOf,
  HasMove,
  is_call,
  is_return,
  IsPlanned,
  sets,
  falls,
  lands,
  returns,
  pushes,
  sinks,
  rises,
  empties,
}
use Rattle.process_plan.proofs.Merging.{same_merge}
use Rattle.process_plan.proofs.Members.{zero_or_more}
use Rattle.process_plan.proofs.Moving.{IsMove, moves, some_move}
use Rattle.process_plan.proofs.Enabling.{seat_fits, one_of, on_of}
use Rattle.process_plan.proofs.Scene.{Scene, W, w_false, w_cell, w_place, in_written, written_in}
use Rattle.process_plan.proofs.Defining.{stacked_role}
use Rattle.process_plan.proofs.Placing.{same_stacked, placed_stacked, is_wrapped, returning}
use Rattle.process_plan.proofs.Jumping.{
  seat,
  done,
  one_done,
  done_enable,
  call_tells,
  return_tells,
  next_by,
  next_on,
  same_move,
  is_calling,
  is_returning,
  has_move,
  calls_own,
  returns_own,
}

-- values that are all one merge to it
merge_all : (vs : List ℕ) (x y : ℕ) → Contains vs y → ((z : ℕ) → Contains vs z → z ≡ x) → merged vs ≡ Some x
merge_all vs x y c same =
    same_merge vs (x ∷ []) (λ z cz. subst (Contains (x ∷ [])) (sym (same z cz)) (contains_head x []))
    (λ z cz. subst (Contains vs) (same y c ∙ only_one x z cz) c)

merge_nothing : (vs : List ℕ) → ((v : ℕ) → Contains vs v → ⊥) → merged vs ≡ None
merge_nothing [] h = refl
merge_nothing (v ∷ vs) h = absurd (h v (contains_head v vs))

calling : (m : Effect) → is_calling m ≡ true → (l : List ℕ) × (m ≡ Calls l)
calling (Writes x v) h = absurd (cc)
calling (Goes l) h = absurd (cc)
calling (Calls l) h = (l, refl)
calling Returns h = absurd (cc)

-- the place behind another is pushed exactly where that one is left
pushed : (q : Process) (n i : ℕ) → n < length q.forms → suc i < length q.forms
    → truth (n == i) ≡ truth (wrapped q (n + 1) == suc i)
pushed q n i in_q in_i = by_test (n == i)
    (λ h.
    let e : n ≡ i = eqb-true n i h in
    let w : wrapped q (n + 1) ≡ suc i = is_wrapped q (n + 1) (omega (arith, e, in_i)) ∙ next n i e in
    ap truth h ∙ sym (ap truth (eq-eqb (wrapped q (n + 1)) (suc i) w)))
    (λ h. ap truth h ∙ sym (ap truth (ne_eqb (wrapped q (n + 1)) (suc i)
    (λ e. eqb-false n i h (back (nat_lt (n + 1) (length q.forms)) e)))))
  where
    next : (n i : ℕ) → n ≡ i → n + 1 ≡ suc i
    next n i e = omega (arith, e)

    back : (b : Bool) → cond b (n + 1) 0 ≡ suc i → n ≡ i
    back true e = omega (arith, e)
    back false e = absurd (omega (arith, e))

module _ {p : Program} {r : Rtl} {roles : List Role} {enables : List (Option Enable)} {st : State} {inputs env : List ℕ}
    (s : Scene p r roles enables st inputs env)
    (k : ℕ) (q : Process) (at_q : IsAt p.processes k q) where
  abbrev X : ℕ → ℕ
  X e = W s e

  abbrev from_here : Seat
  from_here = seat s k q at_q

  abbrev does : List Effect
  does = done s k q at_q

  abbrev to_here : Seat
  to_here = next_seat q from_here does

  one : moves does ≤ 1
  one = one_done s k q at_q

  in_range : (from_here.place < length q.forms) × (length from_here.stack ≡ q.depth)
  in_range = seat_fits p st k q s.fits at_q

  abbrev HasCall : Type 0
  HasCall = (m : Effect) × Contains does m × (is_calling m ≡ true)

  abbrev HasReturn : Type 0
  HasReturn = (m : Effect) × Contains does m × (is_returning m ≡ true)

  called : (u : ℕ) → IsUnionOf p r.exprs enables is_call k u → X u ≡ 1 → (l : List ℕ) × Contains does (Calls l)
  called u union one_u =
      let (m, c, is) = on_of (X u) HasCall (call_tells s k q at_q u union) one_u in
      let (l, e) = calling m is in
      (l, subst (Contains does) e c)

  returned : (u : ℕ) → IsUnionOf p r.exprs enables is_return k u → X u ≡ 1 → Contains does Returns
  returned u union one_u =
      let (m, c, is) = on_of (X u) HasReturn (return_tells s k q at_q u union) one_u in
      subst (Contains does) (returning m is) c

  -- an entry of the next stack
  after_call : (l : List ℕ) (n : ℕ) → Contains does (Calls l) → n < q.depth
      → slice_index to_here.stack n ≡ slice_index (wrapped q (from_here.place + 1) ∷ from_here.stack) n
  after_call l n c lt = ap (λ (z : Seat). slice_index z.stack n) (next_by q from_here does (Calls l) c tt one)
      ∙ get_or-take q.depth (wrapped q (from_here.place + 1) ∷ from_here.stack) n 0 lt

  after_return : (n : ℕ) → Contains does Returns → n < q.depth
      → slice_index to_here.stack n ≡ slice_index (drop 1 from_here.stack ++ 0 ∷ []) n
  after_return n c lt = ap (λ (z : Seat). slice_index z.stack n) (next_by q from_here does Returns c tt one)
      ∙ get_or-take q.depth (drop 1 from_here.stack ++ 0 ∷ []) n 0 lt

  risen : (n : ℕ) → suc n < q.depth → slice_index (drop 1 from_here.stack ++ 0 ∷ []) n
      ≡ slice_index from_here.stack (suc n)
  risen n lt =
      let size = length-drop 1 from_here.stack in
      let deep = in_range.1 in
      let e : 1 + n ≡ suc n = omega arith in
      get_or_append_left (drop 1 from_here.stack) (0 ∷ []) 0 n (omega (arith, size, deep, lt))
      ∙ get_or-drop 1 from_here.stack n 0 ∙ ap (slice_index from_here.stack) e

  emptied : (n : ℕ) → q.depth ≡ suc n → slice_index (drop 1 from_here.stack ++ 0 ∷ []) n ≡ 0
  emptied n depth =
      let size = length-drop 1 from_here.stack in
      let deep = in_range.1 in
      let e : n - n ≡ 0 = omega arith in
      get_or-append_right (drop 1 from_here.stack) (0 ∷ []) n n 0 (omega (arith, size, deep, depth)) (omega arith)
      ∙ ap (slice_index (0 ∷ [])) e

  cell_in : (c l j : ℕ) → IsAt roles c (Stacked k l j) → (l < q.depth) × IsReturnPlace p q j
  cell_in c l j role =
      let (x, at_x, (q2, at_q2, lt, is_place, is_x)) = (s.plan).cells.each c (Stacked k l j) role in
      let same_q : q2 ≡ q = one_entry p.processes k q2 q at_q2 at_q in
      (subst (λ (z : Process). l < z.depth) same_q lt, subst (λ z. IsReturnPlace p z j) same_q is_place)

  -- what is transferred to the cell of a stack's entry is what the entry is next, and there is a call or return
  planned_entry : (c l j : ℕ) → IsAt roles c (Stacked k l j) → (t : Transfer) → IsPlanned p r.exprs roles enables t
      → t.target ≡ c → X t.guard ≡ 1
      → (X t.value ≡ truth (slice_index to_here.stack l == j))
      × (((m : List ℕ) × Contains does (Calls m)) ⊎ Contains does Returns)
  planned_entry c l j role t (sets f y n at e o a c2 here_y is has role2) target guard =
      absurd (stacked_role roles c (index_of p.defs n) k l j
      (subst (λ i. IsAt roles i (Value (index_of p.defs n))) target role2) role)
  planned_entry c l j role t (falls k2 i a e c2 is_a is_e role2) target guard =
      absurd (placed_stacked roles c k2 (suc i) k l j (subst (λ n. IsAt roles n (Placed k2 (suc i))) target role2) role)
  planned_entry c l j role t (lands k2 i j2 f y q2 a c2 at_q2 here_y to has role2) target guard =
      absurd (placed_stacked roles c k2 j2 k l j (subst (λ n. IsAt roles n (Placed k2 j2)) target role2) role)
  planned_entry c l j role t (returns k2 j2 u e d2 c2 union at_e from_role role2) target guard =
      absurd (placed_stacked roles c k2 j2 k l j (subst (λ n. IsAt roles n (Placed k2 j2)) target role2) role)
  planned_entry c l j role t (pushes k2 i u a c2 union is_a role2) target guard =
      let same = same_stacked roles c k l j k2 0 (suc i) role
      (subst (λ n. IsAt roles n (Stacked k2 0 (suc i))) target role2) in
      let union2 : IsUnionOf p r.exprs enables is_call k u =
      subst (λ n. IsUnionOf p r.exprs enables is_call n u) same.0 union in
      let is_a2 : IsPlaceExpr p r.exprs roles k i a = subst (λ n. IsPlaceExpr p r.exprs roles n i a) same.0 is_a in
      let (m, cm) = called u union2 guard in
      let (lt, (pos, in_j, calls_there)) = cell_in c l j role in
      let in_i : suc i < length q.forms = subst (λ n. n < length q.forms) (sym same.2) in_j in
      let entry : slice_index to_here.stack l ≡ wrapped q (from_here.place + 1) =
      after_call m l cm lt ∙ ap (slice_index (wrapped q (from_here.place + 1) ∷ from_here.stack)) (sym same.1) in
      let value : X a ≡ truth (from_here.place == i) = elim (w_place s k i a is_a2) [
        | inl (e, h) ↦ e ∙ sym (ap truth (eq-eqb from_here.place i h))
        | inr (e, off) ↦ e ∙ sym (ap truth (ne_eqb from_here.place i off))
      ] in (
        value ∙ pushed q from_here.place i in_range.0 in_i
            ∙ ap (λ n. truth (wrapped q (from_here.place + 1) == n)) same.2
            ∙ sym (ap (λ n. truth (n == j)) entry),
        inl (m, cm),
      )
  planned_entry c l j role t (sinks k2 l2 j2 u e d2 c2 union at_e from_role role2) target guard =
      let same = same_stacked roles c k l j k2 (suc l2) j2 role
      (subst (λ n. IsAt roles n (Stacked k2 (suc l2) j2)) target role2) in
      let union2 : IsUnionOf p r.exprs enables is_call k u =
      subst (λ n. IsUnionOf p r.exprs enables is_call n u) same.0 union in
      let from2 : IsAt roles d2 (Stacked k l2 j) = subst (λ n. IsAt roles d2 (Stacked k l2 n)) same.2
      (subst (λ n. IsAt roles d2 (Stacked n l2 j2)) same.0 from_role) in
      let (m, cm) = called u union2 guard in
      let lt = (cell_in c l j role).0 in
      let entry : slice_index to_here.stack l ≡ slice_index from_here.stack l2 =
      after_call m l cm lt ∙ ap (slice_index (wrapped q (from_here.place + 1) ∷ from_here.stack)) (sym same.1) in
      (w_cell s e d2 (Stacked k l2 j) at_e from2 ∙ sym (ap (λ n. truth (n == j)) entry), inl (m, cm))
  planned_entry c l j role t (rises k2 l2 j2 u e d2 c2 union at_e from_role role2) target guard =
      let same = same_stacked roles c k l j k2 l2 j2 role (subst (λ n. IsAt roles n (Stacked k2 l2 j2)) target role2) in
      let union2 : IsUnionOf p r.exprs enables is_return k u =
      subst (λ n. IsUnionOf p r.exprs enables is_return n u) same.0 union in
      let from2 : IsAt roles d2 (Stacked k (suc l) j) =
      subst (λ n. IsAt roles d2 (Stacked k (suc l) n)) same.2
      (subst (λ n. IsAt roles d2 (Stacked k (suc n) j2)) same.1
      (subst (λ n. IsAt roles d2 (Stacked n (suc l2) j2)) same.0 from_role)) in
      let cr = returned u union2 guard in
      let lt = (cell_in c l j role).0 in
      let more = (cell_in d2 (suc l) j from2).0 in (
        w_cell s e d2 (Stacked k (suc l) j) at_e from2 ∙ sym
            (ap (λ n. truth (n == j)) (after_return l cr lt ∙ risen l more)),
        inr cr,
      )
  planned_entry c l j role t (empties k2 l2 j2 u c2 q2 at_q2 depth union role2) target guard =
      let same = same_stacked roles c k l j k2 l2 j2 role (subst (λ n. IsAt roles n (Stacked k2 l2 j2)) target role2) in
      let union2 : IsUnionOf p r.exprs enables is_return k u =
      subst (λ n. IsUnionOf p r.exprs enables is_return n u) same.0 union in
      let same_q : q2 ≡ q = one_entry p.processes k q2 q (subst (λ n. IsAt p.processes n q2) same.0 at_q2) at_q in
      let depth2 : q.depth ≡ suc l = subst (λ n. q.depth ≡ suc n) same.1
      (subst (λ (z : Process). z.depth ≡ suc l2) same_q depth) in
      let cr = returned u union2 guard in
      let (lt, (pos, in_j, calls_there)) = cell_in c l j role in (
        w_false s
            ∙ sym (ap truth (ne_eqb (slice_index to_here.stack l) j (λ e. let z = after_return l cr lt in let w =
            emptied l depth2 in omega (arith, e, z, w, pos)))),
        inr cr,
      )

  put : (c : ℕ) (t : Transfer) → Contains r.transfers t → t.target ≡ c → X t.guard ≡ 1 → (v : ℕ)
      × Contains (written X c r.transfers) v
  put c t ct target guard = (X t.value, written_in X c r.transfers t ct target guard)

  entry_of : (l j : ℕ) → l < q.depth → IsReturnPlace p q j → (d : ℕ) × IsAt roles d (Stacked k l j)
  entry_of l j lt is_place = (s.plan).cells.all (Stacked k l j) stored_bit (q, at_q, lt, is_place, refl)

  -- a call writes each entry
  call_written : (c l j : ℕ) → IsAt roles c (Stacked k l j) → HasCall → HasMove p enables is_call k → (v : ℕ)
      × Contains (written X c r.transfers) v
  call_written c zero zero role call has = let (lt, (pos, in_j, calls_there)) = cell_in c 0 0 role in
      absurd (omega (arith, pos))
  call_written c zero (suc i) role call has =
      let (u, a, union, is_a, ct) = ((s.plan).transfers).pushes k i c has role in
      put c (record { guard = u; target = c; value = a }) ct refl
      (one_of (X u) HasCall (call_tells s k q at_q u union) call)
  call_written c (suc l) j role call has =
      let (lt, is_place) = cell_in c (suc l) j role in
      let (d, from_role) = entry_of l j (omega (arith, lt)) is_place in
      let (u, e, union, at_e, ct) = ((s.plan).transfers).sinks k l j c d has from_role role in
      put c (record { guard = u; target = c; value = e }) ct refl
      (one_of (X u) HasCall (call_tells s k q at_q u union) call)

  last_or_not : (n d : ℕ) → n < d → (d ≡ suc n) ⊎ (suc n < d)
  last_or_not n zero lt = absurd (omega (arith, lt))
  last_or_not zero (suc zero) lt = inl refl
  last_or_not zero (suc (suc d)) lt = inr (omega arith)
  last_or_not (suc n) (suc d) lt = elim (last_or_not n d (omega (arith, lt))) [
    | inl e ↦ inl (ap suc e)
    | inr h ↦ inr
        (omega (arith, h))
  ]

  -- and so does a return
  return_written : (c l j : ℕ) → IsAt roles c (Stacked k l j) → HasReturn → HasMove p enables is_return k → (v : ℕ)
      × Contains (written X c r.transfers) v
  return_written c l j role back has =
      let (lt, is_place) = cell_in c l j role in
      elim (last_or_not l q.depth lt) [
        | inl last ↦
            let (u, union, ct) = ((s.plan).transfers).empties k l j c q at_q last has role in
            put c (record { guard = u; target = c; value = 1 }) ct refl
            (one_of (X u) HasReturn (return_tells s k q at_q u union) back)
        | inr more ↦
            let (d, from_role) = entry_of (suc l) j more is_place in
            let (u, e, union, at_e, ct) = ((s.plan).transfers).rises k l j c d has from_role role in
            put c (record { guard = u; target = c; value = e }) ct refl
            (one_of (X u) HasReturn (return_tells s k q at_q u union) back)
      ]

  has_call : HasCall → HasMove p enables is_call k
  has_call (m, c, is) =
      let (f, y, a, here_y, has, one_a, own) = done_enable s k q at_q m c in
      (a, (f, from_here.place, y, here_y, calls_own (from.value_of p env) y.kind m own ∙ is, has))

  has_return : HasReturn → HasMove p enables is_return k
  has_return (m, c, is) =
      let (f, y, a, here_y, has, one_a, own) = done_enable s k q at_q m c in
      (a, (f, from_here.place, y, here_y, returns_own (from.value_of p env) y.kind m own ∙ is, has))

  all_same : (c l j : ℕ) → IsAt roles c (Stacked k l j) → (z : ℕ) → Contains (written X c r.transfers) z
      → z ≡ truth (slice_index to_here.stack l == j)
  all_same c l j role z cz =
      let (t, ct, target, guard, value) = in_written X c r.transfers z cz in
      sym value ∙ (planned_entry c l j role t (((s.plan).transfers).only t ct) target guard).0

  -- where the process neither calls nor returns, nothing is written
  quiet : (c l j old : ℕ) → IsAt roles c (Stacked k l j) → ((m : List ℕ) → Contains does (Calls m) → ⊥)
      → (Contains does Returns → ⊥) → to_here.stack ≡ from_here.stack
      → old ≡ truth (slice_index from_here.stack l == j)
      → unwrap_or (merged (written X c r.transfers)) old ≡ truth (slice_index to_here.stack l == j)
  quiet c l j old role no_call no_return same is_old =
      ap (λ m. unwrap_or m old) (merge_nothing (written X c r.transfers) (λ z cz.
      let (t, ct, target, guard, value) = in_written X c r.transfers z cz in
      elim ((planned_entry c l j role t (((s.plan).transfers).only t ct) target guard).1) [
        | inl
            (m, cm) ↦ no_call m cm
        | inr cr ↦ no_return cr
      ]))
      ∙ is_old ∙ sym (ap (λ xs. truth (slice_index xs l == j)) same)

  busy : (c l j old : ℕ) → IsAt roles c (Stacked k l j) → (v : ℕ) × Contains (written X c r.transfers) v
      → unwrap_or (merged (written X c r.transfers)) old ≡ truth (slice_index to_here.stack l == j)
  busy c l j old role (v, cv) = ap (λ m. unwrap_or m old)
      (merge_all (written X c r.transfers) (truth (slice_index to_here.stack l == j)) v cv (all_same c l j role))

  by_move : (c l j old : ℕ) → IsAt roles c (Stacked k l j) → old ≡ truth (slice_index from_here.stack l == j)
      → (m : Effect) → Contains does m → IsMove m
      → unwrap_or (merged (written X c r.transfers)) old ≡ truth (slice_index to_here.stack l == j)
  by_move c l j old role is_old (Writes x v) cm is = absurd is
  by_move c l j old role is_old (Goes x) cm is = quiet c l j old role
      (λ m cc1. let clash = ap is_calling (same_move does (Goes x) (Calls m) cm cc1 tt tt one) in absurd (cc))
      (λ cr. let clash = ap is_returning (same_move does (Goes x) Returns cm cr tt tt one) in absurd (cc))
      (ap (λ (z : Seat). z.stack) (next_by q from_here does (Goes x) cm tt one)) is_old
  by_move c l j old role is_old (Calls x) cm is = busy c l j old role
      (call_written c l j role (Calls x, cm, refl) (has_call (Calls x, cm, refl)))
  by_move c l j old role is_old Returns cm is = busy c l j old role
      (return_written c l j role (Returns, cm, refl) (has_return (Returns, cm, refl)))

  -- the cell of a stack's entry is 1 in the next clock exactly where the entry is its place
  pub entry_next : (c l j old : ℕ) → IsAt roles c (Stacked k l j) → old ≡ truth (slice_index from_here.stack l == j)
      → unwrap_or (merged (written X c r.transfers)) old ≡ truth (slice_index to_here.stack l == j)
  entry_next c l j old role is_old = elim (zero_or_more (moves does)) [
    | inl none ↦ quiet c l j old role
        (λ m cm. let more = has_move does (Calls m) cm tt in omega (arith, more, none))
        (λ cr. let more = has_move does Returns cr tt in omega (arith, more, none))
        (ap (λ (z : Seat). z.stack) (next_on q from_here does none)) is_old
    | inr more ↦ let (m, cm, is) = some_move does more in by_move c l j old role is_old m cm is
  ]
