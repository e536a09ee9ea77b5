-- The cells of places have the next place.
use Rattle.std.proofs.Common.{
  ◌≡◌,
  inl,
  inr,
  ◌∙◌,
  ℕ,
  zero,
  suc,
  ◌+◌,
  ◌<◌,
  ◌≤◌,
  List,
  [],
  ◌∷◌,
  Bool,
  true,
  false,
  cond,
  Option,
  Some,
  refl,
  sym,
  ap,
  subst,
  arith,
  length,
  get_or,
}
use Rattle.std.specs.Prelude.{Contains, ◌==◌, nat_lt, slice_index, unwrap_or}
use Rattle.std.proofs.lemmas.Bool.{eqb-true, eqb-false, eq-eqb, lt-ltb}
use Rattle.std.proofs.lemmas.List.{get_or_past}
use Rattle.mp_base.specs.Apply.{truth}
use Rattle.mp_base.specs.Merge.{merged}
use Rattle.mp_base.proofs.Contents.{contains_head, nothing_in, only_one}
use Rattle.mp_base.proofs.Induction.{by_test}
use Rattle.mp_program.specs.declared.program.FormKind.{FormKind}
use Rattle.mp_program.specs.declared.program.FormKind.TheVariants.{Set, Cond, Par, Go, Call, Return}
use Rattle.mp_program.specs.declared.program.Form.{Form}
use Rattle.mp_program.specs.declared.program.Process.{Process}
use Rattle.mp_program.specs.declared.program.Program.{Program}
use Rattle.mp_program.specs.Names.{index_of}
use Rattle.mp_program.specs.Effects.{Effect, Writes, Goes, Calls, Returns}
use Rattle.mp_program.specs.State.{State, Seat}
use Rattle.mp_program.specs.Step.{wrapped, place_of_label, next_seat}
use Rattle.mp_program.specs.Values as from
use Rattle.mp_base.specs.Entries.{IsAt}
use Rattle.mp_base.proofs.Entries.{one_entry}
use Rattle.rtl_form.specs.declared.rtl.Rtl.{Rtl}
use Rattle.rtl_form.specs.declared.rtl.Transfer.{Transfer}
use Rattle.rtl_form.specs.Written.{written}
use Rattle.process_plan.specs.Roles.{Role, Value, Placed, Stacked, stored_bit, IsReturnPlace}
use Rattle.process_plan.specs.Active.{own_effects, At}
use Rattle.process_plan.specs.Enables.{Enable, HasEnable, IsPlaceExpr}
use Rattle.process_plan.specs.Plan.{
  IsUnionOf,
  HasMove,
  is_return,
  IsFall,
  LandsAt,
  IsPlanned,
  sets,
  falls,
  lands,
  returns,
  pushes,
  sinks,
  rises,
  empties,
}
use Rattle.process_plan.proofs.Merging.{merge_zeros, merge_one}
use Rattle.process_plan.proofs.Members.{truth_low, zero_or_more}
use Rattle.process_plan.proofs.Moving.{IsMove, moves, some_move}
use Rattle.process_plan.proofs.Enabling.{seat_fits, one_of}
use Rattle.process_plan.proofs.Scene.{Scene, W, w_true, w_cell, enable_low, in_written, written_in, tells_low}
use Rattle.process_plan.proofs.Defining.{placed_role}
use Rattle.process_plan.proofs.Jumping.{
  seat,
  done,
  one_done,
  enable_done,
  done_enable,
  return_tells,
  fall_tells,
  seat_by,
  next_by,
  next_on,
  is_returning,
}
use Rattle.process_plan.proofs.Enables.{process_of, place_of}

-- ---- roles

abbrev level_of : Role → ℕ
level_of (Value d) = 0
level_of (Placed k j) = 0
level_of (Stacked k l j) = suc l

pub same_placed : (roles : List Role) (c k j k2 j2 : ℕ) → IsAt roles c (Placed k j) → IsAt roles c (Placed k2 j2)
    → (k2 ≡ k) × (j2 ≡ j)
same_placed roles c k j k2 j2 x y = let e = one_entry roles c (Placed k2 j2) (Placed k j) y x in
    (ap process_of e, ap place_of e)

pub same_stacked : (roles : List Role) (c k l j k2 l2 j2 : ℕ) → IsAt roles c (Stacked k l j)
    → IsAt roles c (Stacked k2 l2 j2) → (k2 ≡ k) × (l2 ≡ l) × (j2 ≡ j)
same_stacked roles c k l j k2 l2 j2 x y =
    let e = one_entry roles c (Stacked k2 l2 j2) (Stacked k l j) y x in
    let h = ap level_of e in
    (ap process_of e, omega (arith, h), ap place_of e)

pub placed_stacked : (roles : List Role) (c k j k2 l2 j2 : ℕ) → IsAt roles c (Placed k j)
    → IsAt roles c (Stacked k2 l2 j2) → ⊥
placed_stacked roles c k j k2 l2 j2 x y = let h = ap level_of (one_entry roles c (Placed k j) (Stacked k2 l2 j2) x y) in
    omega (arith, h)

-- ---- small facts

pub test_of : (n m : ℕ) → truth (n == m) ≡ 1 → n ≡ m
test_of n m h = by_test (n == m) (λ e. eqb-true n m e) (λ e. let z : 0 ≡ 1 = sym (ap truth e) ∙ h in
    absurd (omega (arith, z)))

wrapped_is : (q : Process) (n j : ℕ) → 0 < j → wrapped q n ≡ j → n ≡ j
wrapped_is q n j pos h = pick (nat_lt n (length q.forms)) h
  where
    pick : (b : Bool) → cond b n 0 ≡ j → n ≡ j
    pick true e = e
    pick false e = absurd (omega (arith, e, pos))

pub is_wrapped : (q : Process) (n : ℕ) → n < length q.forms → wrapped q n ≡ n
is_wrapped q n lt = ap (λ b. cond b n 0) (lt-ltb n (length q.forms) lt)

-- bits of which none is 1
merge_none : (vs : List ℕ) (x : ℕ) → Contains vs x → ((y : ℕ) → Contains vs y → y ≤ 1) → (Contains vs 1 → ⊥)
    → merged vs ≡ Some 0
merge_none [] x c low no_one = absurd (nothing_in x c)
merge_none (v ∷ vs) x c low no_one = merge_zeros v vs (λ y cy. is_zero y (low y cy)
    (λ e. no_one (subst (Contains (v ∷ vs)) e cy)))
  where
    is_zero : (y : ℕ) → y ≤ 1 → (y ≡ 1 → ⊥) → y ≡ 0
    is_zero zero le n = refl
    is_zero (suc zero) le n = absurd (n refl)
    is_zero (suc (suc y)) le n = absurd (omega (arith, le))

pub returning : (m : Effect) → is_returning m ≡ true → m ≡ Returns
returning (Writes x v) h = absurd (cc)
returning (Goes l) h = absurd (cc)
returning (Calls l) h = absurd (cc)
returning Returns h = refl

-- where a `go` or `call` lands
lands_own : (v : ℕ → ℕ) (q : Process) (k : FormKind) (j : ℕ) (s : Seat) → LandsAt q k j → (m : Effect)
    × Contains (own_effects v k) m × IsMove m × ((seat_by q s m).place ≡ j)
lands_own v q (Set x at e) j s to = absurd to
lands_own v q (Cond bs) j s to = absurd to
lands_own v q (Par fs) j s to = absurd to
lands_own v q (Go l) j s to = (Goes l, contains_head (Goes l) [], tt, sym to)
lands_own v q (Call l) j s to = (Calls l, contains_head (Calls l) [], tt, sym to)
lands_own v q Return j s to = absurd to

module _ {p : Program} {r : Rtl} {roles : List Role} {enables : List (Option Enable)} {st : State} {inputs env : List ℕ}
    (s : Scene p r roles enables st inputs env)
    (k : ℕ) (q : Process) (at_q : IsAt p.processes k q) where
  abbrev X : ℕ → ℕ
  X e = W s e

  abbrev from_here : Seat
  from_here = seat s k q at_q

  abbrev does : List Effect
  does = done s k q at_q

  -- where the process is next
  abbrev pub to_here : Seat
  to_here = next_seat q from_here does

  one : moves does ≤ 1
  one = one_done s k q at_q

  returned : (u : ℕ) → IsUnionOf p r.exprs enables is_return k u → X u ≡ 1 → Contains does Returns
  returned u union one_u = elim (return_tells s k q at_q u union) [
    | inl (e, (m, c, is)) ↦ subst (Contains does) (returning m is) c
    | inr (e, off) ↦ absurd (omega (arith, e, one_u))
  ]

  -- what is transferred to the cell of a place is a bit, and where it is 1 the process goes there
  planned_place : (c j : ℕ) → IsAt roles c (Placed k j) → (t : Transfer) → IsPlanned p r.exprs roles enables t
      → t.target ≡ c → X t.guard ≡ 1
      → (X t.value ≤ 1) × (X t.value ≡ 1 → to_here.place ≡ j)
  planned_place c j role t (sets f y n at e o a c2 here_y is has role2) target guard =
      absurd (placed_role roles c (index_of p.defs n) k j
      (subst (λ i. IsAt roles i (Value (index_of p.defs n))) target role2) role)
  planned_place c j role t (falls k2 i a e c2 is_a is_e role2) target guard =
      let same = same_placed roles c k j k2 (suc i) role (subst (λ n. IsAt roles n (Placed k2 (suc i))) target role2) in
      let is_a2 : IsPlaceExpr p r.exprs roles k i a = subst (λ n. IsPlaceExpr p r.exprs roles n i a) same.0 is_a in
      let is_e2 : IsFall p r.exprs enables k i a e = subst (λ n. IsFall p r.exprs enables n i a e) same.0 is_e in
      let told = fall_tells s k q at_q i a e is_a2 is_e2 in (
        tells_low (X e) ((from_here.place ≡ i) × (moves does ≡ 0)) told,
        λ one_e. elim told [
          | inl (e1, (on, none)) ↦
              let (x, at_x, (q2, at_q2, pos, lt, is_x)) = (s.plan).cells.each c (Placed k j) role in
              let same_q : q2 ≡ q = one_entry p.processes k q2 q at_q2 at_q in
              let lt2 : j < length q.forms = subst (λ (z : Process). j < length z.forms) same_q lt in
              let n : from_here.place + 1 ≡ j = let e2 = same.1 in omega (arith, on, e2) in
              ap (λ (z : Seat). z.place) (next_on q from_here does none) ∙ ap (wrapped q) n ∙ is_wrapped q j lt2
          | inr (e0, off) ↦ absurd (omega (arith, e0, one_e))
        ],
      )
  planned_place c j role t (lands k2 i j2 f y q2 a c2 at_q2 here_y to has role2) target guard =
      let same = same_placed roles c k j k2 j2 role (subst (λ n. IsAt roles n (Placed k2 j2)) target role2) in
      let has2 : HasEnable enables f (At k i) a = subst (λ n. HasEnable enables f (At n i) a) same.0 has in
      let same_q : q2 ≡ q = one_entry p.processes k q2 q (subst (λ n. IsAt p.processes n q2) same.0 at_q2) at_q in
      let to2 : LandsAt q y.kind j = subst (LandsAt q y.kind) same.1
      (subst (λ (z : Process). LandsAt z y.kind j2) same_q to) in (
        enable_low s f (At k i) a has2,
        λ one_a.
            let (m, own, is, lands_j) = lands_own (from.value_of p env) q y.kind j from_here to2 in
            let c_m = (enable_done s k q at_q f i a y m has2 one_a here_y own).0 in
            ap (λ (z : Seat). z.place) (next_by q from_here does m c_m is one) ∙ lands_j,
      )
  planned_place c j role t (returns k2 j2 u e d2 c2 union at_e from_role role2) target guard =
      let same = same_placed roles c k j k2 j2 role (subst (λ n. IsAt roles n (Placed k2 j2)) target role2) in
      let union2 : IsUnionOf p r.exprs enables is_return k u =
      subst (λ n. IsUnionOf p r.exprs enables is_return n u) same.0 union in
      let from2 : IsAt roles d2 (Stacked k 0 j) = subst (λ n. IsAt roles d2 (Stacked k 0 n)) same.1
      (subst (λ n. IsAt roles d2 (Stacked n 0 j2)) same.0 from_role) in
      let value : X e ≡ truth (slice_index from_here.stack 0 == j) = w_cell s e d2 (Stacked k 0 j) at_e from2 in (
        subst (λ n. n ≤ 1) (sym value) (truth_low (slice_index from_here.stack 0 == j)),
        λ one_e. ap (λ (z : Seat). z.place) (next_by q from_here does Returns (returned u union2 guard) tt one)
            ∙ test_of (slice_index from_here.stack 0) j (sym value ∙ one_e),
      )
  planned_place c j role t (pushes k2 i u a c2 union is_a role2) target guard =
      absurd (placed_stacked roles c k j k2 0 (suc i) role
      (subst (λ n. IsAt roles n (Stacked k2 0 (suc i))) target role2))
  planned_place c j role t (sinks k2 l j2 u e d2 c2 union at_e from_role role2) target guard =
      absurd (placed_stacked roles c k j k2 (suc l) j2 role
      (subst (λ n. IsAt roles n (Stacked k2 (suc l) j2)) target role2))
  planned_place c j role t (rises k2 l j2 u e d2 c2 union at_e from_role role2) target guard =
      absurd (placed_stacked roles c k j k2 l j2 role (subst (λ n. IsAt roles n (Stacked k2 l j2)) target role2))
  planned_place c j role t (empties k2 l j2 u c2 q2 at_q2 depth union role2) target guard =
      absurd (placed_stacked roles c k j k2 l j2 role (subst (λ n. IsAt roles n (Stacked k2 l j2)) target role2))

  filled : (xs : List ℕ) → 0 < slice_index xs 0 → 0 < length xs
  filled [] h = let e : get_or {A = ℕ} [] 0 0 ≡ 0 = get_or_past [] 0 0 (omega arith) in absurd (omega (arith, e, h))
  filled (x ∷ xs) h = omega arith

  put : (c v : ℕ) (t : Transfer) → Contains r.transfers t → t.target ≡ c → X t.guard ≡ 1 → X t.value ≡ v
      → Contains (written X c r.transfers) v
  put c v t ct target guard value = subst (Contains (written X c r.transfers)) value
      (written_in X c r.transfers t ct target guard)

  moved_place : (c j : ℕ) → IsAt roles c (Placed k j) → 0 < j → to_here.place ≡ j
      → (f : ℕ) (y : Form) (a : ℕ) (m : Effect) → IsAt p.forms f y → HasEnable enables f (At k from_here.place) a
      → X a ≡ 1
      → Contains does m → IsMove m → (kind : FormKind) → y.kind ≡ kind
      → Contains (own_effects (from.value_of p env) kind) m → Contains (written X c r.transfers) 1
  moved_place c j role pos next f y a m here_y has one_a cm is (Set x at e) kind own =
      absurd (subst IsMove (sym (only_one (Writes x (from.value_of p env e)) m own)) is)
  moved_place c j role pos next f y a m here_y has one_a cm is (Cond bs) kind own = absurd (nothing_in m own)
  moved_place c j role pos next f y a m here_y has one_a cm is (Par fs) kind own = absurd (nothing_in m own)
  moved_place c j role pos next f y a m here_y has one_a cm is (Go l) kind own =
      let e : Goes l ≡ m = only_one (Goes l) m own in
      let to : place_of_label q q.labels l ≡ j = sym (ap (λ (z : Seat). z.place)
      (next_by q from_here does (Goes l) (subst (Contains does) (sym e) cm) tt one)) ∙ next in
      put c 1 (record { guard = 0; target = c; value = a })
      (((s.plan).transfers).lands k from_here.place j f y q a c at_q here_y
      (subst (λ z. LandsAt q z j) (sym kind) (sym to)) has role)
      refl (w_true s) one_a
  moved_place c j role pos next f y a m here_y has one_a cm is (Call l) kind own =
      let e : Calls l ≡ m = only_one (Calls l) m own in
      let to : place_of_label q q.labels l ≡ j = sym (ap (λ (z : Seat). z.place)
      (next_by q from_here does (Calls l) (subst (Contains does) (sym e) cm) tt one)) ∙ next in
      put c 1 (record { guard = 0; target = c; value = a })
      (((s.plan).transfers).lands k from_here.place j f y q a c at_q here_y
      (subst (λ z. LandsAt q z j) (sym kind) (sym to)) has role)
      refl (w_true s) one_a
  moved_place c j role pos next f y a m here_y has one_a cm is Return kind own =
      let e : Returns ≡ m = only_one Returns m own in
      let cr : Contains does Returns = subst (Contains does) (sym e) cm in
      let to : slice_index from_here.stack 0 ≡ j = sym
      (ap (λ (z : Seat). z.place) (next_by q from_here does Returns cr tt one)) ∙ next in
      let some : 0 < slice_index from_here.stack 0 = omega (arith, to, pos) in
      let is_return_place : IsReturnPlace p q j = subst (IsReturnPlace p q) to (s.stacks k 0 q at_q some) in
      let long = filled from_here.stack some in
      let deep = (seat_fits p st k q s.fits at_q).1 in
      let (d, role_d) = (s.plan).cells.all (Stacked k 0 j) stored_bit
      (q, at_q, omega (arith, long, deep), is_return_place, refl) in
      let has_move : HasMove p enables is_return k = (a, (f, from_here.place, y, here_y, ap is_return kind, has)) in
      let (u, e2, union, at_e, ct) = ((s.plan).transfers).returns k j c d has_move role_d role in
      let one_u : X u ≡ 1 = one_of (X u) ((z : Effect) × Contains does z × (is_returning z ≡ true))
      (return_tells s k q at_q u union) (Returns, cr, refl) in
      put c 1 (record { guard = u; target = c; value = e2 }) ct refl one_u
      (w_cell s e2 d (Stacked k 0 j) at_e role_d ∙ ap truth (eq-eqb (slice_index from_here.stack 0) j to))

  -- what goes on to a place, whatever its value
  fall_written : (c j : ℕ) → IsAt roles c (Placed k j) → 0 < j → (a e i : ℕ) × IsPlaceExpr p r.exprs roles k i a
      × IsFall p r.exprs enables k i a e × (suc i ≡ j) × Contains (written X c r.transfers) (X e)
  fall_written c zero role pos = absurd (omega (arith, pos))
  fall_written c (suc i) role pos =
      let (a, e, is_a, is_e, ct) = ((s.plan).transfers).falls k i c role in
      (a, e, i, is_a, is_e, refl, put c (X e) (record { guard = 0; target = c; value = e }) ct refl (w_true s) refl)

  -- where the process goes to a place, a 1 is transferred to its cell
  place_written : (c j : ℕ) → IsAt roles c (Placed k j) → 0 < j → to_here.place ≡ j
      → Contains (written X c r.transfers) 1
  place_written c j role pos next = elim (zero_or_more (moves does)) [
    | inl none ↦
        let (a, e, i, is_a, is_e, is_j, w) = fall_written c j role pos in
        let n : from_here.place + 1 ≡ j = wrapped_is q (from_here.place + 1) j pos
        (sym (ap (λ (z : Seat). z.place) (next_on q from_here does none)) ∙ next) in
        let on : from_here.place ≡ i = omega (arith, n, is_j) in
        elim (fall_tells s k q at_q i a e is_a is_e) [
          | inl (e1, h) ↦ subst (Contains (written X c r.transfers)) e1 w
          | inr (e0, off) ↦ absurd (off (on, none))
        ]
    | inr more ↦
        let (m, cm, is) = some_move does more in
        let (f, y, a, here_y, has, one_a, own) = done_enable s k q at_q m cm in
        moved_place c j role pos next f y a m here_y has one_a cm is y.kind refl own
  ]

  -- the cell of a place is 1 in the next clock exactly where the process is there
  pub place_next : (c j old : ℕ) → IsAt roles c (Placed k j)
      → unwrap_or (merged (written X c r.transfers)) old ≡ truth (to_here.place == j)
  place_next c j old role =
      let (x, at_x, (q2, at_q2, pos, lt, is_x)) = (s.plan).cells.each c (Placed k j) role in
      let ws = written X c r.transfers in
      let low : (y : ℕ) → Contains ws y → y ≤ 1 = λ y cy.
      let (t, ct, target, guard, value) = in_written X c r.transfers y cy in
      subst (λ n. n ≤ 1) value (planned_place c j role t (((s.plan).transfers).only t ct) target guard).0 in
      let goes : Contains ws 1 → to_here.place ≡ j = λ cy.
      let (t, ct, target, guard, value) = in_written X c r.transfers 1 cy in
      (planned_place c j role t (((s.plan).transfers).only t ct) target guard).1 value in
      by_test (to_here.place == j)
      (λ h. ap (λ m. unwrap_or m old) (merge_one ws low (place_written c j role pos (eqb-true to_here.place j h)))
      ∙ sym (ap truth h))
      (λ h.
      let (a, e, i, is_a, is_e, is_j, w) = fall_written c j role pos in
      ap (λ m. unwrap_or m old) (merge_none ws (X e) w low (λ c1. eqb-false to_here.place j h (goes c1)))
      ∙ sym (ap truth h))
