-- What forms and cells want are the transfers of a program.
use Rattle.std.proofs.Common.{
  ◌≡◌,
  inl,
  inr,
  ◌∙◌,
  ℕ,
  zero,
  suc,
  ◌<◌,
  List,
  [],
  Option,
  Some,
  None,
  refl,
  sym,
  ap,
  subst,
  arith,
  length,
}
use Rattle.std.specs.Prelude.{Contains, MatchOption}
use Rattle.std.proofs.lemmas.Option.{MatchOption-at_some}
use Rattle.mp_base.specs.declared.refusal.Place.{Place}
use Rattle.mp_program.specs.declared.program.FormKind.{FormKind}
use Rattle.mp_program.specs.declared.program.FormKind.TheVariants as forms
use Rattle.mp_program.specs.declared.program.Form.{Form}
use Rattle.mp_program.specs.declared.program.Process.{Process}
use Rattle.mp_program.specs.declared.program.Program.{Program}
use Rattle.mp_program.specs.Names.{index_of}
use Rattle.mp_program.specs.Step.{place_of_label}
use Rattle.mp_base.specs.Entries.{IsAt}
use Rattle.mp_base.proofs.Entries.{one_entry, some_entry, within}
use Rattle.rtl_form.specs.declared.rtl.Cell as cells
use Rattle.rtl_form.specs.declared.rtl.RtlExpr.{RtlExpr}
use Rattle.rtl_form.specs.declared.rtl.RtlExpr.TheVariants.{Cell}
use Rattle.rtl_form.specs.declared.rtl.Transfer.{Transfer}
use Rattle.process_plan.specs.declared.role.Role.{Role}
use Rattle.process_plan.specs.declared.role.Role.TheVariants.{Value, Placed, Stacked}
use Rattle.process_plan.specs.declared.enable.Enable.{Enable}
use Rattle.process_plan.specs.declared.enable.Origin.{Origin}
use Rattle.process_plan.specs.declared.enable.Origin.TheVariants.{At}
use Rattle.process_plan.specs.Roles.{AreCells}
use Rattle.process_plan.specs.Enables.{HasEnable, IsPlaceExpr, copy_of}
use Rattle.process_plan.specs.Plan.{
  is_call,
  is_return,
  HasMove,
  IsUnionOf,
  IsFall,
  LandsAt,
  IsPlanned,
  sets,
  falls,
  lands,
  returns,
  pushes,
  sinks,
  rises,
  empties,
  AreTransfers,
}
use Rattle.process_jumps.specs.declared.jumps.Jumps.{Jumps}
use Rattle.process_transfers.specs.declared.roles.Control.{Control}
use Rattle.process_transfers.specs.declared.roles.Motion.{Motion}
use Rattle.process_transfers.specs.declared.roles.Motion.TheVariants.{Fall, Push, Pop, Back}
use Rattle.process_jumps.specs.Jumps.{IsJumps, IsFallAt}
use Rattle.process_transfers.specs.Control.{IsReading, IsControl}
use Rattle.process_transfers.specs.Wants.{
  Serves,
  LandWants,
  FormWants,
  WantsAt,
  PushWants,
  PopWants,
  RoleWants,
  CellWants,
}

none_is_not : {X : Type 0} (o : Option X) (A : Type 0) (B : X → Type 0) → (A → ⊥) → MatchOption o A B
    → (x : X) × (o ≡ Some x)
none_is_not None A B not h = absurd (not h)
none_is_not (Some x) A B not h = (x, refl)

-- the transfer by which a move lands
abbrev landed_at : ℕ → ℕ → Transfer
landed_at c a = record { guard = 0; target = c; value = a }

has_own : (enables : List (Option Enable)) (f : ℕ) (x : Enable) → IsAt enables f (Some x)
    → HasEnable enables f x.origin x.expr
has_own enables f x at = at

-- what transfers of processes are made of, and what it means
pub record IsMeant (p : Program) (roles : List Role) (xs : List cells.Cell) (enables : List (Option Enable))
    (exprs : List RtlExpr) (x : Control) : Type 0 where
  pub control : IsControl p roles xs x
  pub jumps : (k : ℕ) (q : Process) (m : Jumps) → IsAt p.processes k q → IsAt x.jumps k m
      → IsJumps p exprs roles enables k q m
  pub reads : (c e : ℕ) (s : Role) → IsAt roles c s → IsAt x.readings c e → IsReading exprs s c e
  pub places : (k i a : ℕ) (es : List ℕ) → IsAt x.places k es → IsAt es i a → IsPlaceExpr p exprs roles k i a

module _ (p : Program) (roles : List Role) (xs : List cells.Cell) (enables : List (Option Enable)) (exprs : List
    RtlExpr)
    (x : Control) (meant : IsMeant p roles xs enables exprs x) where
  abbrev control : IsControl p roles xs x
  control = meant.control

  abbrev are : AreCells p roles xs
  are = control.cells

  abbrev Planned : Transfer → Type 0
  Planned t = IsPlanned p exprs roles enables t

  placed_in : (c k j : ℕ) → IsAt roles c (Placed k j) → (q : Process) × IsAt p.processes k q × (0 < j)
      × (j < length q.forms)
  placed_in c k j at = let (z, at_z, (q, at_q, pos, lt, is)) = are.each c (Placed k j) at in (q, at_q, pos, lt)

  stacked_in : (c k l j : ℕ) → IsAt roles c (Stacked k l j) → (q : Process) × IsAt p.processes k q × (l < q.depth)
      × (0 < j) × (j < length q.forms)
  stacked_in c k l j at =
      let (z, at_z, (q, at_q, lt, place, is)) = are.each c (Stacked k l j) at in (q, at_q, lt, place.0, place.1)

  calls_of : (k u : ℕ) (q : Process) (m : Jumps) → IsAt p.processes k q → IsAt x.jumps k m → m.calls ≡ Some u
      → IsUnionOf p exprs enables is_call k u
  calls_of k u q m at_q at_m some =
      MatchOption-at_some (HasMove p enables is_call k → ⊥) (IsUnionOf p exprs enables is_call k) u
      some (meant.jumps k q m at_q at_m).calls

  returns_of : (k u : ℕ) (q : Process) (m : Jumps) → IsAt p.processes k q → IsAt x.jumps k m → m.returns ≡ Some u
      → IsUnionOf p exprs enables is_return k u
  returns_of k u q m at_q at_m some =
      MatchOption-at_some (HasMove p enables is_return k → ⊥) (IsUnionOf p exprs enables is_return k) u
      some (meant.jumps k q m at_q at_m).returns

  -- ---- what is wanted is planned

  pub form_planned : (f : ℕ) (t : Transfer) → WantsAt p roles enables f t → Planned t
  form_planned f t (y, None, at_y, at_e, wants) = absurd wants
  form_planned f t (y, Some e, at_y, at_e, wants) = of_kind y.kind refl wants
    where
      landed : (l : List ℕ) → ((q : Process) → LandsAt q y.kind (place_of_label q q.labels l)) → LandWants p roles l e t
          → Planned t
      landed l at_label (k, i, c, q, origin, at_q, at_c, is) =
          let has : HasEnable enables f (At k i) e.expr =
          subst (λ o. HasEnable enables f o e.expr) origin (has_own enables f e at_e) in
          subst Planned (sym is) (lands k i (place_of_label q q.labels l) f y q e.expr c at_q at_y (at_label q) has
          at_c)

      of_kind : (kind : FormKind) → y.kind ≡ kind → FormWants p roles kind (Some e) t → Planned t
      of_kind (forms.Set n place v) kind (c, at_c, is) =
          subst Planned (sym is) (sets f y n place v e.origin e.expr c at_y kind (has_own enables f e at_e) at_c)
      of_kind (forms.Go l) kind wants =
          landed l (λ q. subst (λ z. LandsAt q z (place_of_label q q.labels l)) (sym kind) refl) wants
      of_kind (forms.Call l) kind wants =
          landed l (λ q. subst (λ z. LandsAt q z (place_of_label q q.labels l)) (sym kind) refl) wants
      of_kind forms.Return kind wants = absurd wants
      of_kind (forms.Cond bs) kind wants = absurd wants
      of_kind (forms.Par fs) kind wants = absurd wants

  push_planned : (c k l j : ℕ) (t : Transfer) → IsAt roles c (Stacked k l j) → PushWants roles x c k l j t → Planned t
  push_planned c k zero j t at (m, u, v, at_m, some, (es, i, at_es, same, at_v), is) =
      let (q, at_q, lt, pos, inside) = stacked_in c k 0 j at in
      subst Planned (sym is) (pushes k i u v c (calls_of k u q m at_q at_m some) (meant.places k i v es at_es at_v)
      (subst (λ n. IsAt roles c (Stacked k 0 n)) same at))
  push_planned c k (suc l) j t at (m, u, v, at_m, some, (d, at_d, at_v), is) =
      let (q, at_q, lt, pos, inside) = stacked_in c k (suc l) j at in
      subst Planned (sym is) (sinks k l j u v d c (calls_of k u q m at_q at_m some)
      (meant.reads d v (Stacked k l j) at_d at_v k l j refl) at_d at)

  pop_planned : (c k l j : ℕ) (t : Transfer) → IsAt roles c (Stacked k l j) → PopWants p roles x c k l j t → Planned t
  pop_planned c k l j t at (m, u, v, at_m, some, (q, at_q, inl (depth, one)), is) =
      subst Planned (sym (is ∙ ap (λ n. record { guard = u; target = c; value = n }) one))
      (empties k l j u c q at_q depth (returns_of k u q m at_q at_m some) at)
  pop_planned c k l j t at (m, u, v, at_m, some, (q, at_q, inr (other, (d, at_d, at_v))), is) =
      subst Planned (sym is) (rises k l j u v d c (returns_of k u q m at_q at_m some)
      (meant.reads d v (Stacked k (suc l) j) at_d at_v k (suc l) j refl) at_d at)

  role_planned : (w : Motion) (c : ℕ) (s : Role) (t : Transfer) → IsAt roles c s → RoleWants p roles x w c s t
      → Planned t
  role_planned Fall c (Value d) t at wants = absurd wants
  role_planned Push c (Value d) t at wants = absurd wants
  role_planned Pop c (Value d) t at wants = absurd wants
  role_planned Back c (Value d) t at wants = absurd wants
  role_planned Fall c (Placed k j) t at (m, i, e, same, at_m, at_e, is) =
      let (q, at_q, pos, lt) = placed_in c k j at in
      let (a, place, fall) = (meant.jumps k q m at_q at_m).falls i e at_e in
      subst Planned (sym is) (falls k i a e c place fall (subst (λ n. IsAt roles c (Placed k n)) same at))
  role_planned Push c (Placed k j) t at wants = absurd wants
  role_planned Pop c (Placed k j) t at wants = absurd wants
  role_planned Back c (Placed k j) t at wants = absurd wants
  role_planned Fall c (Stacked k l j) t at wants = absurd wants
  role_planned Push c (Stacked k l j) t at wants = push_planned c k l j t at wants
  role_planned Pop c (Stacked k l j) t at wants = pop_planned c k l j t at wants
  role_planned Back c (Stacked k zero j) t at (m, u, v, d, at_m, some, at_d, at_v, is) =
      let (q, at_q, lt, pos, inside) = stacked_in c k 0 j at in
      subst Planned (sym is) (returns k j u v c d (returns_of k u q m at_q at_m some)
      (meant.reads c v (Stacked k 0 j) at at_v k 0 j refl) at at_d)
  role_planned Back c (Stacked k (suc l) j) t at wants = absurd wants

  pub cell_planned : (w : Motion) (c : ℕ) (t : Transfer) → CellWants p roles x w c t → Planned t
  cell_planned w c t (s, at, wants) = role_planned w c s t at wants

  -- ---- what is planned is there

  -- the jumps of a process
  jumps_at : (k : ℕ) (q : Process) → IsAt p.processes k q → (m : Jumps) × IsAt x.jumps k m
  jumps_at k q at =
      let inside = within p.processes k at in
      let long = control.jumps in some_entry x.jumps k (omega (arith, inside, long))

  some_calls : (k : ℕ) (q : Process) (m : Jumps) → IsAt p.processes k q → IsAt x.jumps k m → HasMove p enables is_call k
      → (u : ℕ) × (m.calls ≡ Some u)
  some_calls k q m at_q at_m moves = none_is_not m.calls (HasMove p enables is_call k → ⊥)
      (IsUnionOf p exprs enables is_call k) (λ none. none moves) (meant.jumps k q m at_q at_m).calls

  some_returns : (k : ℕ) (q : Process) (m : Jumps) → IsAt p.processes k q → IsAt x.jumps k m
      → HasMove p enables is_return k → (u : ℕ) × (m.returns ≡ Some u)
  some_returns k q m at_q at_m moves = none_is_not m.returns (HasMove p enables is_return k → ⊥)
      (IsUnionOf p exprs enables is_return k) (λ none. none moves) (meant.jumps k q m at_q at_m).returns

  reading_at : (c : ℕ) (s : Role) → IsAt roles c s → (v : ℕ) × IsAt x.readings c v
  reading_at c s at =
      let inside = within roles c at in
      let long = control.readings in some_entry x.readings c (omega (arith, inside, long))

  role_wanted : (w : Motion) (c : ℕ) (s : Role) (t : Transfer) → IsAt roles c s → CellWants p roles x w c t
      → RoleWants p roles x w c s t
  role_wanted w c s t at (s2, at2, wants) =
      subst (λ z. RoleWants p roles x w c z t) (one_entry roles c s2 s at2 at) wants

  module _ (old now : List Transfer) where
    pub falls_there : Serves (CellWants p roles x Fall) (length roles) old now → (k i c : ℕ)
        → IsAt roles c (Placed k (suc i)) → (a e : ℕ) × IsPlaceExpr p exprs roles k i a
        × IsFall p exprs enables k i a e × Contains now (record { guard = 0; target = c; value = e })
    falls_there serves k i c at =
        let (q, at_q, pos, lt) = placed_in c k (suc i) at in
        let (m, at_m) = jumps_at k q at_q in
        let long = control.falls k q m at_q at_m in
        let (e, at_e) = some_entry m.falls i (omega (arith, lt, long)) in
        let (u, wanted, there) = serves.each c (record { guard = 0; target = c; value = e }) (within roles c at)
        (Placed k (suc i), at, (m, i, e, refl, at_m, at_e, refl)) in
        let (m2, i2, e2, same, at_m2, at_e2, is) = role_wanted Fall c (Placed k (suc i)) u at wanted in
        let back : i2 ≡ i = omega (arith, same) in
        let (a, place, fall) = subst (λ n. IsFallAt p exprs roles enables k n e2) back
        ((meant.jumps k q m2 at_q at_m2).falls i2 e2 at_e2) in (a, e2, place, fall, subst (Contains now) is there)

    pub pushes_there : Serves (CellWants p roles x Push) (length roles) old now → (k i c : ℕ)
        → HasMove p enables is_call k → IsAt roles c (Stacked k 0 (suc i))
        → (u a : ℕ) × IsUnionOf p exprs enables is_call k u × IsPlaceExpr p exprs roles k i a
        × Contains now (record { guard = u; target = c; value = a })
    pushes_there serves k i c moves at =
        let (q, at_q, lt, pos, inside) = stacked_in c k 0 (suc i) at in
        let (m, at_m) = jumps_at k q at_q in
        let (u, some) = some_calls k q m at_q at_m moves in
        let in_k = within p.processes k at_q in
        let long = control.places in
        let (es, at_es) = some_entry x.places k (omega (arith, in_k, long)) in
        let size = control.sizes k q es at_q at_es in
        let (v, at_v) = some_entry es i (omega (arith, inside, size)) in
        let (t, wanted, there) = serves.each c (record { guard = u; target = c; value = v }) (within roles c at)
        (Stacked k 0 (suc i), at, (m, u, v, at_m, some, (es, i, at_es, refl, at_v), refl)) in
        let (m2, u2, v2, at_m2, some2, (es2, i2, at_es2, same, at_v2), is) =
        role_wanted Push c (Stacked k 0 (suc i)) t at wanted in
        let back : i2 ≡ i = omega (arith, same) in (
          u2,
          v2,
          calls_of k u2 q m2 at_q at_m2 some2,
          subst (λ n. IsPlaceExpr p exprs roles k n v2) back (meant.places k i2 v2 es2 at_es2 at_v2),
          subst (Contains now) is there,
        )

    pub sinks_there : Serves (CellWants p roles x Push) (length roles) old now → (k l j c d : ℕ)
        → HasMove p enables is_call k → IsAt roles d (Stacked k l j) → IsAt roles c (Stacked k (suc l) j)
        → (u e : ℕ) × IsUnionOf p exprs enables is_call k u × IsAt exprs e (Cell d)
        × Contains now (record { guard = u; target = c; value = e })
    sinks_there serves k l j c d moves at_d at =
        let (q, at_q, lt, pos, inside) = stacked_in c k (suc l) j at in
        let (m, at_m) = jumps_at k q at_q in
        let (u, some) = some_calls k q m at_q at_m moves in
        let (v, at_v) = reading_at d (Stacked k l j) at_d in
        let (t, wanted, there) = serves.each c (record { guard = u; target = c; value = v }) (within roles c at)
        (Stacked k (suc l) j, at, (m, u, v, at_m, some, (d, at_d, at_v), refl)) in
        let (m2, u2, v2, at_m2, some2, (d2, at_d2, at_v2), is) =
        role_wanted Push c (Stacked k (suc l) j) t at wanted in
        let same : d2 ≡ d = are.once d2 d (Stacked k l j) at_d2 at_d in (
          u2,
          v2,
          calls_of k u2 q m2 at_q at_m2 some2,
          subst (λ n. IsAt exprs v2 (Cell n)) same (meant.reads d2 v2 (Stacked k l j) at_d2 at_v2 k l j refl),
          subst (Contains now) is there,
        )

    pub rises_there : Serves (CellWants p roles x Pop) (length roles) old now → (k l j c d : ℕ)
        → HasMove p enables is_return k → IsAt roles d (Stacked k (suc l) j) → IsAt roles c (Stacked k l j)
        → (u e : ℕ) × IsUnionOf p exprs enables is_return k u × IsAt exprs e (Cell d)
        × Contains now (record { guard = u; target = c; value = e })
    rises_there serves k l j c d moves at_d at =
        let (q, at_q, deep, pos, inside) = stacked_in d k (suc l) j at_d in
        let (m, at_m) = jumps_at k q at_q in
        let (u, some) = some_returns k q m at_q at_m moves in
        let (v, at_v) = reading_at d (Stacked k (suc l) j) at_d in
        let other : (z : Process) → IsAt p.processes k z → z.depth ≡ suc l → ⊥ = λ z at_z e.
        let same : q.depth ≡ z.depth = ap (λ (r : Process). r.depth) (one_entry p.processes k q z at_q at_z) in
        absurd (omega (arith, deep, same, e)) in
        let (t, wanted, there) = serves.each c (record { guard = u; target = c; value = v }) (within roles c at)
        (Stacked k l j, at, (m, u, v, at_m, some, (q, at_q, inr (other q at_q, (d, at_d, at_v))), refl)) in
        let (m2, u2, v2, at_m2, some2, (q2, at_q2, popped), is) = role_wanted Pop c (Stacked k l j) t at wanted in
        let reads : IsAt exprs v2 (Cell d) = elim popped as (λ _. IsAt exprs v2 (Cell d)) [
          | inl (depth, one) ↦ absurd (other q2 at_q2 depth)
          | inr (ne, (d2, at_d2, at_v2)) ↦
              subst (λ n. IsAt exprs v2 (Cell n)) (are.once d2 d (Stacked k (suc l) j) at_d2 at_d)
              (meant.reads d2 v2 (Stacked k (suc l) j) at_d2 at_v2 k (suc l) j refl)
        ] in (u2, v2, returns_of k u2 q m2 at_q at_m2 some2, reads, subst (Contains now) is there)

    pub empties_there : Serves (CellWants p roles x Pop) (length roles) old now → (k l j c : ℕ) (q : Process)
        → IsAt p.processes k q → q.depth ≡ suc l → HasMove p enables is_return k → IsAt roles c (Stacked k l j)
        → (u : ℕ) × IsUnionOf p exprs enables is_return k u
        × Contains now (record { guard = u; target = c; value = 1 })
    empties_there serves k l j c q at_q depth moves at =
        let (m, at_m) = jumps_at k q at_q in
        let (u, some) = some_returns k q m at_q at_m moves in
        let (t, wanted, there) = serves.each c (record { guard = u; target = c; value = 1 }) (within roles c at)
        (Stacked k l j, at, (m, u, 1, at_m, some, (q, at_q, inl (depth, refl)), refl)) in
        let (m2, u2, v2, at_m2, some2, (q2, at_q2, popped), is) = role_wanted Pop c (Stacked k l j) t at wanted in
        let one : v2 ≡ 1 = elim popped as (λ _. v2 ≡ 1) [
          | inl (depth2, one2) ↦ one2
          | inr (ne, read) ↦
              absurd (ne (subst (λ (z : Process). z.depth ≡ suc l) (one_entry p.processes k q q2 at_q at_q2) depth))
        ] in (
          u2,
          returns_of k u2 q m2 at_q at_m2 some2,
          subst (Contains now) (is ∙ ap (λ n. record { guard = u2; target = c; value = n }) one) there,
        )

    pub returns_there : Serves (CellWants p roles x Back) (length roles) old now → (k j c d : ℕ)
        → HasMove p enables is_return k → IsAt roles d (Stacked k 0 j) → IsAt roles c (Placed k j)
        → (u e : ℕ) × IsUnionOf p exprs enables is_return k u × IsAt exprs e (Cell d)
        × Contains now (record { guard = u; target = c; value = e })
    returns_there serves k j c d moves at_d at =
        let (q, at_q, lt, pos, inside) = stacked_in d k 0 j at_d in
        let (m, at_m) = jumps_at k q at_q in
        let (u, some) = some_returns k q m at_q at_m moves in
        let (v, at_v) = reading_at d (Stacked k 0 j) at_d in
        let (t, wanted, there) = serves.each d (record { guard = u; target = c; value = v }) (within roles d at_d)
        (Stacked k 0 j, at_d, (m, u, v, c, at_m, some, at, at_v, refl)) in
        let (m2, u2, v2, c2, at_m2, some2, at_c2, at_v2, is) = role_wanted Back d (Stacked k 0 j) t at_d wanted in
        let same : c2 ≡ c = are.once c2 c (Placed k j) at_c2 at in (
          u2,
          v2,
          returns_of k u2 q m2 at_q at_m2 some2,
          meant.reads d v2 (Stacked k 0 j) at_d at_v2 k 0 j refl,
          subst (Contains now) (is ∙ ap (λ n. record { guard = u2; target = n; value = v2 }) same) there,
        )

    form_wanted : (f : ℕ) (y : Form) (o : Origin) (a : ℕ) (t : Transfer) → IsAt p.forms f y → HasEnable enables f o a
        → WantsAt p roles enables f t → FormWants p roles y.kind (Some (record { origin = o; expr = a })) t
    form_wanted f y o a t at_y has (y2, e2, at_y2, at_e2, wants) =
        subst (λ (z : Form). FormWants p roles z.kind (Some (record { origin = o; expr = a })) t)
        (one_entry p.forms f y2 y at_y2 at_y)
        (subst (λ e. FormWants p roles y2.kind e t)
        (one_entry enables f e2 (Some (record { origin = o; expr = a })) at_e2 has) wants)

    pub sets_there : Serves (WantsAt p roles enables) (length p.forms) old now → (f : ℕ) (y : Form) (n : List ℕ)
        (at : Place) (e : ℕ) (o : Origin) (a c : ℕ) → IsAt p.forms f y → y.kind ≡ forms.Set n at e
        → HasEnable enables f o a → IsAt roles c (Value (index_of p.defs n))
        → Contains now (record { guard = a; target = c; value = copy_of p e })
    sets_there serves f y n at e o a c at_y kind has at_c =
        let w : Transfer = record { guard = a; target = c; value = copy_of p e } in
        let wants : FormWants p roles y.kind (Some (record { origin = o; expr = a })) w =
        subst (λ z. FormWants p roles z (Some (record { origin = o; expr = a })) w) (sym kind) (c, at_c, refl) in
        let (t, wanted, there) = serves.each f w (within p.forms f at_y)
        (y, Some (record { origin = o; expr = a }), at_y, has, wants) in
        let (c2, at_c2, is) = subst (λ z. FormWants p roles z (Some (record { origin = o; expr = a })) t) kind
        (form_wanted f y o a t at_y has wanted) in
        let same : c2 ≡ c = are.once c2 c (Value (index_of p.defs n)) at_c2 at_c in
        subst (Contains now) (is ∙ ap (λ i. record { guard = a; target = i; value = copy_of p e }) same) there

    pub lands_there : Serves (WantsAt p roles enables) (length p.forms) old now → (k i j f : ℕ) (y : Form) (q : Process)
        (a c : ℕ) → IsAt p.processes k q → IsAt p.forms f y → LandsAt q y.kind j → HasEnable enables f (At k i) a
        → IsAt roles c (Placed k j) → Contains now (record { guard = 0; target = c; value = a })
    lands_there serves k i j f y q a c at_q at_y lands_at has at_c = of_kind y.kind refl lands_at
      where
        same_place : (l : List ℕ) (t : Transfer) → j ≡ place_of_label q q.labels l
            → LandWants p roles l (record { origin = At k i; expr = a }) t → t ≡ (landed_at c a)
        same_place l t label (k2, i2, c2, q2, origin, at_q2, at_c2, is) =
            let same_k : k2 ≡ k = cc in
            let at_k : IsAt p.processes k q2 = subst (λ n. IsAt p.processes n q2) same_k at_q2 in
            let same_q : q2 ≡ q = one_entry p.processes k q2 q at_k at_q in
            let to : place_of_label q2 q2.labels l ≡ j =
            ap (λ (z : Process). place_of_label z z.labels l) same_q ∙ sym label in
            let there : IsAt roles c2 (Placed k j) =
            subst (λ n. IsAt roles c2 (Placed k n)) to
            (subst (λ n. IsAt roles c2 (Placed n (place_of_label q2 q2.labels l))) same_k at_c2) in
            is ∙ ap (λ n. record { guard = 0; target = n; value = a }) (are.once c2 c (Placed k j) there at_c)

        landed : (l : List ℕ) → j ≡ place_of_label q q.labels l
            → ((t : Transfer) → LandWants p roles l (record { origin = At k i; expr = a }) t
            → FormWants p roles y.kind (Some (record { origin = At k i; expr = a })) t)
            → ((t : Transfer) → FormWants p roles y.kind (Some (record { origin = At k i; expr = a })) t
            → LandWants p roles l (record { origin = At k i; expr = a }) t)
            → Contains now (landed_at c a)
        landed l label forth back =
            let wants : LandWants p roles l (record { origin = At k i; expr = a }) (landed_at c a) =
            (k, i, c, q, refl, at_q, subst (λ n. IsAt roles c (Placed k n)) label at_c, refl) in
            let (t, wanted, there) = serves.each f (landed_at c a) (within p.forms f at_y)
            (y, Some (record { origin = At k i; expr = a }), at_y, has, forth (landed_at c a) wants) in
            subst (Contains now)
            (same_place l t label (back t (form_wanted f y (At k i) a t at_y has wanted))) there

        of_kind : (kind : FormKind) → y.kind ≡ kind → LandsAt q kind j → Contains now (landed_at c a)
        of_kind (forms.Go l) kind label = landed l label
            (λ t h. subst (λ z. FormWants p roles z (Some (record { origin = At k i; expr = a })) t) (sym kind) h)
            (λ t h. subst (λ z. FormWants p roles z (Some (record { origin = At k i; expr = a })) t) kind h)
        of_kind (forms.Call l) kind label = landed l label
            (λ t h. subst (λ z. FormWants p roles z (Some (record { origin = At k i; expr = a })) t) (sym kind) h)
            (λ t h. subst (λ z. FormWants p roles z (Some (record { origin = At k i; expr = a })) t) kind h)
        of_kind forms.Return kind label = absurd label
        of_kind (forms.Set n at e) kind label = absurd label
        of_kind (forms.Cond bs) kind label = absurd label
        of_kind (forms.Par fs) kind label = absurd label

  -- all that is wanted is all that is planned
  pub all_transfers : (a b c d e : List Transfer)
      → Serves (WantsAt p roles enables) (length p.forms) [] a
      → Serves (CellWants p roles x Fall) (length roles) a b → Serves (CellWants p roles x Push) (length roles) b c
      → Serves (CellWants p roles x Pop) (length roles) c d → Serves (CellWants p roles x Back) (length roles) d e
      → AreTransfers p exprs roles enables e
  all_transfers a b c d e set fall push pop back = record {
    only = λ t there. elim (back.only t there) as (λ _. Planned t) [
      | inr (i, lt, wants) ↦ cell_planned Back i t wants
      | inl in_d ↦ elim (pop.only t in_d) as (λ _. Planned t) [
        | inr (i, lt, wants) ↦ cell_planned Pop i t wants
        | inl in_c ↦ elim (push.only t in_c) as (λ _. Planned t) [
          | inr (i, lt, wants) ↦ cell_planned Push i t wants
          | inl in_b ↦ elim (fall.only t in_b) as (λ _. Planned t) [
            | inr (i, lt, wants) ↦ cell_planned Fall i t wants
            | inl in_a ↦ elim (set.only t in_a) as (λ _. Planned t) [
              | inr (i, lt, wants) ↦ form_planned i t wants
              | inl (i, lt, is) ↦ absurd (omega (arith, lt))
            ]
          ]
        ]
      ]
    ];
    sets = λ f y n at v o g z at_y kind has at_z.
        from_a (record { guard = g; target = z; value = copy_of p v })
        (sets_there [] a set f y n at v o g z at_y kind has at_z);
    falls = λ k i z at_z.
        let (g, v, place, fell, there) = falls_there a b fall k i z at_z in
        (g, v, place, fell, from_b (record { guard = 0; target = z; value = v }) there);
    lands = λ k i j f y q g z at_q at_y lands_at has at_z.
        from_a (record { guard = 0; target = z; value = g })
        (lands_there [] a set k i j f y q g z at_q at_y lands_at has at_z);
    returns = λ k j z w moves at_w at_z. returns_there d e back k j z w moves at_w at_z;
    pushes = λ k i z moves at_z.
        let (u, v, union, place, there) = pushes_there b c push k i z moves at_z in
        (u, v, union, place, from_c (record { guard = u; target = z; value = v }) there);
    sinks = λ k l j z w moves at_w at_z.
        let (u, v, union, reads, there) = sinks_there b c push k l j z w moves at_w at_z in
        (u, v, union, reads, from_c (record { guard = u; target = z; value = v }) there);
    rises = λ k l j z w moves at_w at_z.
        let (u, v, union, reads, there) = rises_there c d pop k l j z w moves at_w at_z in
        (u, v, union, reads, back.kept (record { guard = u; target = z; value = v }) there);
    empties = λ k l j z q at_q depth moves at_z.
        let (u, union, there) = empties_there c d pop k l j z q at_q depth moves at_z in
        (u, union, back.kept (record { guard = u; target = z; value = 1 }) there);
  }
    where
      from_c : (t : Transfer) → Contains c t → Contains e t
      from_c t h = back.kept t (pop.kept t h)

      from_b : (t : Transfer) → Contains b t → Contains e t
      from_b t h = from_c t (push.kept t h)

      from_a : (t : Transfer) → Contains a t → Contains e t
      from_a t h = from_b t (fall.kept t h)
