-- A clock of a program, and transfers that follow a plan of it.
use Rattle.std.proofs.Common.{
  ◌≡◌,
  inl,
  inr,
  ◌∙◌,
  ℕ,
  ◌<◌,
  ◌≤◌,
  List,
  [],
  ◌∷◌,
  Bool,
  true,
  false,
  cond,
  Option,
  sym,
  ap,
  subst,
  arith,
}
use Rattle.std.specs.Prelude.{Contains, ◌==◌, ◌&&◌, slice_index}
use Rattle.std.specs.List.{list_all}
use Rattle.std.proofs.lemmas.Bool.{eqb-true, eq-eqb, and_parts}
use Rattle.mp_base.specs.Apply.{truth}
use Rattle.mp_base.specs.declared.op.Op.TheVariants.{And}
use Rattle.mp_base.proofs.Contents.{contains_head, contains_behind, nothing_in}
use Rattle.mp_base.proofs.Induction.{by_test, upward}
use Rattle.mp_program.specs.declared.program.FormKind.{FormKind}
use Rattle.mp_program.specs.declared.program.FormKind.TheVariants.{Set, Cond, Par, Go, Call, Return}
use Rattle.mp_program.specs.declared.program.Branch.{Branch}
use Rattle.mp_program.specs.declared.program.Process.{Process}
use Rattle.mp_program.specs.declared.program.Program.{Program}
use Rattle.mp_program.specs.State.{State, Seat, IsState}
use Rattle.mp_program.specs.Environment.{IsEnvironment}
use Rattle.mp_base.specs.Entries.{IsAt}
use Rattle.mp_rules.specs.Naming.{OwnNames}
use Rattle.rtl_form.specs.declared.rtl.Rtl.{Rtl}
use Rattle.rtl_form.specs.declared.rtl.RtlExpr.{RtlExpr}
use Rattle.rtl_form.specs.declared.rtl.RtlExpr.TheVariants.{Cell, Apply}
use Rattle.rtl_form.specs.declared.rtl.Transfer.{Transfer}
use Rattle.rtl_form.specs.Values.{expr_value, value_of}
use Rattle.rtl_form.specs.Written.{writes, written}
use Rattle.process_plan.specs.Lawful.{Known, MovesOnce}
use Rattle.process_plan.specs.Roles.{Role, seat_at, role_value, cell_values, IsReturnPlace}
use Rattle.process_plan.specs.Active.{Origin, IsOn, IsActive}
use Rattle.process_plan.specs.Enables.{
  Enable,
  HasEnable,
  copy_of,
  BranchEnables,
  InnerEnables,
  StandsInside,
  IsPlaceExpr,
  IsOriginExpr,
}
use Rattle.process_plan.specs.Plan.{FollowsPlan}
use Rattle.process_plan.proofs.Members.{cases_of, truth_low}
use Rattle.process_plan.proofs.Copying.{Valued, value_true, value_false, value_cell}
use Rattle.process_plan.proofs.Enabling.{GuardsAreBits, Tells, active_forth, active_back, place_tells, origin_tells}
use Rattle.process_plan.proofs.Enables.{one_enable}

-- each entry of a stack is 0 or a place to which a call returns
abbrev pub StacksFit : Program → List Seat → Type 0
StacksFit p seats = (k l : ℕ) (q : Process) → IsAt p.processes k q → 0 < slice_index (seat_at seats k).stack l
    → IsReturnPlace p q (slice_index (seat_at seats k).stack l)

pub record Scene (p : Program) (r : Rtl) (roles : List Role) (enables : List (Option Enable)) (st : State)
    (inputs env : List ℕ) : Type 0 where
  pub known : Known p
  pub valued : Valued r
  pub plan : FollowsPlan p r roles enables
  pub clock : IsEnvironment p st inputs env
  pub fits : IsState p st
  pub bits : GuardsAreBits p env
  pub names : OwnNames p
  pub single : MovesOnce p
  pub stacks : StacksFit p st.seats

-- ---- what transfers write

abbrev pub WrittenBy : (ℕ → ℕ) → ℕ → List Transfer → ℕ → Type 0
WrittenBy v c ts w = (t : Transfer) × Contains ts t × (t.target ≡ c) × (v t.guard ≡ 1) × (v t.value ≡ w)

pub in_written : (v : ℕ → ℕ) (c : ℕ) (ts : List Transfer) (w : ℕ) → Contains (written v c ts) w → WrittenBy v c ts w
in_written v c [] w h = absurd (nothing_in w h)
in_written v c (t ∷ ts) w h = by_test (writes v c t)
    (λ e.
    let parts = and_parts (t.target == c) (v t.guard == 1) e in
    let h2 : Contains (v t.value ∷ written v c ts) w =
    subst (λ b. Contains (cond b (v t.value ∷ written v c ts) (written v c ts)) w) e h in
    elim (cases_of w (v t.value) (written v c ts) h2) as (λ _. WrittenBy v c (t ∷ ts) w) [
      | inl is ↦ (t, contains_head t ts, eqb-true t.target c parts.0, eqb-true (v t.guard) 1 parts.1, is)
      | inr more ↦ let (u, cu, a, b, d) = in_written v c ts w more in (u, contains_behind u t ts cu, a, b, d)
    ])
    (λ e. let (u, cu, a, b, d) = in_written v c ts w (subst
    (λ b. Contains (cond b (v t.value ∷ written v c ts) (written v c ts)) w) e h) in
    (u, contains_behind u t ts cu, a, b, d))

pub written_in : (v : ℕ → ℕ) (c : ℕ) (ts : List Transfer) (t : Transfer) → Contains ts t → t.target ≡ c
    → v t.guard ≡ 1 → Contains (written v c ts) (v t.value)
written_in v c [] t h target guard = absurd (nothing_in t h)
written_in v c (u ∷ ts) t h target guard = elim (cases_of t u ts h) [
  | inl is ↦
      let test : writes v c u ≡ true = ap (writes v c) is
      ∙ ap (λ b. b && (v t.guard == 1)) (eq-eqb t.target c target) ∙ eq-eqb (v t.guard) 1 guard in
      subst (λ b. Contains (cond b (v u.value ∷ written v c ts) (written v c ts)) (v t.value)) (sym test)
      (subst (λ (z : Transfer). Contains (v u.value ∷ written v c ts) (v z.value)) is
      (contains_head (v u.value) (written v c ts)))
  | inr more ↦ pick (writes v c u) (written_in v c ts t more target guard)
]
  where
    pick : (b : Bool) → Contains (written v c ts) (v t.value)
        → Contains (cond b (v u.value ∷ written v c ts) (written v c ts)) (v t.value)
    pick true c2 = contains_behind (v t.value) (v u.value) (written v c ts) c2
    pick false c2 = c2

pub tells_low : (n : ℕ) (P : Type 0) → Tells n P → n ≤ 1
tells_low n P (inl (e, h)) = omega (arith, e)
tells_low n P (inr (e, off)) = omega (arith, e)

module _ {p : Program} {r : Rtl} {roles : List Role} {enables : List (Option Enable)} {st : State} {inputs env : List ℕ}
    (s : Scene p r roles enables st inputs env) where
  -- the values of expressions
  abbrev pub W : ℕ → ℕ
  W e = value_of r (cell_values roles env st.seats) e

  pub w_true : W 0 ≡ 1
  w_true = value_true s.known s.valued s.plan s.clock

  pub w_false : W 1 ≡ 0
  w_false = value_false s.known s.valued s.plan s.clock

  pub w_is : (e : ℕ) (x : RtlExpr) → IsAt r.exprs e x → W e ≡ expr_value r.width (cell_values roles env st.seats) x W
  w_is e x at = s.valued (cell_values roles env st.seats) e x at

  pub w_cell : (e c : ℕ) (x : Role) → IsAt r.exprs e (Cell c) → IsAt roles c x → W e ≡ role_value env st.seats x
  w_cell e c x at role = value_cell s.known s.valued s.plan s.clock e c x at role

  pub w_forth : (o : Origin) (f : ℕ) → IsActive p st.seats env o f → (a : ℕ) × HasEnable enables f o a × (W a ≡ 1)
  w_forth o f active = active_forth s.known s.valued s.plan s.clock s.fits s.bits o f active

  pub w_back : (f : ℕ) (o : Origin) (a : ℕ) → HasEnable enables f o a → W a ≡ 1 → IsActive p st.seats env o f
  w_back f o a has one = active_back s.known s.valued s.plan s.clock s.fits s.bits f o a has one

  pub w_place : (k i a : ℕ) → IsPlaceExpr p r.exprs roles k i a → Tells (W a) ((seat_at st.seats k).place ≡ i)
  w_place k i a is = place_tells s.known s.valued s.plan s.clock s.fits s.bits k i a is

  w_origin : (o : Origin) (a : ℕ) → IsOriginExpr p r.exprs roles o a → Tells (W a) (IsOn st.seats o)
  w_origin o a is = origin_tells s.known s.valued s.plan s.clock s.fits s.bits o a is

  branch_low : (o : Origin) (rest : ℕ) (bs : List Branch) (b : Branch) (f x : ℕ)
      → BranchEnables p r.exprs enables o rest bs → Contains bs b → Contains b.body f → HasEnable enables f o x
      → W x ≤ 1
  branch_low o rest [] b f x enabling cb cf has = absurd (nothing_in b cb)
  branch_low o rest (d ∷ []) b f x (a, at, body) cb cf has =
      let inside : Contains d.body f = elim (cases_of b d [] cb) [
        | inl e ↦ subst (λ (t : Branch). Contains t.body f)
            (sym e) cf
        | inr e ↦ absurd (nothing_in b e)
      ] in
      let same : x ≡ a = (one_enable enables f o o x a has (body f inside)).1 in
      let is : W x ≡ truth (list_all (λ z. z == 1) (W rest ∷ W (copy_of p d.guard) ∷ [])) =
      ap W same ∙ w_is a (Apply And 0 (rest ∷ copy_of p d.guard ∷ [])) at in
      let low = truth_low (list_all (λ z. z == 1) (W rest ∷ W (copy_of p d.guard) ∷ [])) in
      subst (λ n. n ≤ 1) (sym is) low
  branch_low o rest (d ∷ e ∷ bs) b f x (a, n, m, at, body, at_n, at_m, more) cb cf has =
      elim (cases_of b d (e ∷ bs) cb) [
        | inl is ↦
            let same : x ≡ a = (one_enable enables f o o x a has
            (body f (subst (λ (t : Branch). Contains t.body f) (sym is) cf))).1 in
            let is : W x ≡ truth (list_all (λ z. z == 1) (W rest ∷ W (copy_of p d.guard) ∷ [])) =
            ap W same ∙ w_is a (Apply And 0 (rest ∷ copy_of p d.guard ∷ [])) at in
            subst (λ n. n ≤ 1) (sym is) (truth_low (list_all (λ z. z == 1) (W rest ∷ W (copy_of p d.guard) ∷ [])))
        | inr later ↦ branch_low o m (e ∷ bs) b f x more later cf has
      ]

  inner_low : (k : FormKind) (o : Origin) (b f x : ℕ) → InnerEnables p r.exprs enables o b k → StandsInside k f
      → HasEnable enables f o x → W b ≤ 1 → W x ≤ 1
  inner_low (Set z at e) o b f x enabling inside has low = absurd inside
  inner_low (Cond bs) o b f x enabling (d, cd, cf) has low = branch_low o b bs d f x enabling cd cf has
  inner_low (Par fs) o b f x enabling inside has low =
      subst (λ n. W n ≤ 1) (one_enable enables f o o b x (enabling f inside) has).1 low
  inner_low (Go l) o b f x enabling inside has low = absurd inside
  inner_low (Call l) o b f x enabling inside has low = absurd inside
  inner_low Return o b f x enabling inside has low = absurd inside

  abbrev LowAt : ℕ → Type 0
  LowAt f = (o : Origin) (a : ℕ) → HasEnable enables f o a → W a ≤ 1

  -- an enable is a bit
  pub enable_low : (f : ℕ) → LowAt f
  enable_low = upward LowAt (λ f below o a has.
      elim (((s.plan).enabled).reasons f o a has) [
        | inl (root, is) ↦ tells_low (W a) (IsOn st.seats o) (w_origin o a is)
        | inr (g, y, b, at, lt, has_g, inside) ↦ inner_low y.kind o b f a
            (((s.plan).enabled).inner g y o b at has_g) inside has (below g lt o b has_g)
      ])
