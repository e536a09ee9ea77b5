-- The enable of a form is 1 exactly where the form is active.
use Rattle.std.proofs.Common.{◌≡◌, ◌⊎◌, inl, inr, ◌∙◌, ℕ, zero, suc, ◌-◌, ◌<◌, ◌≤◌, List, [], ◌∷◌, Bool, true, false}
use Rattle.std.proofs.Common.{cond, Option, refl, sym, ap, subst, arith, length, map}
use Rattle.std.specs.Prelude.{Contains, ◌==◌, ◌&&◌}
use Rattle.std.specs.List.{list_all}
use Rattle.std.proofs.lemmas.Bool.{eqb-true, eqb-false, eq-eqb, ne_eqb, cases_eq, and_parts}
use Rattle.std.proofs.lemmas.Option.{same_Some, none-some}
use Rattle.mp_base.specs.Apply.{truth}
use Rattle.mp_base.specs.declared.op.Op.TheVariants.{And, Nor, Not}
use Rattle.mp_base.proofs.Contents.{contains_head, contains_behind, nothing_in, contains_from_map}
use Rattle.mp_base.proofs.Induction.{by_test, upward}
use Rattle.mp_program.specs.declared.program.FormKind.{FormKind}
use Rattle.mp_program.specs.declared.program.FormKind.TheVariants.{Set, Cond, Par, Go, Call, Return}
use Rattle.mp_program.specs.declared.program.Branch.{Branch}
use Rattle.mp_program.specs.declared.program.Form.{Form}
use Rattle.mp_program.specs.declared.program.Process.{Process}
use Rattle.mp_program.specs.declared.program.Program.{Program}
use Rattle.mp_program.specs.Sound.{BranchesFit, InnerFit}
use Rattle.mp_program.specs.State.{State, Seat, SeatsFit, IsState}
use Rattle.mp_program.specs.Environment.{IsEnvironment}
use Rattle.mp_program.specs.Values as from
use Rattle.mp_base.specs.Entries.{IsAt}
use Rattle.rtl_form.specs.declared.rtl.Rtl.{Rtl}
use Rattle.rtl_form.specs.declared.rtl.RtlExpr.{RtlExpr}
use Rattle.rtl_form.specs.declared.rtl.RtlExpr.TheVariants.{Cell, Apply}
use Rattle.rtl_form.specs.Values.{expr_value}
use Rattle.process_plan.specs.Lawful.{Known}
use Rattle.process_plan.specs.Roles.{Role, Placed, seat_at, cell_values, stored_bit}
use Rattle.process_plan.specs.Active.{chosen_forms, chosen, Runs, itself, deeper, Origin, Always, At, IsOn, IsActive}
use Rattle.process_plan.specs.Enables.{
  Enable,
  HasEnable,
  copy_of,
  BranchEnables,
  InnerEnables,
  StandsInside,
  IsPlaceExpr,
  IsOriginExpr,
}
use Rattle.process_plan.specs.Plan.{FollowsPlan}
use Rattle.process_plan.proofs.Members.{cases_of}
use Rattle.process_plan.proofs.Copying.{Valued, V, value_is, value_true, value_cell, copied}
use Rattle.process_plan.proofs.Enables.{one_enable}

-- the branches of a form have bits as guards
abbrev pub GuardsAreBits : Program → List ℕ → Type 0
GuardsAreBits p env = (f : ℕ) (y : Form) (bs : List Branch) → IsAt p.forms f y → y.kind ≡ Cond bs → (b : Branch)
    → Contains bs b → from.value_of p env b.guard ≤ 1

-- a bit that is 1 exactly where this holds
abbrev pub Tells : ℕ → Type 0 → Type 0
Tells n P = ((n ≡ 1) × P) ⊎ ((n ≡ 0) × (P → ⊥))

pub one_of : (n : ℕ) (P : Type 0) → Tells n P → P → n ≡ 1
one_of n P (inl (e, h)) holds = e
one_of n P (inr (e, off)) holds = absurd (off holds)

pub on_of : (n : ℕ) (P : Type 0) → Tells n P → n ≡ 1 → P
on_of n P (inl (e, h)) one = h
on_of n P (inr (e, off)) one = absurd (omega (arith, e, one))

-- ---- bits

pub truth_one : (b : Bool) → truth b ≡ 1 → b ≡ true
truth_one true h = refl
truth_one false h = absurd (omega (arith, h))

-- the value of an AND of two
both_ones : (x y : ℕ) → truth (list_all (λ z. z == 1) (x ∷ y ∷ [])) ≡ 1 → (x ≡ 1) × (y ≡ 1)
both_ones x y h =
    let a = and_parts (x == 1) (list_all (λ z. z == 1) (y ∷ [])) (truth_one (list_all (λ z. z == 1) (x ∷ y ∷ [])) h) in
    let b = and_parts (y == 1) true a.1 in
    (eqb-true x 1 a.0, eqb-true y 1 b.0)

ones_both : (x y : ℕ) → x ≡ 1 → y ≡ 1 → truth (list_all (λ z. z == 1) (x ∷ y ∷ [])) ≡ 1
ones_both x y hx hy = ap (λ t. truth (list_all (λ z. z == 1) (t ∷ y ∷ []))) hx
    ∙ ap (λ t. truth (list_all (λ z. z == 1) (1 ∷ t ∷ []))) hy

not_one : (x : ℕ) → x ≤ 1 → (x == 1) ≡ false → 1 - x ≡ 1
not_one x le h = let n : x ≡ 1 → ⊥ = eqb-false x 1 h in other x le n
  where
    other : (x : ℕ) → x ≤ 1 → (x ≡ 1 → ⊥) → 1 - x ≡ 1
    other zero le n = refl
    other (suc zero) le n = absurd (n refl)
    other (suc (suc x)) le n = absurd (omega (arith, le))

one_not : (x : ℕ) → 1 - x ≡ 1 → (x == 1) ≡ false
one_not x h = ne_eqb x 1 (λ e. omega (arith, e, h))

-- ---- seats

seat_in : (qs : List Process) (ss : List Seat) (k : ℕ) (q : Process) → SeatsFit qs ss → IsAt qs k q
    → ((seat_at ss k).place < length q.forms) × (length (seat_at ss k).stack ≡ q.depth)
seat_in [] ss k q fit at = absurd (none-some q at)
seat_in (x ∷ qs) [] k q fit at = absurd fit
seat_in (x ∷ qs) (s ∷ ss) zero q fit at = (
  subst (λ (t : Process). s.place < length t.forms) (same_Some x q at) fit.0,
  subst (λ (t : Process). length s.stack ≡ t.depth) (same_Some x q at) fit.1,
)
seat_in (x ∷ qs) (s ∷ ss) (suc k) q fit at = seat_in qs ss k q fit.3 at

pub seat_fits : (p : Program) (st : State) (k : ℕ) (q : Process) → IsState p st → IsAt p.processes k q
    → ((seat_at st.seats k).place < length q.forms) × (length (seat_at st.seats k).stack ≡ q.depth)
seat_fits p st k q fits at = seat_in p.processes st.seats k q fits.seats at

-- what runs, runs one form further
pub runs_more : (p : Program) (env : List ℕ) (r f g : ℕ) (y : Form) → Runs p env r f → IsAt p.forms f y
    → Contains (chosen (from.value_of p env) y.kind) g → Runs p env r g
runs_more p env r f g y itself at c = deeper y at c itself
runs_more p env r f g y (deeper {g = h} z at_r d runs) at c = deeper z at_r d (runs_more p env h f g y runs at c)

module _ {p : Program} {r : Rtl} {roles : List Role} {enables : List (Option Enable)} (known : Known p)
    (valued : Valued r)
    (plan : FollowsPlan p r roles enables) {st : State} {inputs env : List ℕ} (clock : IsEnvironment p st inputs env)
    (fits : IsState p st)
    (bits : GuardsAreBits p env) where
  abbrev W : ℕ → ℕ
  W e = V known valued plan clock e

  is_value : (e : ℕ) (x : RtlExpr) → IsAt r.exprs e x → W e ≡ expr_value r.width (cell_values roles env st.seats) x W
  is_value e x at = value_is known valued plan clock e x at

  tells_test : (n m v : ℕ) → v ≡ truth (n == m) → Tells v (n ≡ m)
  tells_test n m v is = pick (n == m) refl
    where
      pick : (t : Bool) → (n == m) ≡ t → Tells v (n ≡ m)
      pick true e = inl (is ∙ ap truth e, eqb-true n m e)
      pick false e = inr (is ∙ ap truth e, eqb-false n m e)

  cell_in : (k j c : ℕ) → IsAt roles c (Placed k j) → (q : Process) × IsAt p.processes k q × (0 < j)
      × (j < length q.forms)
  cell_in k j c at = let (x, at_x, (q, at_q, pos, lt, is)) = (plan.cells).each c (Placed k j) at in (q, at_q, pos, lt)

  zeros : (vs : List ℕ) → ((x : ℕ) → Contains vs x → x ≡ 0) → list_all (λ x. x == 0) vs ≡ true
  zeros [] h = refl
  zeros (v ∷ vs) h = ap (λ b. b && list_all (λ x. x == 0) vs) (eq-eqb v 0 (h v (contains_head v vs)))
      ∙ zeros vs (λ x c. h x (contains_behind x v vs c))

  no_zeros : (vs : List ℕ) → Contains vs 1 → list_all (λ x. x == 0) vs ≡ false
  no_zeros [] c = absurd (nothing_in 1 c)
  no_zeros (v ∷ vs) (zero, lt, is) = ap (λ t. (t == 0) && list_all (λ x. x == 0) vs) is
  no_zeros (v ∷ vs) (suc k, lt, is) = last (v == 0) (no_zeros vs (k, omega (arith, lt), is))
    where
      last : (b : Bool) → list_all (λ x. x == 0) vs ≡ false → (b && list_all (λ x. x == 0) vs) ≡ false
      last true h = h
      last false h = refl

  map_in : (es : List ℕ) (e : ℕ) → Contains es e → Contains (map W es) (W e)
  map_in [] e c = absurd (nothing_in e c)
  map_in (d ∷ es) e (zero, lt, is) = (zero, omega arith, ap W is)
  map_in (d ∷ es) e (suc k, lt, is) = contains_behind (W e) (W d) (map W es) (map_in es e (k, omega (arith, lt), is))

  place_cell : (k j e c : ℕ) → IsAt r.exprs e (Cell c) → IsAt roles c (Placed k j)
      → W e ≡ truth ((seat_at st.seats k).place == j)
  place_cell k j e c at role = value_cell known valued plan clock e c (Placed k j) at role

  -- the expression of a place tells whether the process is there
  pub place_tells : (k i a : ℕ) → IsPlaceExpr p r.exprs roles k i a → Tells (W a) ((seat_at st.seats k).place ≡ i)
  place_tells k (suc i) a (c, role, at) = tells_test (seat_at st.seats k).place (suc i) (W a)
      (place_cell k (suc i) a c at role)
  place_tells k zero a (q, at_q, inl (one, is)) =
      let lt = (seat_fits p st k q fits at_q).0 in
      inl (ap W is ∙ value_true known valued plan clock, omega (arith, one, lt))
  place_tells k zero a (q, at_q, inr (es, at, are)) =
      let value : W a ≡ truth (list_all (λ x. x == 0) (map W es)) = is_value a (Apply Nor 0 es) at in
      elim (cases_eq (seat_at st.seats k).place 0) [
        | inl e ↦ inl (
          value ∙ ap truth (zeros (map W es) (λ x c.
              let (d, cd, h) = contains_from_map W es x c in
              let (n, j, role, at_d) = are.each d cd in
              let (q2, at_q2, pos, lt) = cell_in k j n role in
              sym h ∙ place_cell k j d n at_d role ∙ ap (λ t. truth (t == j)) e
              ∙ ap truth (ne_eqb 0 j (λ z. omega (arith, z, pos))))),
          e,
        )
        | inr ne ↦
            let place = (seat_at st.seats k).place in
            let lt = (seat_fits p st k q fits at_q).0 in
            let pos : 0 < place = pos_of place ne in
            let (n, role) = (plan.cells).all (Placed k place) stored_bit (q, at_q, pos, lt, refl) in
            let (d, cd, at_d) = are.all place n role in
            let one : W d ≡ 1 = place_cell k place d n at_d role ∙ ap truth (eq-eqb place place refl) in
            inr (value ∙ ap truth (no_zeros (map W es) (subst (Contains (map W es)) one (map_in es d cd))), ne)
      ]
    where
      pos_of : (n : ℕ) → (n ≡ 0 → ⊥) → 0 < n
      pos_of zero ne = absurd (ne refl)
      pos_of (suc n) ne = omega arith

  pub origin_tells : (o : Origin) (a : ℕ) → IsOriginExpr p r.exprs roles o a → Tells (W a) (IsOn st.seats o)
  origin_tells Always a is = inl (ap W is ∙ value_true known valued plan clock, tt)
  origin_tells (At k i) a is = place_tells k i a is

  and_value : (a x y : ℕ) → IsAt r.exprs a (Apply And 0 (x ∷ y ∷ []))
      → W a ≡ truth (list_all (λ z. z == 1) (W x ∷ W y ∷ []))
  and_value a x y at = is_value a (Apply And 0 (x ∷ y ∷ [])) at

  copy_value : (e : ℕ) → e < length p.exprs → W (copy_of p e) ≡ from.value_of p env e
  copy_value e lt = copied known valued plan clock e lt

  not_value : (n e : ℕ) → IsAt r.exprs n (Apply Not 0 (e ∷ [])) → W n ≡ 1 - W e
  not_value n e at = is_value n (Apply Not 0 (e ∷ [])) at

  abbrev LowGuards : List Branch → Type 0
  LowGuards bs = (b : Branch) → Contains bs b → (b.guard < length p.exprs) × (from.value_of p env b.guard ≤ 1)

  -- the form that is chosen has an enable, which is 1
  branch_forth : (o : Origin) (rest : ℕ) (bs : List Branch) (f : ℕ) → LowGuards bs
      → BranchEnables p r.exprs enables o rest bs → W rest ≡ 1
      → Contains (chosen_forms (from.value_of p env) bs) f → (a : ℕ) × HasEnable enables f o a × (W a ≡ 1)
  branch_forth o rest [] f low enabling one c = absurd (nothing_in f c)
  branch_forth o rest (b ∷ []) f low (a, at, body) one c =
      let value = from.value_of p env b.guard in
      by_test (value == 1)
      (λ h. (
        a,
        body f (subst (λ t. Contains (cond t b.body []) f) h c),
        and_value a rest (copy_of p b.guard) at ∙ ones_both (W rest) (W (copy_of p b.guard)) one
            (copy_value b.guard (low b (contains_head b [])).0 ∙ eqb-true value 1 h),
      ))
      (λ h. absurd (nothing_in f (subst (λ t. Contains (cond t b.body []) f) h c)))
  branch_forth o rest (b ∷ d ∷ bs) f low (a, n, m, at, body, at_n, at_m, more) one c =
      let value = from.value_of p env b.guard in
      let same = copy_value b.guard (low b (contains_head b (d ∷ bs))).0 in
      by_test (value == 1)
      (λ h. (
        a,
        body f (subst (λ t. Contains (cond t b.body (chosen_forms (from.value_of p env) (d ∷ bs))) f) h c),
        and_value a rest (copy_of p b.guard) at ∙ ones_both (W rest) (W (copy_of p b.guard)) one
            (same ∙ eqb-true value 1 h),
      ))
      (λ h. branch_forth o m (d ∷ bs) f (λ e i. low e (contains_behind e b (d ∷ bs) i)) more
      (and_value m rest n at_m ∙ ones_both (W rest) (W n) one
      (not_value n (copy_of p b.guard) at_n ∙ ap (λ t. 1 - t) same
      ∙ not_one value (low b (contains_head b (d ∷ bs))).1 h))
      (subst (λ t. Contains (cond t b.body (chosen_forms (from.value_of p env) (d ∷ bs))) f) h c))

  -- a form in a branch whose enable is 1 is chosen
  branch_back : (o : Origin) (rest : ℕ) (bs : List Branch) (b : Branch) (f x : ℕ) → LowGuards bs
      → BranchEnables p r.exprs enables o rest bs
      → Contains bs b → Contains b.body f → HasEnable enables f o x → W x ≡ 1 → (W rest ≡ 1)
      × Contains (chosen_forms (from.value_of p env) bs) f
  branch_back o rest [] b f x low enabling cb cf has one = absurd (nothing_in b cb)
  branch_back o rest (d ∷ []) b f x low (a, at, body) cb cf has one =
      let inside : Contains d.body f = elim (cases_of b d [] cb) [
        | inl e ↦ subst (λ (t : Branch). Contains t.body f)
            (sym e) cf
        | inr e ↦ absurd (nothing_in b e)
      ] in
      let same : x ≡ a = (one_enable enables f o o x a has (body f inside)).1 in
      let ones = both_ones (W rest) (W (copy_of p d.guard))
      (sym (and_value a rest (copy_of p d.guard) at) ∙ ap W (sym same) ∙ one) in
      let test : (from.value_of p env d.guard == 1) ≡ true =
      eq-eqb (from.value_of p env d.guard) 1 (sym (copy_value d.guard (low d (contains_head d [])).0) ∙ ones.1) in
      (ones.0, subst (λ t. Contains (cond t d.body []) f) (sym test) inside)
  branch_back o rest (d ∷ e ∷ bs) b f x low (a, n, m, at, body, at_n, at_m, more) cb cf has one =
      let same_copy = copy_value d.guard (low d (contains_head d (e ∷ bs))).0 in
      elim (cases_of b d (e ∷ bs) cb) [
        | inl is ↦
            let inside : Contains d.body f = subst (λ (t : Branch). Contains t.body f) (sym is) cf in
            let same : x ≡ a = (one_enable enables f o o x a has (body f inside)).1 in
            let ones = both_ones (W rest) (W (copy_of p d.guard))
            (sym (and_value a rest (copy_of p d.guard) at) ∙ ap W (sym same) ∙ one) in
            let test : (from.value_of p env d.guard == 1) ≡ true =
            eq-eqb (from.value_of p env d.guard) 1 (sym same_copy ∙ ones.1) in (
              ones.0,
              subst (λ t. Contains (cond t d.body (chosen_forms (from.value_of p env) (e ∷ bs))) f)
                  (sym test) inside,
            )
        | inr later ↦
            let rec =
            branch_back o m (e ∷ bs) b f x (λ z i. low z (contains_behind z d (e ∷ bs) i)) more later cf has one in
            let ones = both_ones (W rest) (W n) (sym (and_value m rest n at_m) ∙ rec.0) in
            let test : (from.value_of p env d.guard == 1) ≡ false =
            one_not (from.value_of p env d.guard) (ap (λ t. 1 - t) (sym same_copy)
            ∙ sym (not_value n (copy_of p d.guard) at_n) ∙ ones.1) in (
              ones.0,
              subst (λ t. Contains (cond t d.body (chosen_forms (from.value_of p env) (e ∷ bs))) f)
                  (sym test) rec.1,
            )
      ]

  branches_low : (i n : ℕ) (bs : List Branch) → BranchesFit (length p.exprs) i n bs → (b : Branch) → Contains bs b
      → b.guard < length p.exprs
  branches_low i n [] fit b c = absurd (nothing_in b c)
  branches_low i n (d ∷ bs) ((guard, _), _) b (zero, lt, is) =
      subst (λ (t : Branch). t.guard < length p.exprs) is guard
  branches_low i n (d ∷ bs) fit b (suc k, lt, is) = branches_low i n bs fit.1 b (k, omega (arith, lt), is)

  low_guards : (g : ℕ) (y : Form) (bs : List Branch) → IsAt p.forms g y → y.kind ≡ Cond bs → LowGuards bs
  low_guards g y bs at is b c = (
    branches_low g (length p.forms) bs (subst (λ t. InnerFit (length p.exprs) g (length p.forms) t) is
        ((known.sound).forms g y at)) b c,
    bits g y bs at is b c,
  )

  inner_forth : (g : ℕ) (y : Form) (k : FormKind) (o : Origin) (b f : ℕ) → IsAt p.forms g y → y.kind ≡ k
      → InnerEnables p r.exprs enables o b k → W b ≡ 1
      → Contains (chosen (from.value_of p env) k) f → (a : ℕ) × HasEnable enables f o a × (W a ≡ 1)
  inner_forth g y (Set x at e) o b f here_y is enabling one c = absurd (nothing_in f c)
  inner_forth g y (Cond bs) o b f here_y is enabling one c =
      branch_forth o b bs f (low_guards g y bs here_y is) enabling one c
  inner_forth g y (Par fs) o b f here_y is enabling one c = (b, enabling f c, one)
  inner_forth g y (Go l) o b f here_y is enabling one c = absurd (nothing_in f c)
  inner_forth g y (Call l) o b f here_y is enabling one c = absurd (nothing_in f c)
  inner_forth g y Return o b f here_y is enabling one c = absurd (nothing_in f c)

  runs_forth : (g f : ℕ) (o : Origin) (b : ℕ) → Runs p env g f → HasEnable enables g o b → W b ≡ 1 → (a : ℕ)
      × HasEnable enables f o a × (W a ≡ 1)
  runs_forth g f o b itself has one = (b, has, one)
  runs_forth g f o b (deeper {g = h} y at c runs) has one =
      let (a, has_a, one_a) = inner_forth g y y.kind o b h at refl ((plan.enabled).inner g y o b at has) one c in
      runs_forth h f o a runs has_a one_a

  -- an active form has an enable, and it is 1
  pub active_forth : (o : Origin) (f : ℕ) → IsActive p st.seats env o f → (a : ℕ) × HasEnable enables f o a × (W a ≡ 1)
  active_forth o f (on, (root, is_root, runs)) =
      let (b, is_expr, has) = (plan.enabled).roots o root is_root in
      runs_forth root f o b runs has (one_of (W b) _ (origin_tells o b is_expr) on)

  inner_back : (g : ℕ) (y : Form) (k : FormKind) (o : Origin) (b f x : ℕ) → IsAt p.forms g y → y.kind ≡ k
      → InnerEnables p r.exprs enables o b k → StandsInside k f
      → HasEnable enables f o x → W x ≡ 1 → (W b ≡ 1) × Contains (chosen (from.value_of p env) k) f
  inner_back g y (Set z at e) o b f x here_y is enabling inside has one = absurd inside
  inner_back g y (Cond bs) o b f x here_y is enabling (d, cd, cf) has one =
      branch_back o b bs d f x (low_guards g y bs here_y is) enabling cd cf has one
  inner_back g y (Par fs) o b f x here_y is enabling inside has one =
      (ap W (one_enable enables f o o b x (enabling f inside) has).1 ∙ one, inside)
  inner_back g y (Go l) o b f x here_y is enabling inside has one = absurd inside
  inner_back g y (Call l) o b f x here_y is enabling inside has one = absurd inside
  inner_back g y Return o b f x here_y is enabling inside has one = absurd inside

  abbrev BackAt : ℕ → Type 0
  BackAt f = (o : Origin) (a : ℕ) → HasEnable enables f o a → W a ≡ 1 → IsActive p st.seats env o f

  -- a form whose enable is 1 is active
  pub active_back : (f : ℕ) → BackAt f
  active_back = upward BackAt (λ f below o a has one.
      elim ((plan.enabled).reasons f o a has) [
        | inl (root, is_expr) ↦ (on_of (W a) _ (origin_tells o a is_expr) one, (f, root, itself))
        | inr (g, y, b, at, lt, has_g, inside) ↦
            let (one_g, c) = inner_back g y y.kind o b f a at refl
            ((plan.enabled).inner g y o b at has_g) inside has one in
            let (on, (root, is_root, runs)) = below g lt o b has_g one_g in
            (on, (root, is_root, runs_more p env root g f y runs at c))
      ])
