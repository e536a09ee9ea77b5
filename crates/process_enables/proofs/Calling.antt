-- No more forms that call have enables in a process than the table of weights counts.
use Rattle.std.proofs.Common.{
  ◌≡◌,
  ◌⊎◌,
  inl,
  inr,
  ◌∙◌,
  ℕ,
  zero,
  suc,
  ◌+◌,
  ◌<◌,
  ◌≤◌,
  List,
  [],
  ◌∷◌,
  Bool,
  true,
  false,
  cond,
  Option,
  Some,
  None,
  refl,
  sym,
  ap,
  subst,
  arith,
  length,
}
use Rattle.std.specs.Prelude.{Contains, ◌&&◌}
use Rattle.std.specs.List.{sum_by, flat_map}
use Rattle.std.proofs.lemmas.List.Sums.{sum_by-cons, sum_by-append}
use Rattle.std.proofs.lemmas.Option.{none-some, same_Some}
use Rattle.mp_base.proofs.Contents.{contains_head, contains_behind, contains_flat, contains_from_flat}
use Rattle.mp_base.proofs.Induction.{upward}
use Rattle.mp_program.specs.declared.program.FormKind.{FormKind}
use Rattle.mp_program.specs.declared.program.FormKind.TheVariants.{Set, Cond, Par, Go, Call, Return}
use Rattle.mp_program.specs.declared.program.Branch.{Branch}
use Rattle.mp_program.specs.declared.program.Form.{Form}
use Rattle.mp_program.specs.declared.program.Process.{Process}
use Rattle.mp_program.specs.declared.program.Program.{Program}
use Rattle.mp_program.specs.Weight.{inner, calls_in}
use Rattle.mp_program.specs.Weight as weight
use Rattle.mp_base.specs.Entries.{IsAt}
use Rattle.mp_rules.specs.Standing as standing
use Rattle.mp_rules.specs.Standing.{Under}
use Rattle.mp_base.proofs.Entries.{contains_from_get, one_entry}
use Rattle.mp_rules.proofs.Sequences.{under_more}
use Rattle.rtl_form.specs.declared.rtl.RtlExpr.{RtlExpr}
use Rattle.process_plan.specs.declared.role.Role.{Role}
use Rattle.process_plan.specs.declared.enable.Origin.{Origin}
use Rattle.process_plan.specs.declared.enable.Origin.TheVariants.{At}
use Rattle.process_plan.specs.declared.enable.Enable.{Enable}
use Rattle.process_plan.specs.Lawful.{Known}
use Rattle.process_plan.specs.Enables.{HasEnable, StandsInside, AreEnables}
use Rattle.process_plan.specs.Plan.{is_call}
use Rattle.process_plan.proofs.Counting.{calls_is}
use Rattle.process_plan.proofs.Census.{AreOnce, sum_within}
use Rattle.process_plan.proofs.Enables.{inside_inner}
use Rattle.process_layout.specs.Counts.{is_of, count_of}
use Rattle.process_layout.proofs.Origins.{own_origin}
use Rattle.process_enables.proofs.Forming.{inside_between}
use Rattle.process_enables.proofs.Rooting.{process_in}

-- ---- the forms in a form

-- a `call`, and what stands in a form, by its index
abbrev call_at : List Form → ℕ → ℕ
call_at [] f = 0
call_at (y ∷ ys) zero = weight.is_call y.kind
call_at (y ∷ ys) (suc f) = call_at ys f

abbrev inner_at : List Form → ℕ → List ℕ
inner_at [] f = []
inner_at (y ∷ ys) zero = inner y.kind
inner_at (y ∷ ys) (suc f) = inner_at ys f

call_is : (ys : List Form) (f : ℕ) (y : Form) → IsAt ys f y → call_at ys f ≡ weight.is_call y.kind
call_is [] f y at = absurd (none-some y at)
call_is (z ∷ ys) zero y at = ap (λ (t : Form). weight.is_call t.kind) (same_Some z y at)
call_is (z ∷ ys) (suc f) y at = call_is ys f y at

inner_is : (ys : List Form) (f : ℕ) (y : Form) → IsAt ys f y → inner_at ys f ≡ inner y.kind
inner_is [] f y at = absurd (none-some y at)
inner_is (z ∷ ys) zero y at = ap (λ (t : Form). inner t.kind) (same_Some z y at)
inner_is (z ∷ ys) (suc f) y at = inner_is ys f y at

-- a form is there, or nothing is
some_or_none : (ys : List Form) (f : ℕ)
    → ((y : Form) × IsAt ys f y) ⊎ ((call_at ys f ≡ 0) × (inner_at ys f ≡ []))
some_or_none [] f = inr (refl, refl)
some_or_none (y ∷ ys) zero = inl (y, refl)
some_or_none (y ∷ ys) (suc f) = some_or_none ys f

-- a form and the forms in it, down to a depth
abbrev within : Program → ℕ → ℕ → List ℕ
within p zero f = []
within p (suc n) f = f ∷ flat_map (within p n) (inner_at p.forms f)

sum_flat : (v c : ℕ → ℕ) (g : ℕ → List ℕ) (fs : List ℕ) → ((f : ℕ) → sum_by v (g f) ≤ c f)
    → sum_by v (flat_map g fs) ≤ sum_by c fs
sum_flat v c g [] le = omega arith
sum_flat v c g (f ∷ fs) le =
    let a = sum_by-append v (g f) (flat_map g fs) in
    let b = sum_by-cons c f fs in
    let one = le f in
    let rest = sum_flat v c g fs le in
    omega (arith, a, b, one, rest)

within_counted : (p : Program) → Known p → (n f : ℕ) → sum_by (call_at p.forms) (within p n f) ≤ calls_in p f
within_counted p known zero f = omega arith
within_counted p known (suc n) f =
    let v = call_at p.forms in
    let first = sum_by-cons v f (flat_map (within p n) (inner_at p.forms f)) in
    let rest = sum_flat v (calls_in p) (within p n) (inner_at p.forms f) (within_counted p known n) in
    elim (some_or_none p.forms f) as
    (λ _. sum_by (call_at p.forms) (f ∷ flat_map (within p n) (inner_at p.forms f)) ≤ calls_in p f) [
      | inl (y, at) ↦
          let total = calls_is p known f y at in
          let own = call_is p.forms f y at in
          let same : sum_by (calls_in p) (inner_at p.forms f) ≡ sum_by (calls_in p) (inner y.kind) =
          ap (λ fs. sum_by (calls_in p) fs) (inner_is p.forms f y at) in
          omega (arith, first, rest, total, own, same)
      | inr (no_call, no_inner) ↦
          let same : sum_by v (flat_map (within p n) (inner_at p.forms f)) ≡ 0 =
          ap (λ fs. sum_by v (flat_map (within p n) fs)) no_inner in
          omega (arith, first, no_call, same)
    ]

inner_inside : (k : FormKind) (f : ℕ) → Contains (inner k) f → StandsInside k f
inner_inside (Set x at e) f (i, lt, is) = absurd (omega (arith, lt))
inner_inside (Cond bs) f c = contains_from_flat (λ (t : Branch). t.body) bs f c
inner_inside (Par fs) f c = c
inner_inside (Go l) f (i, lt, is) = absurd (omega (arith, lt))
inner_inside (Call l) f (i, lt, is) = absurd (omega (arith, lt))
inner_inside Return f (i, lt, is) = absurd (omega (arith, lt))

under_within : (p : Program) → Known p → (n f g : ℕ) → f < length p.forms → length p.forms ≤ n + f → Under p f g
    → Contains (within p n f) g
under_within p known zero f g lt le under = absurd (omega (arith, lt, le))
under_within p known (suc n) f g lt le standing.itself = contains_head f (flat_map (within p n) (inner_at p.forms f))
under_within p known (suc n) f g lt le (standing.deeper {g = h} y at c under) =
    let (later, inside) = inside_between p known.sound f y at h (inner_inside y.kind h c) in
    let rec = under_within p known n h g inside (omega (arith, le, later)) under in
    contains_behind g f (flat_map (within p n) (inner_at p.forms f))
    (contains_flat (within p n) (inner_at p.forms f) h g
    (subst (λ fs. Contains fs h) (sym (inner_is p.forms f y at)) c) rec)

-- ---- the forms that have enables in a process

abbrev owned : ℕ → ℕ → List (Option Enable) → List ℕ
owned k at [] = []
owned k at (None ∷ es) = owned k (suc at) es
owned k at (Some e ∷ es) = cond (is_of k e.origin) (at ∷ owned k (suc at) es) (owned k (suc at) es)

same_call : (k : FormKind) → cond (is_call k) 1 0 ≡ weight.is_call k
same_call (Set x at e) = refl
same_call (Cond bs) = refl
same_call (Par fs) = refl
same_call (Go l) = refl
same_call (Call l) = refl
same_call Return = refl

counted : (v : ℕ → ℕ) (k at : ℕ) (ys : List Form) (es : List (Option Enable))
    → ((j : ℕ) (y : Form) → IsAt ys j y → v (at + j) ≡ weight.is_call y.kind)
    → count_of is_call k ys es ≤ sum_by v (owned k at es)
counted v k at [] es same = omega arith
counted v k at (y ∷ ys) [] same = omega arith
counted v k at (y ∷ ys) (None ∷ es) same = counted v k (suc at) ys es (λ j z at_z.
    let e : suc at + j ≡ at + suc j = omega arith in ap v e ∙ same (suc j) z at_z)
counted v k at (y ∷ ys) (Some e ∷ es) same =
    pick (is_of k e.origin) (counted v k (suc at) ys es (λ j z at_z.
    let e : suc at + j ≡ at + suc j = omega arith in ap v e ∙ same (suc j) z at_z))
  where
    first : v at ≡ weight.is_call y.kind
    first = let e : at ≡ at + 0 = omega arith in ap v e ∙ same 0 y refl

    pick : (b : Bool) → count_of is_call k ys es ≤ sum_by v (owned k (suc at) es)
        → cond (b && is_call y.kind) 1 0 + count_of is_call k ys es
        ≤ sum_by v (cond b (at ∷ owned k (suc at) es) (owned k (suc at) es))
    pick false rest = omega (arith, rest)
    pick true rest =
        let a = sum_by-cons v at (owned k (suc at) es) in
        let b = first in
        let c = same_call y.kind in
        omega (arith, rest, a, b, c)

owned_has : (k at : ℕ) (es : List (Option Enable)) (f : ℕ) → Contains (owned k at es) f
    → (j : ℕ) × (f ≡ at + j) × ((i a : ℕ) × HasEnable es j (At k i) a)
owned_has k at [] f (n, lt, is) = absurd (omega (arith, lt))
owned_has k at (None ∷ es) f c =
    let (j, e, own) = owned_has k (suc at) es f c in (suc j, omega (arith, e), own)
owned_has k at (Some x ∷ es) f c = pick (is_of k x.origin) refl c (owned_has k (suc at) es f)
  where
    pick : (b : Bool) → is_of k x.origin ≡ b → Contains (cond b (at ∷ owned k (suc at) es) (owned k (suc at) es)) f
        → (Contains (owned k (suc at) es) f
        → (j : ℕ) × (f ≡ suc at + j) × ((i a : ℕ) × HasEnable es j (At k i) a))
        → (j : ℕ) × (f ≡ at + j) × ((i a : ℕ) × HasEnable (Some x ∷ es) j (At k i) a)
    pick true e (zero, lt, is) rest =
        let (i, from) = own_origin k x.origin e in (
          0,
          omega (arith, is),
          (
            i,
            x.expr,
            ap (λ (u : Origin). Some (Some (record { origin = u; expr = x.expr }))) from,
          ),
        )
    pick true e (suc n, lt, is) rest =
        let (j, same, own) = rest (n, omega (arith, lt), is) in (suc j, omega (arith, same), own)
    pick false e c rest =
        let (j, same, own) = rest c in (suc j, omega (arith, same), own)

owned_once : (k at : ℕ) (es : List (Option Enable)) → AreOnce (owned k at es)
owned_once k at [] j i f at_j at_i = absurd (none-some f at_j)
owned_once k at (None ∷ es) j i f at_j at_i = owned_once k (suc at) es j i f at_j at_i
owned_once k at (Some x ∷ es) j i f at_j at_i = pick (is_of k x.origin) j i at_j at_i (owned_once k (suc at) es)
  where
    pick : (b : Bool) (j i : ℕ) → IsAt (cond b (at ∷ owned k (suc at) es) (owned k (suc at) es)) j f
        → IsAt (cond b (at ∷ owned k (suc at) es) (owned k (suc at) es)) i f → AreOnce (owned k (suc at) es) → j ≡ i
    pick false j i at_j at_i rest = rest j i f at_j at_i
    pick true zero zero at_j at_i rest = refl
    pick true zero (suc i) at_j at_i rest =
        let (n, e, has) = owned_has k (suc at) es f (contains_from_get (owned k (suc at) es) i f at_i) in
        let first = same_Some at f at_j in absurd (omega (arith, first, e))
    pick true (suc j) zero at_j at_i rest =
        let (n, e, has) = owned_has k (suc at) es f (contains_from_get (owned k (suc at) es) j f at_j) in
        let first = same_Some at f at_i in absurd (omega (arith, first, e))
    pick true (suc j) (suc i) at_j at_i rest = ap suc (rest j i f at_j at_i)

-- a form that has an enable in a process stands in one of its forms
rooted : (p : Program) (exprs : List RtlExpr) (roles : List Role) (enables : List (Option Enable))
    → AreEnables p exprs roles enables → (k : ℕ) (q : Process) → IsAt p.processes k q
    → (f : ℕ) (i a : ℕ) → HasEnable enables f (At k i) a → (r : ℕ) × Contains q.forms r × Under p r f
rooted p exprs roles enables are k q at_q = upward
    (λ f. (i a : ℕ) → HasEnable enables f (At k i) a → (r : ℕ) × Contains q.forms r × Under p r f)
    (λ f below i a has. elim (are.reasons f (At k i) a has) [
      | inl ((z, at_z, at_f), expr) ↦ (
        f,
        contains_from_get q.forms i f
            (subst (λ (t : Process). IsAt t.forms i f) (one_entry p.processes k z q at_z at_q) at_f),
        standing.itself,
      )
      | inr (g, y, b, at, lt, has_g, inside) ↦
          let (r, c, under) = below g lt i b has_g in
          (r, c, under_more p r g f y under at (inside_inner y.kind f inside))
    ])

pub calls_within : (p : Program) → Known p → (exprs : List RtlExpr) (roles : List Role)
    (enables : List (Option Enable)) → AreEnables p exprs roles enables
    → (k : ℕ) (q : Process) → IsAt p.processes k q
    → count_of is_call k p.forms enables ≤ sum_by (calls_in p) q.forms
calls_within p known exprs roles enables are k q at_q =
    let n = length p.forms in
    let v = call_at p.forms in
    let a = counted v k 0 p.forms enables (λ j y at. let e : 0 + j ≡ j =
    omega arith in ap v e ∙ call_is p.forms j y at) in
    let b = sum_within v (owned k 0 enables) (flat_map (within p n) q.forms) (owned_once k 0 enables) (λ f c.
    let (j, e, (i, x, has)) = owned_has k 0 enables f c in
    let same : j ≡ f = omega (arith, e) in
    let (r, cr, under) = rooted p exprs roles enables are k q at_q f i x
    (subst (λ m. HasEnable enables m (At k i) x) same has) in
    contains_flat (within p n) q.forms r f cr
    (under_within p known n r f (process_in p known.sound k q at_q r cr) (omega arith) under)) in
    let d = sum_flat v (calls_in p) (within p n) q.forms (within_counted p known n) in
    omega (arith, a, b, d)
