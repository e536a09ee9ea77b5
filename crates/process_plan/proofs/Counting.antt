-- A form that calls is counted among the calls.
use Rattle.std.proofs.Common.{◌≡◌, ◌∙◌, ℕ, zero, suc, ◌+◌, ◌<◌, ◌≤◌, List, [], ◌∷◌, ◌++◌, true, refl, ap, arith, length}
use Rattle.std.specs.Prelude.{Contains}
use Rattle.std.specs.List.{sum_by}
use Rattle.std.proofs.lemmas.List.Sums.{sum_by-cons}
use Rattle.mp_base.proofs.Contents.{nothing_in, only_one}
use Rattle.mp_program.proofs.Tables.{table_at}
use Rattle.mp_program.specs.declared.program.FormKind.{FormKind}
use Rattle.mp_program.specs.declared.program.FormKind.TheVariants.{Set, Cond, Par, Go, Call, Return}
use Rattle.mp_program.specs.declared.program.Form.{Form}
use Rattle.mp_program.specs.declared.program.Program.{Program}
use Rattle.mp_program.specs.Effects.{Effect, Writes, Goes, Calls, Returns, effects_of}
use Rattle.mp_program.specs.Sound.{AllBetween}
use Rattle.mp_program.specs.Values.{value_of}
use Rattle.mp_program.specs.Weight.{inner, is_call, calls_in}
use Rattle.mp_program.proofs.Inside.{inner_behind}
use Rattle.mp_base.specs.Entries.{IsAt}
use Rattle.mp_base.proofs.Entries.{within, value}
use Rattle.mp_rules.specs.Standing as standing
use Rattle.mp_rules.specs.Standing.{Under}
use Rattle.process_plan.specs.Lawful.{Known}
use Rattle.process_plan.specs.Active.{own_effects}
use Rattle.process_plan.proofs.Doing.{effect_source}
use Rattle.process_plan.proofs.Moving.{runs_under}
use Rattle.process_plan.proofs.Jumping.{is_calling}

-- ---- calls

sum_behind : (i n : ℕ) (fs : List ℕ) (g h : ℕ → ℕ) → ((k : ℕ) → i < k → g k ≡ h k) → AllBetween i n fs
    → sum_by g fs ≡ sum_by h fs
sum_behind i n [] g h same fit = refl
sum_behind i n (f ∷ fs) g h same ((low, high), others) =
    let a = same f low in let b = sum_behind i n fs g h same others in
    omega (arith, a, b, sum_by-cons g f fs, sum_by-cons h f fs)

both_lists : (i n : ℕ) (xs ys : List ℕ) → AllBetween i n xs → AllBetween i n ys → AllBetween i n (xs ++ ys)
both_lists i n [] ys hx hy = hy
both_lists i n (x ∷ xs) ys (first, rest) hy = (first, both_lists i n xs ys rest hy)

pub calls_is : (p : Program) → Known p → (f : ℕ) (x : Form) → IsAt p.forms f x
    → calls_in p f ≡ is_call x.kind + sum_by (calls_in p) (inner x.kind)
calls_is p known f x at =
    table_at 0 (λ (y : Form) v. is_call y.kind + sum_by v (inner y.kind)) p.forms f x
    (within p.forms f at) (value p.forms f at)
    (λ g h same. ap (λ n. is_call x.kind + n) (sum_behind f (length p.forms) (inner x.kind) g h same
    (inner_behind (length p.exprs) f (length p.forms) x.kind ((known.sound).forms f x at))))

pub in_sum : (v : ℕ → ℕ) (fs : List ℕ) (f : ℕ) → Contains fs f → v f ≤ sum_by v fs
in_sum v [] f c = absurd (nothing_in f c)
in_sum v (g ∷ fs) f (zero, lt, is) = let e : v g ≡ v f = ap v is in omega (arith, e, sum_by-cons v g fs)
in_sum v (g ∷ fs) f (suc k, lt, is) = let le = in_sum v fs f (k, omega (arith, lt), is) in
    omega (arith, le, sum_by-cons v g fs)

under_counts : (p : Program) → Known p → (f g : ℕ) → Under p f g → calls_in p g ≤ calls_in p f
under_counts p known f g standing.itself = omega arith
under_counts p known f g (standing.deeper {g = h} y at c under) =
    let rec = under_counts p known h g under in
    let eq = calls_is p known f y at in
    let le = in_sum (calls_in p) (inner y.kind) h c in
    omega (arith, rec, eq, le)

own_call : (v : ℕ → ℕ) (k : FormKind) (m : Effect) → Contains (own_effects v k) m → is_calling m ≡ true → 0 < is_call k
own_call v (Set x at e) m c h = let clash = ap is_calling (only_one (Writes x (v e)) m c) ∙ h in absurd (cc)
own_call v (Cond bs) m c h = absurd (nothing_in m c)
own_call v (Par fs) m c h = absurd (nothing_in m c)
own_call v (Go l) m c h = let clash = ap is_calling (only_one (Goes l) m c) ∙ h in absurd (cc)
own_call v (Call l) m c h = omega arith
own_call v Return m c h = let clash = ap is_calling (only_one Returns m c) ∙ h in absurd (cc)

-- a form that calls in some clock has a call in it
pub calls_counted : (p : Program) (env : List ℕ) → Known p → (f : ℕ) → f < length p.forms → (l : List ℕ)
    → Contains (effects_of p env f) (Calls l) → 0 < calls_in p f
calls_counted p env known f lt l c =
    let (g, y, at, runs, own) = effect_source p env known f lt (Calls l) c in
    let here_call = own_call (value_of p env) y.kind (Calls l) own refl in
    let eq = calls_is p known g y at in
    let le = under_counts p known f g (runs_under p env f g runs) in
    omega (arith, here_call, eq, le)
