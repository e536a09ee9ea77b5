-- The forms in a form stand behind it.
use Rattle.std.proofs.Common.{◌≡◌, ◌⊎◌, inl, inr, ℕ, ◌<◌, ◌≤◌, length, refl, subst, arith}
use Rattle.std.specs.Prelude.{Contains, All}
use Rattle.std.specs.List.{AllByRecursion}
use Rattle.std.proofs.lemmas.List.Elements.{All-contains, All-from_recursion}
use Rattle.mp_program.specs.declared.program.Form.{Form}
use Rattle.mp_program.specs.declared.program.Process.{Process}
use Rattle.mp_program.specs.declared.program.Program.{Program}
use Rattle.mp_program.specs.Weight.{inner}
use Rattle.mp_program.specs.Sound.{IsSound}
use Rattle.mp_program.proofs.Inside.{Between, kind_between}
use Rattle.mp_base.specs.Entries.{IsAt}
use Rattle.mp_rules.specs.Standing.{Under, itself, deeper}
use Rattle.mp_base.proofs.Entries.{one_entry, contains_from_get}

-- the forms directly in a form
pub inner_between : (p : Program) → IsSound p → (f : ℕ) (y : Form) → IsAt p.forms f y
    → All (Between f (length p.forms)) (inner y.kind)
inner_between p s f y is = kind_between (length p.exprs) f (length p.forms) y.kind (s.forms f y is)

pub inner_inside : (p : Program) → IsSound p → (f : ℕ) (y : Form) → IsAt p.forms f y
    → All (λ g. g < length p.forms) (inner y.kind)
inner_inside p s f y is = λ k d lt. (inner_between p s f y is k d lt).1

pub inner_behind : (p : Program) → IsSound p → (f : ℕ) (y : Form) (g : ℕ) → IsAt p.forms f y
    → Contains (inner y.kind) g → Between f (length p.forms) g
inner_behind p s f y g is c = All-contains (Between f (length p.forms)) (inner y.kind) g (inner_between p s f y is) c

-- what stands in a form stands in one directly in it, if it isn't the form itself
pub under_cases : (p : Program) (f g : ℕ) (y : Form) → IsAt p.forms f y → Under p f g
    → (f ≡ g) ⊎ ((h : ℕ) × Contains (inner y.kind) h × Under p h g)
under_cases p f g y is itself = inl refl
under_cases p f g y is (deeper {g = h} x is_x c u) =
    let P : Form → Type 0 = λ z. Contains (inner z.kind) h in
    inr (h, subst P (one_entry p.forms f x y is_x is) c, u)

-- and behind it
pub under_behind : (p : Program) → IsSound p → (f g : ℕ) → Under p f g → f ≤ g
under_behind p s f g itself = omega arith
under_behind p s f g (deeper {g = h} x is_x c u) = let l : h ≤ g = under_behind p s h g u in
    let m : f < h = (inner_behind p s f x h is_x c).0 in omega (arith, l, m)

-- top-level forms
pub always_inside : (p : Program) → IsSound p → All (λ f. f < length p.forms) p.always
always_inside p s = All-from_recursion (λ f. f < length p.forms) p.always s.always

pub process_inside : (p : Program) → IsSound p → (k : ℕ) (q : Process) → IsAt p.processes k q
    → All (λ f. f < length p.forms) q.forms
process_inside p s k q is =
    let P : Process → Type 0 = λ x. AllByRecursion (λ f. f < length p.forms) x.forms in
    All-from_recursion (λ f. f < length p.forms) q.forms
    (All-contains P p.processes q (All-from_recursion P p.processes s.processes) (contains_from_get p.processes k q is))
