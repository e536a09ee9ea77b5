-- In which bodies expressions stand, and what names are there: decided.
use Rattle.std.proofs.Common.{◌≡◌, ◌⊎◌, inl, inr, ℕ, ◌<◌, ◌≤◌, List, true, Bool, length, subst, arith}
use Rattle.std.specs.Prelude.{Contains}
use Rattle.std.proofs.lemmas.Bool.{cases_lt}
use Rattle.mp_base.specs.Entries.{IsAt}
use Rattle.mp_base.proofs.Contents.{holds_of_contained}
use Rattle.mp_base.proofs.Decisions.{Decided, same_claim, both_of, one_of, not_so, is_number, is_name, is_true}
use Rattle.mp_base.proofs.Decisions.{is_within}
use Rattle.mp_base.proofs.Induction.{upward}
use Rattle.mp_verdict.proofs.Deciding.{some_at, is_in}
use Rattle.mp_written.specs.declared.program.What.{What}
use Rattle.mp_written.specs.declared.program.Arg.{Arg}
use Rattle.mp_written.specs.declared.program.Expr.{Expr}
use Rattle.mp_written.specs.declared.program.Program.{Program}
use Rattle.mp_written.specs.Functions.{Function, functions}
use Rattle.mp_written.specs.Kinds.{is_function}
use Rattle.mp_written.specs.Tree.{operands}
use Rattle.mp_written.specs.Sound.{AreBehind, Under, itself, InBody}
use Rattle.mp_written.proofs.Roots.{above, under_also}
use Rattle.mp_written.proofs.Soundness.{sound}
use Rattle.written_rules.specs.Naming.{namings, IsDefined, Defines, NamesNoValue, IsArgument, MayUse}

-- whether an expression stands in another
under_step : (exprs : List Expr) → AreBehind exprs → (d e : ℕ) → ((j : ℕ) → j < e → Decided (Under exprs d j))
    → Decided (Under exprs d e)
under_step exprs behind d e below =
    same_claim (one_of (is_number d e) (some_at exprs (λ i x. Under exprs d i × Contains (operands x.kind) e) known))
    fore back
  where
    known : (i : ℕ) (x : Expr) → IsAt exprs i x → Decided (Under exprs d i × Contains (operands x.kind) e)
    known i x at = elim (cases_lt i e) [
      | inl lt ↦ both_of (below i lt) (is_in (operands x.kind) e (λ y. is_number y e))
      | inr past ↦ inr (λ (under, c).
          let lt = (holds_of_contained (λ k. (i < k) × (k < length exprs)) (operands x.kind) e (behind i x at) c).0 in
          omega (arith, lt, past))
    ]

    fore : (d ≡ e) ⊎ ((i : ℕ) × (x : Expr) × IsAt exprs i x × (Under exprs d i × Contains (operands x.kind) e))
        → Under exprs d e
    fore (inl same) = subst (λ k. Under exprs d k) same itself
    fore (inr (i, x, at, (under, c))) = under_also exprs d i e x under at c

    back : Under exprs d e
        → (d ≡ e) ⊎ ((i : ℕ) × (x : Expr) × IsAt exprs i x × (Under exprs d i × Contains (operands x.kind) e))
    back under = elim (above exprs d e under) [
      | inl same ↦ inl same
      | inr a ↦ inr (a.parent, a.expr, a.at, (a.under, a.in_it))
    ]

pub is_under : (w : Program) (d e : ℕ) → Decided (Under w.exprs d e)
is_under w d e = upward (λ k. Decided (Under w.exprs d k)) (λ k below. under_step w.exprs (sound w).behind d k below) e

-- a function around an expression is so
pub around : (w : Program) (e : ℕ) (P : ℕ → Function → Type 0) → ((k : ℕ) (f : Function) → Decided (P k f))
    → Decided ((k : ℕ) × (f : Function) × InBody w k f e × P k f)
around w e P known = same_claim
    (some_at (functions w) (λ k f. Under w.exprs f.body e × P k f) (λ k f at. both_of (is_under w f.body e) (known k f)))
    (λ (k, f, at, (under, h)). (k, f, (at, under), h)) (λ (k, f, (at, under), h). (k, f, at, (under, h)))

pub is_outside : (w : Program) (e : ℕ) → Decided ((k : ℕ) (f : Function) → ¬ InBody w k f e)
is_outside w e = same_claim
    (not_so (some_at (functions w) (λ k f. Under w.exprs f.body e) (λ k f at. is_under w f.body e)))
    (λ none k f (at, under). none (k, f, at, under)) (λ none (k, f, at, under). none k f (at, under))

pub is_argument : (w : Program) (e : ℕ) (x : List ℕ) → Decided (IsArgument w e x)
is_argument w e x = same_claim (around w e (λ k f. (i : ℕ) × (a : Arg) × IsAt f.args i a × (a.name ≡ x))
    (λ k f. some_at f.args (λ i a. a.name ≡ x) (λ i a at. is_name a.name x)))
    (λ (k, f, inside, (i, a, at, same)). (k, f, inside, i, a, at, same))
    (λ (k, f, inside, i, a, at, same). (k, f, inside, (i, a, at, same)))

pub is_defined : (w : Program) (x : List ℕ) → Decided (IsDefined w x)
is_defined w x = some_at (namings w) (λ k n. n.name ≡ x) (λ k n at. is_name n.name x)

pub defines : (w : Program) (x : List ℕ) (test : What → Bool) → Decided (Defines w x test)
defines w x test = same_claim (some_at w.defs (λ d y. (y.name ≡ x) × (test y.what ≡ true))
    (λ d y at. both_of (is_name y.name x) (is_true (test y.what))))
    (λ (d, y, at, (name, is)). (d, y, at, name, is)) (λ (d, y, at, name, is). (d, y, at, (name, is)))

pub names_no_value : (w : Program) (x : List ℕ) → Decided (NamesNoValue w x)
names_no_value w x = one_of (defines w x is_function)
    (some_at w.processes (λ k q. q.name ≡ x) (λ k q at. is_name q.name x))

-- the function's number is below that of each body around the expression
is_earlier : (w : Program) (e j : ℕ) → Decided ((k : ℕ) (f : Function) → InBody w k f e → j < k)
is_earlier w e j = same_claim
    (not_so (some_at (functions w) (λ k f. Under w.exprs f.body e × (k ≤ j))
    (λ k f at. both_of (is_under w f.body e) (is_within k j))))
    (λ none k f (at, under). elim (cases_lt j k) [
      | inl lt ↦ lt
      | inr le ↦ absurd (none (k, f, at, (under, le)))
    ])
    (λ all (k, f, at, (under, le)). let lt = all k f (at, under) in omega (arith, lt, le))

-- a function of the name that may be used there is so
pub may_use : (w : Program) (e : ℕ) (x : List ℕ) (P : Function → Type 0) → ((g : Function) → Decided (P g))
    → Decided ((j : ℕ) × (g : Function) × MayUse w e x j g × P g)
may_use w e x P known = same_claim
    (some_at (functions w)
    (λ j g. (g.name ≡ x) × (((k : ℕ) (f : Function) → InBody w k f e → j < k) × P g))
    (λ j g at. both_of (is_name g.name x) (both_of (is_earlier w e j) (known g))))
    (λ (j, g, at, (name, (early, h))). (j, g, (at, name, early), h))
    (λ (j, g, (at, name, early), h). (j, g, at, (name, (early, h))))
