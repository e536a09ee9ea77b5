-- What runs stands under a form, and moves among what it does.
use Rattle.std.proofs.Common.{
  ◌≡◌,
  ℕ,
  zero,
  suc,
  ◌<◌,
  List,
  [],
  ◌∷◌,
  ◌++◌,
  Bool,
  true,
  false,
  cond,
  refl,
  sym,
  subst,
  arith,
}
use Rattle.std.specs.Prelude.{Contains, ◌==◌}
use Rattle.std.specs.List.{flat_map}
use Rattle.std.proofs.lemmas.List.Sums.{sum_by-cons}
use Rattle.std.proofs.lemmas.List.Elements.{Contains-append_left, Contains-append_right}
use Rattle.mp_base.proofs.Contents.{contains_head, contains_behind, nothing_in}
use Rattle.mp_program.specs.declared.program.FormKind.{FormKind}
use Rattle.mp_program.specs.declared.program.FormKind.TheVariants.{Set, Cond, Par, Go, Call, Return}
use Rattle.mp_program.specs.declared.program.Branch.{Branch}
use Rattle.mp_program.specs.declared.program.Program.{Program}
use Rattle.mp_program.specs.Values.{value_of}
use Rattle.mp_program.specs.Effects.{Effect, Writes, Goes, Calls, Returns}
use Rattle.mp_program.specs.Weight.{inner}
use Rattle.mp_rules.specs.Moves as rules
use Rattle.mp_rules.specs.Standing.{Under, is_transfer}
use Rattle.mp_rules.specs.Standing as standing
use Rattle.process_plan.specs.Active.{chosen_forms, chosen, own_effects, Runs, itself, deeper}

abbrev pub IsMove : Effect → Type 0
IsMove (Writes x v) = ⊥
IsMove (Goes l) = Unit {0}
IsMove (Calls l) = Unit {0}
IsMove Returns = Unit {0}

-- how many moves there are
abbrev pub moves : List Effect → ℕ
moves [] = 0
moves (Writes x v ∷ es) = moves es
moves (Goes l ∷ es) = suc (moves es)
moves (Calls l ∷ es) = suc (moves es)
moves (Returns ∷ es) = suc (moves es)

abbrev one_for : Effect → ℕ
one_for x = cond (rules.is_move x) 1 0

-- the same by the count of the rules
pub moves_are : (es : List Effect) → rules.moves es ≡ moves es
moves_are [] = refl
moves_are (Writes x v ∷ es) = omega (arith, moves_are es, sum_by-cons one_for (Writes x v) es)
moves_are (Goes l ∷ es) = omega (arith, moves_are es, sum_by-cons one_for (Goes l) es)
moves_are (Calls l ∷ es) = omega (arith, moves_are es, sum_by-cons one_for (Calls l) es)
moves_are (Returns ∷ es) = omega (arith, moves_are es, sum_by-cons one_for Returns es)

pub some_move : (es : List Effect) → 0 < moves es → (x : Effect) × Contains es x × IsMove x
some_move [] h = absurd (omega (arith, h))
some_move (Writes x v ∷ es) h = let (y, c, m) = some_move es h in (y, contains_behind y (Writes x v) es c, m)
some_move (Goes l ∷ es) h = (Goes l, contains_head (Goes l) es, tt)
some_move (Calls l ∷ es) h = (Calls l, contains_head (Calls l) es, tt)
some_move (Returns ∷ es) h = (Returns, contains_head Returns es, tt)

-- ---- what runs stands under

of_branches : (v : ℕ → ℕ) (bs : List Branch) (f : ℕ) → Contains (chosen_forms v bs) f
    → Contains (flat_map (λ (b : Branch). b.body) bs) f
of_branches v [] f c = c
of_branches v (b ∷ bs) f c = pick (v b.guard == 1) c (of_branches v bs f)
  where
    pick : (t : Bool) → Contains (cond t b.body (chosen_forms v bs)) f
        → (Contains (chosen_forms v bs) f → Contains (flat_map (λ (b : Branch). b.body) bs) f)
        → Contains (b.body ++ flat_map (λ (b : Branch). b.body) bs) f
    pick true c rest = Contains-append_left b.body (flat_map (λ (b : Branch). b.body) bs) f c
    pick false c rest = Contains-append_right b.body (flat_map (λ (b : Branch). b.body) bs) f (rest c)

chosen_inner : (v : ℕ → ℕ) (k : FormKind) (f : ℕ) → Contains (chosen v k) f → Contains (inner k) f
chosen_inner v (Set x at w) f c = c
chosen_inner v (Cond bs) f c = of_branches v bs f c
chosen_inner v (Par fs) f c = c
chosen_inner v (Go l) f c = c
chosen_inner v (Call l) f c = c
chosen_inner v Return f c = c

pub runs_under : (p : Program) (env : List ℕ) (f g : ℕ) → Runs p env f g → Under p f g
runs_under p env f g itself = standing.itself
runs_under p env f g (deeper {g = h} y at c runs) = standing.deeper y at (chosen_inner (value_of p env) y.kind h c)
    (runs_under p env h g runs)

pub own_move : (v : ℕ → ℕ) (k : FormKind) (x : Effect) → Contains (own_effects v k) x → IsMove x → is_transfer k ≡ true
own_move v (Set y at w) x (zero, lt, is) m = absurd (subst IsMove (sym is) m)
own_move v (Set y at w) x (suc k, lt, is) m = absurd (omega (arith, lt))
own_move v (Cond bs) x c m = absurd (nothing_in x c)
own_move v (Par fs) x c m = absurd (nothing_in x c)
own_move v (Go l) x c m = refl
own_move v (Call l) x c m = refl
own_move v Return x c m = refl
