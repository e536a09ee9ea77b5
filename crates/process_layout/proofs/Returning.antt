-- How many places there are to which calls return.
use Rattle.std.proofs.Common.{
  ◌≡◌,
  ◌∙◌,
  ℕ,
  zero,
  suc,
  ◌+◌,
  ◌-◌,
  List,
  [],
  ◌∷◌,
  Bool,
  true,
  false,
  cond,
  refl,
  sym,
  ap,
  arith,
  length,
}
use Rattle.std.specs.Prelude.{nat_lt, slice_index}
use Rattle.mp_program.specs.declared.program.Process.{Process}
use Rattle.mp_program.specs.declared.program.Program.{Program}
use Rattle.mp_program.specs.Weight.{calls_in}
use Rattle.process_plan.proofs.Census.{return_places, returns_to}
use Rattle.process_layout.specs.Counts.{returns_of}

-- how many of the first m forms have calls in them
abbrev calling : Program → List ℕ → ℕ → ℕ
calling p fs zero = 0
calling p fs (suc m) = cond {A = ℕ} (nat_lt 0 (calls_in p (slice_index fs m))) 1 0 + calling p fs m

calling_cons : (p : Program) (f : ℕ) (fs : List ℕ) (m : ℕ)
    → calling p (f ∷ fs) (suc m) ≡ cond {A = ℕ} (nat_lt 0 (calls_in p f)) 1 0 + calling p fs m
calling_cons p f fs zero = refl
calling_cons p f fs (suc m) = let rest = calling_cons p f fs m in omega (arith, rest)

returns_calling : (p : Program) (fs : List ℕ) → returns_of p fs ≡ calling p fs (length fs - 1)
returns_calling p [] = refl
returns_calling p (f ∷ []) = refl
returns_calling p (f ∷ g ∷ fs) =
    let rest = returns_calling p (g ∷ fs) in
    let first = calling_cons p f (g ∷ fs) (length fs) in
    let a : length (g ∷ fs) - 1 ≡ length fs = omega arith in
    let b : length (f ∷ g ∷ fs) - 1 ≡ suc (length fs) = omega arith in
    let c : calling p (g ∷ fs) (length (g ∷ fs) - 1) ≡ calling p (g ∷ fs) (length fs) = ap (calling p (g ∷ fs)) a in
    let d : calling p (f ∷ g ∷ fs) (length (f ∷ g ∷ fs) - 1) ≡ calling p (f ∷ g ∷ fs) (suc (length fs)) =
    ap (calling p (f ∷ g ∷ fs)) b in
    omega (arith, rest, first, c, d)

places_calling : (p : Program) (q : Process) (m : ℕ) → length (return_places p q m) ≡ calling p q.forms m
places_calling p q zero = refl
places_calling p q (suc m) = pick (nat_lt 0 (calls_in p (slice_index q.forms m))) (places_calling p q m)
  where
    pick : (b : Bool) → length (return_places p q m) ≡ calling p q.forms m
        → length (cond b (suc m ∷ return_places p q m) (return_places p q m)) ≡ cond {A = ℕ} b 1 0 + calling p q.forms m
    pick true h = omega (arith, h)
    pick false h = omega (arith, h)

-- they are counted in the forms and in the cells alike
pub returns_same : (p : Program) (q : Process) → returns_to p q ≡ returns_of p q.forms
returns_same p q = places_calling p q (length q.forms - 1) ∙ sym (returns_calling p q.forms)
