-- What the values that a clock gives say of an input.
use Rattle.std.proofs.Common.{◌≡◌, ℕ, zero, suc, ◌+◌, ◌<◌, List, [], ◌∷◌, Bool, true, false, cond, refl, sym, ◌∙◌, ap}
use Rattle.std.proofs.Common.{inl, inr, length, take, set, arith, get_or}
use Rattle.std.specs.Prelude.{not, ◌==◌}
use Rattle.std.specs.List.{list_any}
use Rattle.std.proofs.lemmas.Bool.{and_parts, not-true, ltb-true, eqb-true, eqb-false, eq-eqb, ne_eqb, cases_eq}
use Rattle.std.proofs.lemmas.Bool.{cond-true, cond-false}
use Rattle.std.proofs.lemmas.List.{get_or-set_same, get_or-set_other, length-set}
use Rattle.mp_base.specs.declared.pad.Pad.{Pad}
use Rattle.stimulus.specs.declared.given.Given.{Given}
use Rattle.stimulus.specs.Fitting.{bound_at, is_fitting, is_fitting_clock, are_fitting, value_given}
use Rattle.stimulus.proofs.Apart.{fails_at}

-- each clock fits, and each value of it
pub clock_at : (inputs : List Pad) (clocks : List (List Given)) (k : ℕ) (d : List Given)
    → are_fitting inputs clocks ≡ true → k < length clocks → is_fitting_clock inputs (get_or clocks k d) ≡ true
clock_at inputs [] k d h lt = absurd (omega arith)
clock_at inputs (c ∷ cs) zero d h lt = (and_parts _ _ h).0
clock_at inputs (c ∷ cs) (suc k) d h lt =
    clock_at inputs cs k d (and_parts (is_fitting_clock inputs c) (are_fitting inputs cs) h).1 (omega arith)

in_range : (inputs : List Pad) (i v : ℕ) → v < bound_at inputs i → i < length inputs
in_range [] i v h = absurd (omega arith)
in_range (p ∷ ps) zero v h = omega arith
in_range (p ∷ ps) (suc i) v h = let rest = in_range ps i v h in omega (arith, rest)

pub input_at : (inputs : List Pad) (gs : List Given) (k : ℕ) (g : Given) → is_fitting_clock inputs gs ≡ true
    → k < length gs → g ≡ get_or gs k g → g.input < length inputs
input_at inputs [] k g h lt is = absurd (omega arith)
input_at inputs (x ∷ gs) zero g h lt is =
    let fit = ltb-true x.value (bound_at inputs x.input) (and_parts (is_fitting inputs x) _ h).0 in
    omega (arith, in_range inputs x.input x.value fit, ap (λ (y : Given). y.input) is)
input_at inputs (x ∷ gs) (suc k) g h lt is =
    input_at inputs gs k g (and_parts _ (is_fitting_clock inputs gs) (and_parts (is_fitting inputs x) _ h).1).1
    (omega arith) is

-- two tests of which at most one passes may change places
swap : (a b : Bool) (x y z : ℕ) → (a ≡ true → b ≡ true → ⊥) → cond a x (cond b y z) ≡ cond b y (cond a x z)
swap true true x y z h = absurd (h refl refl)
swap true false x y z h = refl
swap false true x y z h = refl
swap false false x y z h = refl

-- one value more
pub value_more : (inputs : List Pad) (gs : List Given) (k : ℕ) (g : Given) (i : ℕ) → is_fitting_clock inputs gs ≡ true
    → k < length gs → g ≡ get_or gs k g
    → value_given (take (k + 1) gs) i ≡ cond (g.input == i) g.value (value_given (take k gs) i)
value_more inputs [] k g i h lt is = absurd (omega arith)
value_more inputs (x ∷ gs) zero g i h lt is = ap (λ (y : Given). cond (y.input == i) y.value 0) (sym is)
value_more inputs (x ∷ gs) (suc k) g i h lt is =
    let rest =
    and_parts (not (list_any (λ (y : Given). y.input == x.input) gs)) (is_fitting_clock inputs gs)
    (and_parts (is_fitting inputs x) _ h).1 in
    let e : suc k + 1 ≡ suc (k + 1) = omega arith in
    let other : (g.input == x.input) ≡ false =
    ap (λ (y : Given). y.input == x.input) is
    ∙ fails_at (λ (y : Given). y.input == x.input) gs k g (not-true _ rest.0) (omega arith) in
    ap (λ n. value_given (take n (x ∷ gs)) i) e
    ∙ ap (λ v. cond (x.input == i) x.value v) (value_more inputs gs k g i rest.1 (omega arith) is)
    ∙ swap (x.input == i) (g.input == i) x.value g.value (value_given (take k gs) i)
    (λ a b. eqb-false g.input x.input other (eqb-true g.input i b ∙ sym (eqb-true x.input i a)))

-- a value is written where it is given
pub written : (xs : List ℕ) (inputs : List Pad) (gs : List Given) (k : ℕ) (g : Given)
    → is_fitting_clock inputs gs ≡ true → k < length gs → g ≡ get_or gs k g → g.input < length xs
    → ((i : ℕ) → i < length xs → get_or xs i 0 ≡ value_given (take k gs) i) → (i : ℕ)
    → i < length (set xs g.input g.value) → get_or (set xs g.input g.value) i 0 ≡ value_given (take (k + 1) gs) i
written xs inputs gs k g h lt is within before i less =
    elim (cases_eq i g.input) [
      | inl same ↦
          ap (λ j. get_or (set xs g.input g.value) j 0) same ∙ get_or-set_same xs g.input g.value 0 within
          ∙ sym (value_more inputs gs k g i h lt is ∙ cond-true _ _ _ (eq-eqb g.input i (sym same)))
      | inr other ↦
          get_or-set_other xs g.input i g.value 0 other ∙ before i (omega (arith, length-set xs g.input g.value))
          ∙ sym (value_more inputs gs k g i h lt is ∙ cond-false _ _ _ (ne_eqb g.input i (λ e. other (sym e))))
    ]
