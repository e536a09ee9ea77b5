-- What a stimulus gives its input pads fits them.
use Rattle.std.proofs.Common.{◌≡◌, ℕ, zero, suc, ◌+◌, ◌<◌, ◌^◌, List, [], ◌∷◌, true, inl, inr, length, map, drop}
use Rattle.std.proofs.Common.{get_or, sym, subst, arith}
use Rattle.std.specs.Prelude.{not, ◌==◌, All}
use Rattle.std.specs.List.{list_any, range_with_len}
use Rattle.std.proofs.Math.Pow.{pow_mono}
use Rattle.std.proofs.lemmas.Bool.{and_parts, ltb-true, eq-eqb, ne_eqb, cases_eq, cond-true, cond-false}
use Rattle.std.proofs.lemmas.List.FromFn.{fill_by_all}
use Rattle.mp_base.proofs.PadBits.{same_count}
use Rattle.mp_base.specs.declared.pad.Pad.{Pad}
use Rattle.stimulus.specs.declared.given.Given.{Given}
use Rattle.mp_base.specs.PadBits.{Fit}
use Rattle.stimulus.specs.Rules.{bits_of, bound}
use Rattle.stimulus.specs.Fitting.{bound_at, is_fitting, is_fitting_clock, are_fitting, value_given}
use Rattle.stimulus.specs.Inputs.{inputs_at}

some_at : (pads : List Pad) (i : ℕ) → i < length pads → 0 < bound_at pads i
some_at [] i lt = absurd (omega (arith, lt))
some_at (p ∷ ps) zero lt = let e = pow_mono {i = 0} {j = bits_of p} (omega arith) in omega (arith, e)
some_at (p ∷ ps) (suc i) lt = some_at ps i (omega (arith, lt))

value_fits : (pads : List Pad) (gs : List Given) (i : ℕ) → is_fitting_clock pads gs ≡ true → i < length pads
    → value_given gs i < bound_at pads i
value_fits pads [] i h lt = some_at pads i lt
value_fits pads (g ∷ gs) i h lt =
    let parts = and_parts (is_fitting pads g) _ h in
    let rest = and_parts (not (list_any (λ (y : Given). y.input == g.input) gs)) (is_fitting_clock pads gs) parts.1 in
    let fit : g.value < bound_at pads g.input = ltb-true g.value (bound_at pads g.input) parts.0 in
    let P : ℕ → Type 0 = λ j. g.value < bound_at pads j in
    let Q : ℕ → Type 0 = λ n. n < bound_at pads i in
    elim (cases_eq g.input i) [
      | inl same ↦ subst Q (sym (cond-true _ _ _ (eq-eqb g.input i same))) (subst P same fit)
      | inr other ↦ subst Q (sym (cond-false _ _ _ (ne_eqb g.input i other))) (value_fits pads gs i rest.1 lt)
    ]

fits_from : (pads : List Pad) (f : ℕ → ℕ) (a : ℕ) → ((i : ℕ) → i < length pads → f (a + i) < bound_at pads i)
    → Fit pads (map f (range_with_len a (length pads)))
fits_from [] f a below = tt
fits_from (p ∷ ps) f a below =
    let P : ℕ → Type 0 = λ n. f a < 2 ^ n in
    let Q : ℕ → Type 0 = λ n. f n < bound p in (
      subst P (same_count p.width) (subst Q (let e : a + 0 ≡ a = omega arith in e) (below 0 (omega arith))),
      fits_from ps f (a + 1) (λ i lt.
          let R : ℕ → Type 0 = λ n. f n < bound_at ps i in
          subst R (let e : a + suc i ≡ a + 1 + i = omega arith in e) (below (suc i) (omega (arith, lt)))),
    )

clock_fits : (pads : List Pad) (gs : List Given) → is_fitting_clock pads gs ≡ true
    → Fit pads (inputs_at (length pads) gs)
clock_fits pads gs h = fits_from pads (value_given gs) 0 (λ i lt.
    let P : ℕ → Type 0 = λ n. value_given gs n < bound_at pads i in
    subst P (let e : i ≡ 0 + i = omega arith in e) (value_fits pads gs i h lt))

-- each clock from one on
pub clocks_fit : (pads : List Pad) (clocks : List (List Given)) (k : ℕ) → are_fitting pads clocks ≡ true
    → All (Fit pads) (map (inputs_at (length pads)) (drop k clocks))
clocks_fit pads [] zero h i d lt = absurd (omega (arith, lt))
clocks_fit pads [] (suc k) h i d lt = absurd (omega (arith, lt))
clocks_fit pads (c ∷ cs) zero h zero d lt =
    clock_fits pads c (and_parts (is_fitting_clock pads c) (are_fitting pads cs) h).0
clocks_fit pads (c ∷ cs) zero h (suc i) d lt =
    clocks_fit pads cs zero (and_parts (is_fitting_clock pads c) (are_fitting pads cs) h).1 i d (omega (arith, lt))
clocks_fit pads (c ∷ cs) (suc k) h i d lt =
    clocks_fit pads cs k (and_parts (is_fitting_clock pads c) (are_fitting pads cs) h).1 i d lt

-- one clock
pub given_fits : (pads : List Pad) (clocks : List (List Given)) (k : ℕ) → are_fitting pads clocks ≡ true
    → k < length clocks
    → Fit pads (inputs_at (length pads) (get_or clocks k []))
given_fits pads [] k h lt = absurd (omega (arith, lt))
given_fits pads (c ∷ cs) zero h lt = clock_fits pads c (and_parts (is_fitting_clock pads c) (are_fitting pads cs) h).0
given_fits pads (c ∷ cs) (suc k) h lt =
    given_fits pads cs k (and_parts (is_fitting_clock pads c) (are_fitting pads cs) h).1 (omega (arith, lt))

-- the values that were read are those that the clock gives
pub values_are : (gs : List Given) (n : ℕ) (values : List ℕ) → length values ≡ n
    → ((i : ℕ) → i < length values → get_or values i 0 ≡ value_given gs i) → values ≡ inputs_at n gs
values_are gs n values size are = fill_by_all (value_given gs) values n 0 size (λ i lt. are i (omega (arith, lt, size)))
