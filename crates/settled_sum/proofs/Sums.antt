-- What is shown behind the first clock adds up to the sum of the settled clocks.
use Rattle.std.proofs.Common.{◌≡◌, ◌∙◌, ℕ, zero, suc, ◌+◌, ◌<◌, ◌^◌, ◌%◌, List, [], ◌∷◌, length, map, refl, sym, ap}
use Rattle.std.proofs.Common.{arith}
use Rattle.std.specs.Prelude.{All, sum, slice_index, slice_index_or}
use Rattle.std.specs.List.{sum_by}
use Rattle.std.proofs.lemmas.List.{length-map, get_or-map}
use Rattle.std.proofs.lemmas.List.Sums.{sum_by-cons, sum-map}
use Rattle.mp_base.specs.declared.value.Trit.{Trit}
use Rattle.mp_program.specs.declared.program.Program.{Program}
use Rattle.mp_program.specs.State.{IsState, zero_state}
use Rattle.mp_program.specs.Trace.{IsSettled}
use Rattle.mp_program.proofs.Lengths.{length_trace}
use Rattle.mp_fitting.specs.Fitting.{StateFits}
use Rattle.stimulus.specs.Inputs.{inputs_at, inputs_of}
use Rattle.mp_base.specs.PadBits.{Fit}
use Rattle.transcript.proofs.Inputs.{clocks_fit}
use Rattle.trace_run.specs.Laws.{ClocksFit, StatesLast}
use Rattle.trace_run.proofs.Inputs.{many_outputs, outputs_fit}
use Rattle.settled_sum.specs.Sum.{IsSettledSum, first_number, sum_shown}
use Rattle.settled_sum.specs.Laws.{SumsSettle}
use Rattle.settled_sum.proofs.Numbers.{first_value}
use Rattle.settled_sum.proofs.Fitting.{trace_fits}

abbrev first : List ℕ → ℕ
first values = slice_index values 0

same_sums : (shown : List (List (List Trit))) (outputs : List (List ℕ)) → length shown ≡ length outputs
    → ((k : ℕ) → k < length shown → first_number (slice_index_or shown k []) ≡ first (slice_index_or outputs k []))
    → sum_by first_number shown ≡ sum_by first outputs
same_sums [] [] many agree = refl
same_sums [] (v ∷ vs) many agree = absurd (omega (arith, many))
same_sums (s ∷ ss) [] many agree = absurd (omega (arith, many))
same_sums (s ∷ ss) (v ∷ vs) many agree =
    sum_by-cons first_number s ss ∙ ap (λ n. n + sum_by first_number ss) (agree 0 (omega arith))
    ∙ ap (λ n. first v + n) (same_sums ss vs (omega (arith, many)) (λ k lt. agree (suc k) (omega (arith, lt))))
    ∙ sym (sum_by-cons first v vs)

-- where all clocks but the first are settled, and what they show are the values
sum_of : (p : Program) (inputs outputs : List (List ℕ)) (shown : List (List (List Trit)))
    → (IsSettled p inputs 0 → ⊥) → ((k : ℕ) → IsSettled p inputs (suc k)) → 0 < length outputs
    → length shown ≡ length outputs
    → ((k : ℕ) → k < length shown → IsSettled p inputs k
    → first_number (slice_index_or shown k []) ≡ first (slice_index_or outputs k []))
    → IsSettledSum p inputs outputs (sum_shown shown)
sum_of p inputs [] shown unsettled settled some many agree = absurd (omega (arith, some))
sum_of p inputs (v ∷ vs) [] unsettled settled some many agree = absurd (omega (arith, many))
sum_of p inputs (v ∷ vs) (s ∷ ss) unsettled settled some many agree = record {
  addends = 0 ∷ map first vs;
  as_many = let e = length-map vs first in omega (arith, e);
  settled = behind;
  unsettled = before;
  total_is =
      ap (λ n. n % 2 ^ 64)
      (same_sums ss vs (omega (arith, many)) (λ k lt. agree (suc k) (omega (arith, lt)) (settled k))
      ∙ sym (sum-map first vs) ∙ sym (none (sum (map first vs)))
      ∙ sym (sum_by-cons (λ (n : ℕ). n) 0 (map first vs)));
}
  where
    none : (n : ℕ) → 0 + n ≡ n
    none n = omega arith

    behind : (k : ℕ) → k < length (v ∷ vs) → IsSettled p inputs k
        → slice_index (0 ∷ map first vs) k ≡ first (slice_index_or (v ∷ vs) k [])
    behind zero lt is = absurd (unsettled is)
    behind (suc k) lt is = get_or-map first vs k [] 0 (omega (arith, lt))

    before : (k : ℕ) → k < length (v ∷ vs) → ¬ IsSettled p inputs k → slice_index (0 ∷ map first vs) k ≡ 0
    before zero lt isnt = refl
    before (suc k) lt isnt = absurd (isnt (settled k))

module _ (p : Program) (fits : ClocksFit p) (last : StatesLast p) (is : IsState p (zero_state p))
    (fit : StateFits p (zero_state p)) where
  pub settle : SumsSettle p
  settle given shown outputs padded some any clocks told =
      let pads = given.pads in
      let inputs = inputs_of given in
      let all : All (Fit pads.inputs) inputs = clocks_fit pads.inputs given.clocks 0 given.fits in
      let long = length_trace p (zero_state p) inputs outputs told.trace in
      let many = length-map given.clocks (inputs_at (length pads.inputs)) in
      sum_of p inputs outputs shown clocks.first clocks.later (omega (arith, long, many, any)) told.as_many
      (λ k lt settled.
      let values = slice_index_or outputs k [] in
      let fitting =
      trace_fits p pads fits last padded (zero_state p) is fit inputs outputs all told.trace k
      (omega (arith, lt, told.as_many)) in
      let width = many_outputs p pads padded in
      ap first_number (told.agrees k lt settled)
      ∙ first_value pads.outputs values some (omega (arith, fitting.size, width, some))
      (outputs_fit p pads values padded fitting 0 some))
