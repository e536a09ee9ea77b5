-- The run of a circuit that adds up what it shows.
use Rattle.std.proofs.Common.{◌≡◌, ◌∙◌, ℕ, ◌+◌, ◌*◌, ◌/◌, ◌%◌, ◌^◌, ◌<◌, List, [], ◌∷◌, true, false, cond, Option}
use Rattle.std.proofs.Common.{Ok, length, take, refl, sym, ap, subst, arith, add_assoc}
use Rattle.std.specs.List.{sum_by}
use Rattle.std.proofs.Math.Nat.{mod-eq_of_lt, mod-lt, mod-add-div, add-mul-mod_self_left}
use Rattle.std.proofs.lemmas.List.{length-map, take_all}
use Rattle.std.proofs.lemmas.List.Sums.{sum_by-cons}
use Rattle.std.proofs.lemmas.Nat.{pow_pos}
use Rattle.mp_base.specs.declared.value.Trit.{Trit}
use Rattle.mp_base.specs.declared.value.Trit.TheVariants.{X}
use Rattle.mp_base.specs.declared.pad.Pads.{Pads}
use Rattle.switch_net.specs.declared.network.Network.{Network}
use Rattle.switch_net.specs.Clock.{IsClock}
use Rattle.switch_net.specs.Values.{value_at}
use Rattle.stimulus.specs.declared.given.Stimulus.{Stimulus}
use Rattle.stimulus.specs.Inputs.{inputs_at, inputs_of}
use Rattle.stimulus.specs.Transcript.{lines_text}
use Rattle.transcript.specs.Transcript.{RunsAlong}
use Rattle.transcript.specs.Running.{PrintsClocks}
use Rattle.transcript.proofs.Transcripts.{runs_keep}
use Rattle.sim_run.specs.Transcript.{NetworkSteps}
use Rattle.settled_sum.specs.Sum.{first_number, sum_shown}
use Rattle.made_run.specs.Summing.{Summed, SummingSteps}
use Rattle.made_run.specs.Summary.{IsSummedRun}

-- ---- the sum

some_more : (a b m : ℕ) → (a % m + b) % m ≡ (a + b) % m
some_more a b m =
    let whole : a % m + m * (a / m) ≡ a = mod-add-div a m in
    let e : a % m + b + m * (a / m) ≡ a + b = omega (arith, whole) in
    sym (add-mul-mod_self_left (a % m + b) m (a / m)) ∙ ap (λ n. n % m) e

begun_sum : (before after : Summed) (is : List (List ℕ)) (os : List (List (List Trit))) → before.begun ≡ true
    → before.sum < 2 ^ 64 → RunsAlong SummingSteps before is os after
    → after.sum ≡ (before.sum + sum_by first_number os) % 2 ^ 64
begun_sum before after [] [] begun small runs =
    let none : before.sum + 0 ≡ before.sum = omega arith in
    ap (λ (s : Summed). s.sum) runs ∙ sym (ap (λ n. n % 2 ^ 64) none ∙ mod-eq_of_lt small)
begun_sum before after [] (o ∷ os) begun small runs = absurd runs
begun_sum before after (i ∷ is) [] begun small runs = absurd runs
begun_sum before after (i ∷ is) (o ∷ os) begun small runs =
    let next = runs.0 in
    let step = runs.1 in
    let a = before.sum in
    let b = first_number o in
    let s = sum_by first_number os in
    let now : next.sum ≡ (a + b) % 2 ^ 64 = step.sum ∙ ap (λ t. cond t ((a + b) % 2 ^ 64) a) begun in
    let less : (a + b) % 2 ^ 64 < 2 ^ 64 = mod-lt (a + b) (pow_pos 64) in
    let rest = begun_sum next after is os step.begun (subst (λ n. n < 2 ^ 64) (sym now) less) runs.2 in
    rest ∙ ap (λ n. (n + s) % 2 ^ 64) now ∙ some_more (a + b) s (2 ^ 64)
    ∙ ap (λ n. n % 2 ^ 64) (add_assoc a b s ∙ ap (λ n. a + n) (sym (sum_by-cons first_number o os)))

-- from the first clock on
whole_sum : (before after : Summed) (is : List (List ℕ)) (os : List (List (List Trit))) → before.begun ≡ false
    → before.sum ≡ 0 → RunsAlong SummingSteps before is os after → after.sum ≡ sum_shown os
whole_sum before after [] [] begun zero runs = ap (λ (s : Summed). s.sum) runs ∙ zero
whole_sum before after [] (o ∷ os) begun zero runs = absurd runs
whole_sum before after (i ∷ is) [] begun zero runs = absurd runs
whole_sum before after (i ∷ is) (o ∷ os) begun zero runs =
    let next = runs.0 in
    let step = runs.1 in
    let s = sum_by first_number os in
    let now : next.sum ≡ 0 =
    step.sum ∙ ap (λ t. cond t ((before.sum + first_number o) % 2 ^ 64) before.sum) begun ∙ zero in
    let none : 0 + s ≡ s = omega arith in
    begun_sum next after is os step.begun (subst (λ n. n < 2 ^ 64) (sym now) (pow_pos 64)) runs.2
    ∙ ap (λ n. (n + s) % 2 ^ 64) now ∙ ap (λ n. n % 2 ^ 64) none

-- ---- the circuit

module _ (net : Network) (pads : Pads) where
  abbrev Has : Summed → Type 0
  Has s = ((s.circuit).network ≡ net) × ((s.circuit).pads ≡ pads)

  -- a step of the circuit is one of its network
  step_of : (s t : Summed) (i : List ℕ) (o : List (List Trit)) → Has s → SummingSteps s i o t
      → Has t × NetworkSteps net pads (value_at (s.circuit).values) i o (value_at (t.circuit).values)
  step_of s t i o has step =
      let now = step.circuit in
      let P : Network → Type 0 =
      λ n. IsClock n (s.circuit).pads i (value_at (s.circuit).values) o (value_at (t.circuit).values) in
      let Q : Pads → Type 0 =
      λ ps. IsClock net ps i (value_at (s.circuit).values) o (value_at (t.circuit).values) in
      ((now.network ∙ has.0, now.pads ∙ has.1), subst Q has.1 (subst P has.0 now.clock))

  runs_of : (before after : Summed) (is : List (List ℕ)) (os : List (List (List Trit))) → Has before
      → RunsAlong SummingSteps before is os after
      → RunsAlong (NetworkSteps net pads) (value_at (before.circuit).values) is os (value_at (after.circuit).values)
  runs_of before after [] [] has runs = ap (λ (s : Summed). value_at (s.circuit).values) runs
  runs_of before after [] (o ∷ os) has runs = absurd runs
  runs_of before after (i ∷ is) [] has runs = absurd runs
  runs_of before after (i ∷ is) (o ∷ os) has runs =
      let here = step_of before runs.0 i o has runs.1 in
      (value_at ((runs.0).circuit).values, here.1, runs_of runs.0 after is os here.0 runs.2)

-- the network stays the same
pub network_kept : (before after : Summed) (is : List (List ℕ)) (os : List (List (List Trit)))
    → RunsAlong SummingSteps before is os after → (after.circuit).network ≡ (before.circuit).network
network_kept before after is os runs =
    runs_keep SummingSteps (λ (s : Summed). (s.circuit).network ≡ (before.circuit).network)
    (λ s t i o same step. (step.circuit).network ∙ same) before after is os refl runs

-- what was run along all clocks from all values X
pub summed_run : {T E : Type 0} (net : Network) (given : Stimulus) (before after : Summed) (x y : Option (List ℕ))
    (u : T) → (before.circuit).network ≡ net → (before.circuit).pads ≡ given.pads
    → value_at (before.circuit).values ≡ (λ node. X) → before.begun ≡ false → before.sum ≡ 0
    → PrintsClocks {T = T} {E = E} SummingSteps given before after x y (Ok u)
    → IsSummedRun net given (value_at (after.circuit).values) after.sum
summed_run {T} {E} net given before after x y u network pads unknown begun zero prints =
    let inputs = inputs_of given in
    let shown = prints.shown in
    let many : length inputs ≡ length given.clocks = length-map given.clocks (inputs_at (length (given.pads).inputs)) in
    let all = prints.all in
    let whole : take (length shown) inputs ≡ inputs = take_all (length shown) inputs (omega (arith, many, all)) in
    let runs : RunsAlong SummingSteps before inputs shown after =
    subst (λ is. RunsAlong SummingSteps before is shown after) whole prints.runs in
    let of_net = runs_of net given.pads before after inputs shown (network, pads) runs in
    let P : (ℕ → Trit) → Type 0 =
    λ v. RunsAlong (NetworkSteps net given.pads) v inputs shown (value_at (after.circuit).values) in
    record {
      front = lines_text 0 (given.pads).outputs shown;
      transcript = record { shown = shown; runs = subst P unknown of_net; lines = refl };
      sum_is = whole_sum before after inputs shown begun zero runs;
    }
