-- What is shown has one sum of its settled clocks.
use Rattle.std.proofs.Common.{◌≡◌, ◌∙◌, ℕ, ◌<◌, ◌^◌, ◌%◌, List, [], true, length, map, refl, sym, ap}
use Rattle.std.proofs.Common.{inl, inr, arith}
use Rattle.std.specs.Prelude.{sum, slice_index, slice_index_or}
use Rattle.std.specs.List.{range_with_len}
use Rattle.std.proofs.lemmas.Grind.{same_number_lists}
use Rattle.std.proofs.lemmas.List.FromFn.{get_or-map-range_with_len, length-map-range_with_len}
use Rattle.mp_base.proofs.Decisions.{Decided, is_false, is_true, one_of, some_below}
use Rattle.mp_program.specs.declared.program.Program.{Program}
use Rattle.mp_program.specs.Step.{resets}
use Rattle.mp_program.specs.Trace.{IsSettled, stores}
use Rattle.settled_sum.specs.Sum.{IsSettledSum}
use Rattle.settled_sum.specs.Laws.{SumExists, SumOnce}

settles : (p : Program) (inputs : List (List ℕ)) (k : ℕ) → Decided (IsSettled p inputs k)
settles p inputs k = one_of (is_false (stores p))
    (some_below (λ j. resets p.defs (slice_index_or inputs j []) ≡ true)
    (λ j. is_true (resets p.defs (slice_index_or inputs j []))) k)

module _ (p : Program) (inputs outputs : List (List ℕ)) where
  -- what a clock adds
  abbrev addend : (k : ℕ) → Decided (IsSettled p inputs k) → ℕ
  addend k (inl is) = slice_index (slice_index_or outputs k []) 0
  addend k (inr isnt) = 0

  abbrev added : ℕ → ℕ
  added k = addend k (settles p inputs k)

  if_settled : (k : ℕ) (d : Decided (IsSettled p inputs k)) → IsSettled p inputs k
      → addend k d ≡ slice_index (slice_index_or outputs k []) 0
  if_settled k (inl is) settled = refl
  if_settled k (inr isnt) settled = absurd (isnt settled)

  if_unsettled : (k : ℕ) (d : Decided (IsSettled p inputs k)) → (IsSettled p inputs k → ⊥) → addend k d ≡ 0
  if_unsettled k (inl is) unsettled = absurd (unsettled is)
  if_unsettled k (inr isnt) unsettled = refl

  added_at : (k : ℕ) → k < length outputs → slice_index (map added (range_with_len 0 (length outputs))) k ≡ added k
  added_at k lt = get_or-map-range_with_len added 0 (length outputs) k k 0 lt (omega arith)

  same_addend : (a b : ℕ) (x : IsSettledSum p inputs outputs a) (y : IsSettledSum p inputs outputs b) (k : ℕ)
      → k < length outputs → Decided (IsSettled p inputs k) → slice_index x.addends k ≡ slice_index y.addends k
  same_addend a b x y k lt (inl is) = x.settled k lt is ∙ sym (y.settled k lt is)
  same_addend a b x y k lt (inr isnt) = x.unsettled k lt isnt ∙ sym (y.unsettled k lt isnt)

pub exist : SumExists
exist p inputs outputs = (
  sum (map (added p inputs outputs) (range_with_len 0 (length outputs))) % 2 ^ 64,
  record {
    addends = map (added p inputs outputs) (range_with_len 0 (length outputs));
    as_many = length-map-range_with_len (added p inputs outputs) 0 (length outputs);
    settled = λ k lt is. added_at p inputs outputs k lt ∙ if_settled p inputs outputs k (settles p inputs k) is;
    unsettled = λ k lt isnt.
        added_at p inputs outputs k lt ∙ if_unsettled p inputs outputs k (settles p inputs k) isnt;
    total_is = refl;
  },
)

pub once : SumOnce
once p inputs outputs a b x y =
    x.total_is
    ∙ ap (λ addends. sum addends % 2 ^ 64)
    (same_number_lists x.addends y.addends (x.as_many ∙ sym y.as_many)
    (λ k lt. same_addend p inputs outputs a b x y k (omega (arith, lt, x.as_many)) (settles p inputs k)))
    ∙ sym y.total_is
