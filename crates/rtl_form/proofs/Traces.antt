-- Inputs have exactly one trace.
use Rattle.std.proofs.Common.{◌≡◌, ◌⊎◌, inl, inr, ◌∙◌, ℕ, zero, suc, ◌+◌, ◌<◌, ◌≤◌, List, [], ◌∷◌, refl, sym, ap, subst}
use Rattle.std.proofs.Common.{length, arith}
use Rattle.std.specs.Prelude.{slice_index}
use Rattle.std.proofs.lemmas.Bool.{cases_lt}
use Rattle.std.proofs.lemmas.List.{ext_get_or}
use Rattle.rtl_form.specs.declared.rtl.CellKind.TheVariants.{Output}
use Rattle.rtl_form.specs.declared.rtl.Cell.{Cell}
use Rattle.rtl_form.specs.declared.rtl.Rtl.{Rtl}
use Rattle.mp_base.specs.Entries.{IsAt}
use Rattle.mp_base.proofs.Entries.{within}
use Rattle.rtl_form.specs.Step.{next_state, Shows}
use Rattle.rtl_form.specs.Trace.{IsTraceFrom}
use Rattle.rtl_form.specs.Sound.{IsSound, CellFits}
use Rattle.rtl_form.proofs.Environment.{one_environment, an_environment}

module _ (r : Rtl) (sound : IsSound r) where
  one_showing : (env a b : List ℕ) → Shows r env a → Shows r env b → a ≡ b
  one_showing env a b one two = let sa = one.size in let sb = two.size in
      ext_get_or 0 a b (omega (arith, sa, sb)) (λ k lt.
      let (c, (x, at, is), only) = sound.output_cells k (omega (arith, lt, sa)) in
      one.each c x k at is ∙ sym (two.each c x k at is))

  fits : (c : ℕ) (x : Cell) (k : ℕ) → IsAt r.cells c x → x.kind ≡ Output k → k < length (r.pads).outputs
  fits c x k at is = let (pad, at_pad, word) = subst (CellFits r x) is (sound.cells c x at) in
      within (r.pads).outputs k at_pad

  -- the cell of an output pad
  cell_of : ℕ → ℕ
  cell_of k = elim (cases_lt k (length (r.pads).outputs)) [ inl lt ↦ (sound.output_cells k lt).0 | inr past ↦ 0 ]

  is_cell : (k c : ℕ) (x : Cell) → IsAt r.cells c x → x.kind ≡ Output k → cell_of k ≡ c
  unfolding cell_of
  is_cell k c x at is = pick (cases_lt k (length (r.pads).outputs)) (fits c x k at is)
    where
      pick : (d : (k < length (r.pads).outputs) ⊎ (length (r.pads).outputs ≤ k)) → k < length (r.pads).outputs
          → elim d as (λ _. ℕ) [ inl lt ↦ (sound.output_cells k lt).0 | inr past ↦ 0 ] ≡ c
      pick (inl lt) inside_k = sym ((sound.output_cells k lt).2 c x at is)
      pick (inr past) inside_k = absurd (omega (arith, past, inside_k))

  -- the values of the cells of m output pads from the n-th on
  shown_from : (env : List ℕ) (n m : ℕ) → List ℕ
  shown_from env n zero = []
  shown_from env n (suc m) = slice_index env (cell_of n) ∷ shown_from env (suc n) m

  length_shown : (env : List ℕ) (n m : ℕ) → length (shown_from env n m) ≡ m
  unfolding shown_from
  length_shown env n zero = refl
  length_shown env n (suc m) = ap suc (length_shown env (suc n) m)

  shown_at : (env : List ℕ) (n m i : ℕ) → i < m → slice_index (shown_from env n m) i ≡ slice_index env (cell_of (n + i))
  unfolding shown_from
  shown_at env n zero i lt = absurd (omega (arith, lt))
  shown_at env n (suc m) zero lt = let same : n ≡ n + 0 = omega arith in ap (λ k. slice_index env (cell_of k)) same
  shown_at env n (suc m) (suc i) lt =
      let same : suc n + i ≡ n + suc i = omega arith in
      shown_at env (suc n) m i (omega (arith, lt)) ∙ ap (λ k. slice_index env (cell_of k)) same

  a_showing : (env : List ℕ) → (outputs : List ℕ) × Shows r env outputs
  a_showing env =
      let n = length (r.pads).outputs in (
        shown_from env 0 n,
        record {
          size = length_shown env 0 n;
          each = λ c x k at is.
              let same : 0 + k ≡ k = omega arith in
              shown_at env 0 n k (fits c x k at is) ∙ ap (λ j. slice_index env (cell_of j)) same
              ∙ ap (slice_index env) (is_cell k c x at is);
        },
      )

  -- from a state, the same inputs show the same outputs
  pub one_trace_from : (inputs : List (List ℕ)) (state : List ℕ) (a b : List (List ℕ)) → IsTraceFrom r state inputs a
      → IsTraceFrom r state inputs b → a ≡ b
  one_trace_from [] state [] [] s t = refl
  one_trace_from [] state [] (y ∷ b) s t = absurd t
  one_trace_from [] state (x ∷ a) b s t = absurd s
  one_trace_from (i ∷ is) state [] b s t = absurd s
  one_trace_from (i ∷ is) state (x ∷ a) [] s t = absurd t
  one_trace_from (i ∷ is) state (x ∷ a) (y ∷ b) (after, clock, rest) (after2, clock2, rest2) =
      let same : clock.env ≡ clock2.env =
      one_environment r sound state i clock.env clock2.env clock.environment clock2.environment in
      let shown : x ≡ y = one_showing clock.env x y clock.shown (subst (λ z. Shows r z y) (sym same) clock2.shown) in
      let next : after2 ≡ after = clock2.next ∙ ap (next_state r state i) (sym same) ∙ sym clock.next in
      ap (λ z. z ∷ a) shown
      ∙ ap (λ zs. y ∷ zs) (one_trace_from is after a b rest (subst (λ z. IsTraceFrom r z is b) next rest2))

  -- from a state, inputs show outputs
  pub a_trace : (inputs : List (List ℕ)) (state : List ℕ)
      → (outputs : List (List ℕ)) × IsTraceFrom r state inputs outputs
  a_trace [] state = ([], tt)
  a_trace (i ∷ is) state =
      let (env, environment) = an_environment r sound state i in
      let (outputs, shown) = a_showing env in
      let after = next_state r state i env in
      let (rest, trace) = a_trace is after in
      (outputs ∷ rest, (after, record { env = env; environment = environment; shown = shown; next = refl }, trace))
