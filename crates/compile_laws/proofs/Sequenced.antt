-- What transfers that are a program's show where the program shows it.
use Rattle.std.proofs.Common.{ℕ, zero, suc, ◌≡◌, ◌<◌, ◌^◌, inl, inr, refl, sym, subst, ◌∙◌, arith, List, [], ◌∷◌}
use Rattle.std.proofs.Common.{length, map, Bool, true, false, eqb}
use Rattle.std.specs.Prelude.{All, slice_index, slice_index_or}
use Rattle.std.proofs.lemmas.Bool.{cond-false, ne_eqb}
use Rattle.mp_base.specs.declared.pad.Pad.{Pad}
use Rattle.mp_base.specs.declared.pad.Pads.{Pads}
use Rattle.mp_base.specs.PadBits.{Fit, bit_count}
use Rattle.mp_program.specs.declared.program.Program.{Program}
use Rattle.mp_program.specs.Pads.{Face, face, ArePadsOf, pad_limit, FitsPads}
use Rattle.mp_program.specs.Trace as source
use Rattle.rtl_form.specs.declared.rtl.Rtl.{Rtl}
use Rattle.rtl_form.specs.Trace as transfers
use Rattle.process_plan.specs.Same.{IsSame, InputsFit}

limit : (w : ℕ) → 2 ^ bit_count w ≡ pad_limit w
limit zero = refl
limit (suc w) = sym (cond-false (eqb (suc w) 0) 2 (2 ^ suc w) (ne_eqb (suc w) 0 (λ e. omega (arith, e))))

fits : (pads : List Pad) (words : List ℕ) → Fit pads words → FitsPads (map face pads) words
fits [] [] h = record { size = refl; fits = λ k lt. absurd (omega (arith, lt)) }
fits [] (w ∷ ws) h = absurd h
fits (p ∷ ps) [] h = absurd h
fits (p ∷ ps) (w ∷ ws) h = let r = fits ps ws h.1 in record { size = omega (arith, r.size); fits = at r }
  where
    at : FitsPads (map face ps) ws → (k : ℕ) → k < length (map face (p ∷ ps))
        → slice_index (w ∷ ws) k < pad_limit (slice_index (map (λ (x : Face). x.1) (map face (p ∷ ps))) k)
    at r zero lt = subst (λ n. w < n) (limit p.width) h.0
    at r (suc k) lt = r.fits k (omega (arith, lt))

all_fit : (p : Program) (pads : Pads) → ArePadsOf p pads → (inputs : List (List ℕ)) → All (Fit pads.inputs) inputs
    → InputsFit p inputs
all_fit p pads are inputs h k d lt = subst (λ faces. FitsPads faces (slice_index_or inputs k d)) are.inputs
    (fits pads.inputs (slice_index_or inputs k d) (h k d lt))

-- settled in the program, settled in its transfers
module _ (p : Program) (r : Rtl) (same : IsSame p r) where
  by_stores : (b : Bool) → transfers.stores r ≡ b → (inputs : List (List ℕ)) (k : ℕ)
      → source.IsSettled p inputs k → transfers.IsSettled r inputs k
  by_stores false e inputs k h = inl e
  by_stores true e inputs k (inl none) = let s = same.stores e in absurd (cc)
  by_stores true e inputs k (inr (j, lt, r)) = inr (j, lt, same.resets (slice_index_or inputs j []) e ∙ r)

  pub settles : (inputs : List (List ℕ)) (k : ℕ) → source.IsSettled p inputs k → transfers.IsSettled r inputs k
  settles inputs k h = by_stores (transfers.stores r) refl inputs k h

  pub shows : (inputs outputs : List (List ℕ)) → All (Fit (r.pads).inputs) inputs
      → source.IsTrace p inputs outputs → transfers.IsTrace r inputs outputs
  shows inputs outputs fit trace = (same.traces inputs outputs (all_fit p r.pads same.pads inputs fit)).0 trace
