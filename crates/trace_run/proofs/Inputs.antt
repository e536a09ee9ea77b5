-- What a program is given and shows fits its pads.
use Rattle.std.proofs.Common.{◌≡◌, ℕ, zero, suc, ◌^◌, ◌<◌, List, [], ◌∷◌, Bool, true, false, cond, refl, sym, ◌∙◌, ap}
use Rattle.std.proofs.Common.{subst, length, map, get_or, arith}
use Rattle.std.specs.Prelude.{◌==◌}
use Rattle.std.proofs.lemmas.Bool.{cond-false, ne_eqb}
use Rattle.std.proofs.lemmas.List.{length-map}
use Rattle.std.proofs.lemmas.Slice.Zip.{AllZip-long}
use Rattle.mp_base.specs.declared.pad.Pad.{Pad}
use Rattle.mp_base.specs.declared.pad.Pads.{Pads}
use Rattle.mp_program.specs.declared.program.Program.{Program}
use Rattle.mp_program.specs.State.{State, IsState}
use Rattle.mp_program.specs.Trace.{IsClock}
use Rattle.mp_fitting.specs.Fitting.{StateFits}
use Rattle.mp_program.specs.Pads.{ArePadsOf, Face, face, pad_limit, input_pads, output_pads, FitsPads}
use Rattle.mp_base.specs.PadBits.{bit_count, Fit}
use Rattle.stimulus.specs.Fitting.{bound_at}
use Rattle.trace_run.specs.Laws.{ClocksFit}

limit_of : (w : ℕ) → pad_limit w ≡ 2 ^ cond (w == 0) 1 w
limit_of w = either (w == 0)
  where
    either : (b : Bool) → cond b 2 (2 ^ w) ≡ 2 ^ cond b 1 w
    either true = refl
    either false = refl

limit_at : (ps : List Pad) (k : ℕ) → k < length ps
    → pad_limit (get_or (map (λ (x : Face). x.1) (map face ps)) k 0) ≡ bound_at ps k
limit_at [] k lt = absurd (omega (arith, lt))
limit_at (p ∷ ps) zero lt = limit_of p.width
limit_at (p ∷ ps) (suc k) lt = limit_at ps k (omega (arith, lt))

-- outputs that fit the pads of a program fit these pads
pub outputs_fit : (p : Program) (pads : Pads) (values : List ℕ) → ArePadsOf p pads → FitsPads (output_pads p) values
    → (k : ℕ) → k < length pads.outputs → get_or values k 0 < bound_at pads.outputs k
outputs_fit p pads values padded fits k lt =
    let P : List Face → Type 0 = λ fs. FitsPads fs values in
    let Q : ℕ → Type 0 = λ n. get_or values k 0 < n in
    let here : FitsPads (map face pads.outputs) values = subst P (sym padded.outputs) fits in
    subst Q (limit_at pads.outputs k lt) (here.fits k (omega (arith, length-map pads.outputs face, lt)))

pub many_outputs : (p : Program) (pads : Pads) → ArePadsOf p pads → length pads.outputs ≡ length (output_pads p)
many_outputs p pads padded = sym (length-map pads.outputs face) ∙ ap length padded.outputs

limit_bits : (w : ℕ) → pad_limit w ≡ 2 ^ bit_count w
limit_bits zero = refl
limit_bits (suc w) = cond-false (suc w == 0) 2 (2 ^ suc w) (ne_eqb (suc w) 0 (λ e. omega (arith, e)))

fits_at : (ps : List Pad) (vs : List ℕ) → Fit ps vs → (k : ℕ) → k < length vs
    → get_or vs k 0 < pad_limit (get_or (map (λ (x : Face). x.1) (map face ps)) k 0)
fits_at [] [] fit k lt = absurd (omega (arith, lt))
fits_at [] (v ∷ vs) fit k lt = absurd fit
fits_at (p ∷ ps) [] fit k lt = absurd fit
fits_at (p ∷ ps) (v ∷ vs) fit zero lt = let P : ℕ → Type 0 = λ n. v < n in subst P (sym (limit_bits p.width)) fit.0
fits_at (p ∷ ps) (v ∷ vs) fit (suc k) lt = fits_at ps vs fit.1 k (omega (arith, lt))

-- inputs that fit these pads fit those of a program
pub inputs_fit : (p : Program) (pads : Pads) (values : List ℕ) → ArePadsOf p pads → Fit pads.inputs values
    → FitsPads (input_pads p) values
inputs_fit p pads values padded fit =
    let P : List Face → Type 0 = λ fs. FitsPads fs values in
    let long : length values ≡ length pads.inputs =
    AllZip-long (λ (pad : Pad) (value : ℕ). value < 2 ^ bit_count pad.width) pads.inputs values fit in
    let here : FitsPads (map face pads.inputs) values = record {
      size = long ∙ sym (length-map pads.inputs face);
      fits = λ k lt. fits_at pads.inputs values fit k (omega (arith, lt, long, length-map pads.inputs face));
    } in
    subst P padded.inputs here

-- what a clock shows and the next state fit
pub clock_fits : (p : Program) (pads : Pads) (st after : State) (is os : List ℕ) → ClocksFit p → IsState p st
    → StateFits p st → ArePadsOf p pads
    → Fit pads.inputs is → IsClock p st is os after → FitsPads (output_pads p) os × StateFits p after
clock_fits p pads st after is os law state fits padded fit clock =
    law st after is os state fits (inputs_fit p pads is padded fit) clock
