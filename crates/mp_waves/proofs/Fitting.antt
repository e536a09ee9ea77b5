-- Inputs that fit pads fit those of a program.
use Rattle.std.proofs.Common.{◌≡◌, ℕ, zero, suc, ◌^◌, ◌<◌, List, [], ◌∷◌, refl, sym, ◌∙◌, ap}
use Rattle.std.proofs.Common.{subst, length, map, get_or, arith}
use Rattle.std.specs.Prelude.{◌==◌}
use Rattle.std.proofs.lemmas.Bool.{cond-false, ne_eqb}
use Rattle.std.proofs.lemmas.List.{length-map}
use Rattle.std.proofs.lemmas.Slice.Zip.{AllZip-long}
use Rattle.mp_base.specs.declared.pad.Pad.{Pad}
use Rattle.mp_base.specs.declared.pad.Pads.{Pads}
use Rattle.mp_program.specs.declared.program.Program.{Program}
use Rattle.mp_program.specs.Pads.{ArePadsOf, Face, face, pad_limit, input_pads, output_pads, FitsPads}
use Rattle.mp_base.specs.PadBits.{bit_count, Fit}

limit_bits : (w : ℕ) → pad_limit w ≡ 2 ^ bit_count w
limit_bits zero = refl
limit_bits (suc w) = cond-false (suc w == 0) 2 (2 ^ suc w) (ne_eqb (suc w) 0 (λ e. omega (arith, e)))

fits_at : (ps : List Pad) (vs : List ℕ) → Fit ps vs → (k : ℕ) → k < length vs
    → get_or vs k 0 < pad_limit (get_or (map (λ (x : Face). x.1) (map face ps)) k 0)
fits_at [] [] fit k lt = absurd (omega (arith, lt))
fits_at [] (v ∷ vs) fit k lt = absurd fit
fits_at (p ∷ ps) [] fit k lt = absurd fit
fits_at (p ∷ ps) (v ∷ vs) fit zero lt = let P : ℕ → Type 0 = λ n. v < n in subst P (sym (limit_bits p.width)) fit.0
fits_at (p ∷ ps) (v ∷ vs) fit (suc k) lt = fits_at ps vs fit.1 k (omega (arith, lt))

-- inputs that fit these pads fit those of a program
pub inputs_fit : (p : Program) (pads : Pads) (values : List ℕ) → ArePadsOf p pads → Fit pads.inputs values
    → FitsPads (input_pads p) values
inputs_fit p pads values padded fit =
    let P : List Face → Type 0 = λ fs. FitsPads fs values in
    let long : length values ≡ length pads.inputs =
    AllZip-long (λ (pad : Pad) (value : ℕ). value < 2 ^ bit_count pad.width) pads.inputs values fit in
    let here : FitsPads (map face pads.inputs) values = record {
      size = long ∙ sym (length-map pads.inputs face);
      fits = λ k lt. fits_at pads.inputs values fit k (omega (arith, lt, long, length-map pads.inputs face));
    } in
    subst P padded.inputs here

pub many_outputs : (p : Program) (pads : Pads) → ArePadsOf p pads → length pads.outputs ≡ length (output_pads p)
many_outputs p pads padded = sym (length-map pads.outputs face) ∙ ap length padded.outputs
