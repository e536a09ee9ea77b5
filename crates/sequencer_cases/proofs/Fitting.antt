-- Values that fit their pads fit those of the program.
use Rattle.std.proofs.Common.{◌≡◌, ◌∙◌, inl, inr, ℕ, ◌+◌, ◌<◌, List, [], ◌∷◌, ◌++◌, sym, ap, subst}
use Rattle.std.proofs.Common.{arith}
use Rattle.std.proofs.Common.{get_or, length, map}
use Rattle.std.specs.Prelude.{slice_index}
use Rattle.std.proofs.lemmas.Bool.{cases_lt}
use Rattle.std.proofs.lemmas.Option.{get_or_from_slice_get}
use Rattle.std.proofs.lemmas.List.{get_or_append_left, length-map, length_push}
use Rattle.mp_base.specs.declared.pad.Pad.{Pad}
use Rattle.mp_base.specs.declared.pad.Pads.{Pads}
use Rattle.mp_base.proofs.Entries.{get_or_pushed, map_get, some_entry, within}
use Rattle.mp_program.specs.declared.program.Program.{Program}
use Rattle.mp_program.specs.Pads.{ArePadsOf, Face, face, FitsPads, input_pads, pad_limit}
use Rattle.mp_base.specs.Entries.{IsAt}
use Rattle.sequencer_cases.specs.Inputs.{AreInputsOf}

-- a value for each of the first n pads, which fits it
pub record AreInputsOfFirst (n : ℕ) (pads : List Pad) (values : List ℕ) : Type 0 where
  pub size : length values ≡ n
  pub fits : (k : ℕ) (pad : Pad) → k < n → IsAt pads k pad → slice_index values k < pad_limit pad.width

pub inputs_more : (pads : List Pad) (n x : ℕ) (values more : List ℕ) (pad : Pad) → AreInputsOfFirst n pads values
    → pad ≡ get_or pads n pad → x < pad_limit pad.width → more ≡ values ++ x ∷ [] → AreInputsOfFirst (n + 1) pads more
inputs_more pads n x values more pad before is low added =
    let size = before.size in
    let long = ap length added ∙ length_push values x in
    let at : (k : ℕ) → slice_index more k ≡ get_or (values ++ x ∷ []) k 0 = λ k. ap (λ xs. get_or xs k 0) added in
    record {
      size = omega (arith, size, long);
      fits = λ k other lt there.
          elim (cases_lt k n) [
            | inl below ↦
                let Q : ℕ → Type 0 = λ v. v < pad_limit other.width in
                subst Q (sym (at k ∙ get_or_append_left values (x ∷ []) 0 k (omega (arith, below, size))))
                (before.fits k other below there)
            | inr past ↦
                let e : k ≡ n = omega (arith, lt, past) in
                let here : IsAt pads n other = let Q : ℕ → Type 0 = λ j. IsAt pads j other in subst Q e there in
                let one : other ≡ pad = sym (is ∙ get_or_from_slice_get pads n other pad here) in
                let Q : Pad → Type 0 = λ q. x < pad_limit q.width in
                let R : ℕ → Type 0 = λ v. v < pad_limit other.width in
                subst R (sym (at k ∙ get_or_pushed values x k (omega (arith, e, size)))) (subst Q (sym one) low)
          ];
    }

pub inputs_all : (pads : List Pad) (n : ℕ) (values : List ℕ) → length pads ≡ n → AreInputsOfFirst n pads values
    → AreInputsOf pads values
inputs_all pads n values long first =
    let size = first.size in record {
      size = omega (arith, size, long);
      fits = λ k pad at. let lt = within pads k at in first.fits k pad (omega (arith, lt, long)) at;
    }

pub inputs_fit : (p : Program) (pads : Pads) (xs : List ℕ) → ArePadsOf p pads → AreInputsOf pads.inputs xs
    → FitsPads (input_pads p) xs
inputs_fit p pads xs padded are =
    let size = are.size in
    let count : length pads.inputs ≡ length (input_pads p) =
    sym (length-map pads.inputs face) ∙ ap length padded.inputs in record {
      size = omega (arith, size, count);
      fits = λ k lt. at_pad k (some_entry pads.inputs k (omega (arith, lt, count)));
    }
  where
    width_at : (k : ℕ) (pad : Pad) → IsAt pads.inputs k pad
        → slice_index (map (λ (x : Face). x.1) (input_pads p)) k ≡ pad.width
    width_at k pad at =
        ap (λ (faces : List Face). slice_index (map (λ (x : Face). x.1) faces) k) (sym padded.inputs)
        ∙ get_or_from_slice_get (map (λ (x : Face). x.1) (map face pads.inputs)) k pad.width 0
        (map_get (λ (x : Face). x.1) (map face pads.inputs) k (face pad) (map_get face pads.inputs k pad at))

    at_pad : (k : ℕ) → (pad : Pad) × IsAt pads.inputs k pad
        → slice_index xs k < pad_limit (slice_index (map (λ (x : Face). x.1) (input_pads p)) k)
    at_pad k (pad, at) =
        let Q : ℕ → Type 0 = λ w. slice_index xs k < pad_limit w in
        subst Q (sym (width_at k pad at)) (are.fits k pad at)
