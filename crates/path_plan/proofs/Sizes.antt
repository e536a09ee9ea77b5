-- Sums over bands, and how many labels chips have.
use Rattle.std.proofs.Common.{ℕ, zero, suc, ◌≡◌, ◌+◌, ◌*◌, ◌≤◌, List, [], ◌∷◌, ◌++◌, length, replicate, refl}
use Rattle.std.proofs.Common.{arith}
use Rattle.std.specs.Prelude.{flat_map, sum, sum_by}
use Rattle.std.proofs.lemmas.List.{length-append}
use Rattle.std.proofs.lemmas.List.Sums.{sum_by-cons}
use Rattle.mp_base.specs.declared.pad.Pad.{Pad}
use Rattle.mp_base.specs.PadNames.{supplies}
use Rattle.switch_net.specs.Pads.{bit_labels, labels_of}
use Rattle.switch_net.proofs.Labels.{length_word_labels}
use Rattle.track_assign.specs.declared.packing.Tracks.{Tracks}
use Rattle.path_plan.specs.Sizes.{LabelsAreFew}

-- ---- rows

-- the rows of n slices, with that of ground in each
slice_rows : (n : ℕ) (t : Tracks)
    → sum (replicate n (suc t.rows)) ≡ sum_by (λ (t : Tracks). t.rows) (replicate n t) + n
slice_rows zero t = refl
slice_rows (suc n) t =
    let i = slice_rows n t in
    let a = sum_by-cons (λ x. x) (suc t.rows) (replicate n (suc t.rows)) in
    let b = sum_by-cons (λ (t : Tracks). t.rows) t (replicate n t) in
    omega (arith, i, a, b)

pub all_rows : (n : ℕ) (control slices : Tracks)
    → sum (suc control.rows ∷ replicate n (suc slices.rows))
    ≡ sum_by (λ (t : Tracks). t.rows) (control ∷ replicate n slices) + suc n
all_rows n control slices =
    let i = slice_rows n slices in
    let a = sum_by-cons (λ x. x) (suc control.rows) (replicate n (suc slices.rows)) in
    let b = sum_by-cons (λ (t : Tracks). t.rows) control (replicate n slices) in
    omega (arith, i, a, b)

-- ---- labels

pad_labels_few : (p : List ℕ) (w : ℕ) → w ≤ 64 → length (labels_of p w) ≤ 64
pad_labels_few p zero h = omega arith
pad_labels_few p (suc w) h = let c = length_word_labels p (suc w) in omega (arith, c, h)

pads_labels_few : (pads : List Pad) → length (flat_map bit_labels pads) ≤ 64 * length pads
pads_labels_few [] = omega arith
pads_labels_few (q ∷ qs) =
    let a = length-append (bit_labels q) (flat_map bit_labels qs) in
    let c = pad_labels_few q.name q.width q.narrow in
    let i = pads_labels_few qs in omega (arith, a, c, i)

pub labels_are_few : LabelsAreFew
labels_are_few pads =
    let ins = flat_map bit_labels pads.inputs in
    let outs = flat_map bit_labels pads.outputs in
    let a = length-append (supplies ++ ins) outs in
    let b = length-append supplies ins in
    let s : length supplies ≡ 5 = refl in
    let i = pads_labels_few pads.inputs in let o = pads_labels_few pads.outputs in
    omega (arith, a, b, s, i, o)
