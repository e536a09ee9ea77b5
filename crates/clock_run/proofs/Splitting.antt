-- The nodes of all bits, pad by pad.
use Rattle.std.proofs.Common.{◌≡◌, ◌∙◌, ℕ, zero, suc, ◌+◌, ◌-◌, ◌<◌, ◌≤◌, List, [], ◌∷◌, ◌++◌, length, get_or, take}
use Rattle.std.proofs.Common.{drop, refl, sym, ap, subst, arith}
use Rattle.std.specs.Prelude.{flat_map}
use Rattle.std.specs.List.{AllZip}
use Rattle.std.proofs.Math.Seq.{drop-cons}
use Rattle.std.proofs.lemmas.List.{length-append, take-append-drop, flat_map_more}
use Rattle.std.proofs.lemmas.Grind.{flat_map-append}
use Rattle.std.proofs.lemmas.Slice.Zip.{all_zipped_more}
use Rattle.mp_base.specs.declared.pad.Pad.{Pad}
use Rattle.switch_net.specs.declared.network.Network.{Network}
use Rattle.switch_net.specs.Clock.{IsLabelled}
use Rattle.switch_net.specs.Pads.{labels_of, bit_labels}
use Rattle.mp_base.specs.PadBits.{bit_count}
use Rattle.switch_net.proofs.Labels.{length_word_labels}
use Rattle.clock_run.specs.Plan.{AreNodesOf}
use Rattle.clock_run.proofs.Naming.{take_push}
use Rattle.clock_run.proofs.Zips.{zip_parts}

pub length_labels : (pad : Pad) → length (bit_labels pad) ≡ bit_count pad.width
length_labels pad = by_width pad.width
  where
    by_width : (w : ℕ) → length (labels_of pad.name w) ≡ bit_count w
    by_width zero = refl
    by_width (suc w) = length_word_labels pad.name (suc w)

abbrev flat : List Pad → List (List ℕ)
flat pads = flat_map bit_labels pads

module _ (pads : List Pad) (i : ℕ) (pad : Pad) (lt : i < length pads) (is : pad ≡ get_or pads i pad) where
  in_parts : flat pads ≡ flat (take i pads) ++ (bit_labels pad ++ flat (drop (suc i) pads))
  in_parts =
      ap (λ ps. flat ps) (sym (take-append-drop i pads))
      ∙ flat_map-append bit_labels (take i pads) (drop i pads)
      ∙ ap (λ ps. flat (take i pads) ++ flat ps) (drop-cons pads i pad lt)
      ∙ ap (λ p. flat (take i pads) ++ (bit_labels p ++ flat (drop (suc i) pads))) (sym is)

  pub end_more : (start width : ℕ) → start ≡ length (flat (take i pads)) → width ≡ bit_count pad.width
      → start + width ≡ length (flat (take (i + 1) pads))
  end_more start width s e =
      let more : flat (take i pads) ++ bit_labels pad ≡ flat (take i pads ++ pad ∷ []) =
      flat_map_more bit_labels [] (take i pads) pad in
      let l : length (flat (take i pads)) + length (bit_labels pad) ≡ length (flat (take (i + 1) pads)) =
      sym (length-append (flat (take i pads)) (bit_labels pad)) ∙ ap (λ xs. length xs) more
      ∙ ap (λ ps. length (flat ps)) (sym (take_push pads i pad lt is)) in
      let w = length_labels pad in
      omega (arith, s, e, l, w)

  pub end_inside : (start width size : ℕ) → start ≡ length (flat (take i pads)) → width ≡ bit_count pad.width
      → size ≡ length (flat pads)
      → start + width ≤ size
  end_inside start width size s e z =
      let l = ap (λ xs. length xs) in_parts
      ∙ length-append (flat (take i pads)) (bit_labels pad ++ flat (drop (suc i) pads)) in
      let m = length-append (bit_labels pad) (flat (drop (suc i) pads)) in
      let w = length_labels pad in
      omega (arith, s, e, z, l, m, w)

  pub own_more : (net : Network) (nodes : List ℕ) (own : List (List ℕ)) (start width : ℕ)
      → start ≡ length (flat (take i pads))
      → width ≡ bit_count pad.width
      → AllZip (IsLabelled net) (flat pads) nodes → AllZip (AreNodesOf net) (take i pads) own
      → AllZip (AreNodesOf net) (take (i + 1) pads) (own ++ take (start + width - start) (drop start nodes) ∷ [])
  own_more net nodes own start width s e z h =
      let w = length_labels pad in
      let n : length (bit_labels pad) ≡ start + width - start = omega (arith, e, w) in
      let parts =
      zip_parts (IsLabelled net) (flat (take i pads)) (bit_labels pad ++ flat (drop (suc i) pads)) nodes start (sym s)
      (subst (λ xs. AllZip (IsLabelled net) xs nodes) in_parts z) in
      let here =
      zip_parts (IsLabelled net) (bit_labels pad) (flat (drop (suc i) pads)) (drop start nodes)
      (start + width - start) n
      parts.1 in
      subst (λ ps. AllZip (AreNodesOf net) ps (own ++ take (start + width - start) (drop start nodes) ∷ []))
      (sym (take_push pads i pad lt is))
      (all_zipped_more (AreNodesOf net) (take i pads) own pad
      (take (start + width - start) (drop start nodes)) h here.0)
