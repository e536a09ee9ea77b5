-- The flat net of a path that shows transfers shows them.
use Rattle.std.proofs.Common.{◌≡◌, ℕ, ◌<◌, zero, suc, List, [], ◌∷◌, length, map, refl, sym, ◌∙◌, ap, subst, arith}
use Rattle.std.specs.Prelude.{◌==◌, slice_index, slice_index_or}
use Rattle.std.specs.List.{AllZip}
use Rattle.std.specs.Int.{bit_at}
use Rattle.std.proofs.lemmas.Option.{same_Some, slice_get_within}
use Rattle.mp_base.specs.declared.value.Trit.{Trit}
use Rattle.mp_base.specs.declared.value.Trit.TheVariants.{X}
use Rattle.mp_base.specs.declared.pad.Pad.{Pad}
use Rattle.mp_base.specs.declared.pad.Pads.{Pads}
use Rattle.mp_base.proofs.Entries.{some_entry}
use Rattle.nor_net.specs.declared.net.NetId.{NetId}
use Rattle.nor_net.specs.Elements.{Spot, spot}
use Rattle.nor_net.specs.Laws.{bit}
use Rattle.rtl_form.specs.declared.rtl.Rtl.{Rtl}
use Rattle.path_form.specs.declared.path.DataPath.{DataPath}
use Rattle.path_form.specs.declared.flattened.Flattened.{Flattened}
use Rattle.path_form.specs.Showing.{pad_bits, pad_spot, HasPadValues, ShowsTransfers}
use Rattle.path_form.specs.Flat.{IsFlat, ArePadsOf, pulled, HasBits, FlatShows, FlatShowsTransfers}
use Rattle.path_form.proofs.Pulling.{flat_follows}

at_mapped : {A B : Type 0} (f : A → B) (xs : List A) (k : ℕ) (d : A)
    → slice_index_or (map f xs) k (f d) ≡ f (slice_index_or xs k d)
at_mapped f [] k d = refl
at_mapped f (x ∷ xs) zero d = refl
at_mapped f (x ∷ xs) (suc k) d = at_mapped f xs k d

module _ (of : Spot → NetId) (pads : List Pad) (ids : List NetId) (rows : List (List NetId))
    (are : ArePadsOf pads ids of rows) where
  -- what is given to the flat net is given to the path
  pads_pulled : length rows ≡ length pads → (values : List ℕ) (v : Spot → Trit) → HasBits pads rows values v
      → HasPadValues pads ids values (pulled of v)
  pads_pulled size values v h i pad id k is_pad is_id l =
      let within = slice_get_within pads i pad is_pad in
      let row = some_entry rows i (omega (arith, size, within)) in
      h i pad row.0 k (of (pad_spot pad id k)) is_pad row.1 ((are i pad id row.0 is_pad is_id row.1).1 k l)

  -- what the path shows the flat net shows
  bits_shown : length ids ≡ length pads → (values : List ℕ) (v : Spot → Trit)
      → HasPadValues pads ids values (pulled of v) → HasBits pads rows values v
  bits_shown size values v h i pad row k id is_pad is_row is_id =
      let within = slice_get_within pads i pad is_pad in
      let own = some_entry ids i (omega (arith, size, within)) in
      let a = are i pad own.0 row is_pad own.1 is_row in
      let l = slice_get_within row k id is_id in
      let m : k < pad_bits pad = omega (arith, a.0, l) in
      let same : of (pad_spot pad own.0 k) ≡ id = same_Some (of (pad_spot pad own.0 k)) id (sym (a.1 k m) ∙ is_id) in
      subst (λ x. v (spot 0 x) ≡ bit (bit_at (slice_index values i) k == 1)) same (h i pad own.0 k is_pad own.1 m)

  all_pulled : length rows ≡ length pads → (inputs : List (List ℕ)) (givens : List (Spot → Trit))
      → AllZip (HasBits pads rows) inputs givens
      → AllZip (HasPadValues pads ids) inputs (map (pulled of) givens)
  all_pulled size [] [] z = tt
  all_pulled size [] (g ∷ gs) z = absurd z
  all_pulled size (i ∷ is) [] z = absurd z
  all_pulled size (i ∷ is) (g ∷ gs) z = (pads_pulled size i g z.0, all_pulled size is gs z.1)

-- of a path with these pads
with_pads : (r : Rtl) (p : DataPath) (f : Flattened) (pads : Pads) → p.pads ≡ pads → r.pads ≡ pads
    → ShowsTransfers r p → IsFlat p f → FlatShowsTransfers r f
with_pads r p f pads is_p is_r shows flat inputs outputs fit t before givens showns after z l k lt settled =
    let of = flat.of in
    let ins = ap (λ (x : Pads). x.inputs) (is_p ∙ sym is_r) in
    let outs = ap (λ (x : Pads). x.outputs) (is_p ∙ sym is_r) in
    let are_in : ArePadsOf (r.pads).inputs p.inputs flat.of f.inputs = subst
    (λ x. ArePadsOf x p.inputs flat.of f.inputs) ins flat.inputs in
    let are_out : ArePadsOf (r.pads).outputs p.outputs flat.of f.outputs = subst
    (λ x. ArePadsOf x p.outputs flat.of f.outputs) outs flat.outputs in
    let size_in : length f.inputs ≡ length (r.pads).inputs = flat.sizes.0 ∙ ap length ins in
    let size_out : length p.outputs ≡ length (r.pads).outputs = p.whole.entries_fit.1.0 ∙ ap length outs in
    let z' = all_pulled flat.of (r.pads).inputs p.inputs f.inputs are_in size_in inputs givens z in
    let l' = flat_follows p f.net flat.of flat.numbering before givens showns after l in
    let h = shows inputs outputs fit t (pulled flat.of before) (map (pulled flat.of) givens)
    (map (pulled flat.of) showns) (pulled flat.of after) z' l' k lt settled in
    bits_shown flat.of (r.pads).outputs p.outputs f.outputs are_out size_out (slice_index_or outputs k [])
    (slice_index_or showns k (λ n. X))
    (subst (HasPadValues (r.pads).outputs p.outputs (slice_index_or outputs k []))
    (at_mapped (pulled flat.of) showns k (λ n. X)) h)

pub flat_shows : FlatShows
flat_shows r p f same shows flat = with_pads r p f r.pads same refl shows flat
