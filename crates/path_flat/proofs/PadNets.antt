-- The nets of pads are nets of the path, and its inputs are bits of input pads.
use Rattle.std.proofs.Common.{◌≡◌, ◌≢◌, ℕ, ◌<◌, ◌≤◌, ◌+◌, ◌*◌, zero, suc, List, [], ◌∷◌, Option, Some, None}
use Rattle.std.proofs.Common.{Bool, true, false, cond, eqb, length, map, get_or, refl, sym, ◌∙◌, ap, subst, arith}
use Rattle.std.specs.Prelude.{All, Contains, not, slice_get}
use Rattle.std.proofs.Math.Dec.{eqb-suc-zero}
use Rattle.std.proofs.lemmas.Bool.{eqb-false, eqb-true, false≢true, not-false, not-true}
use Rattle.std.proofs.lemmas.List.Elements.{All-contains}
use Rattle.std.proofs.lemmas.Option.{get_or_from_slice_get, none-some, same_Some, slice_get-get_or, slice_get_within}
use Rattle.mp_base.specs.declared.pad.Pad.{Pad}
use Rattle.mp_base.proofs.Entries.{some_entry, map_get, contains_from_get}
use Rattle.nor_net.specs.declared.net.NetId.{NetId}
use Rattle.nor_net.specs.declared.net.Part.{Part}
use Rattle.nor_net.specs.declared.net.Part.TheVariants.{Input, Gate, Latch}
use Rattle.nor_net.specs.Elements.{Spot, Given, part_element, nets_of, spot}
use Rattle.nor_net.specs.Shape.{Fed, net_limit}
use Rattle.path_form.specs.declared.path.DataPath.{DataPath}
use Rattle.path_form.specs.declared.path.Piece.{Piece}
use Rattle.path_form.specs.Flat.{ArePadsOf, rows_of}
use Rattle.path_form.specs.Shape.{EntriesFit, PadsFit, entries_of, is_fed, rank, times}
use Rattle.path_form.specs.Showing.{pad_bits, pad_spot}
use Rattle.path_flat.specs.Numbered.{IsNumberedTo, total}
use Rattle.path_sources.specs.Sources.{parts_of}
use Rattle.path_flat.specs.Rows.{AreBelow}
use Rattle.path_sources.proofs.Elements.{has_part, net_at, slice_parts}
use Rattle.path_flat.proofs.PadInputs.{given_pad, pads_of, parts_fed}
use Rattle.path_flat.proofs.Ranks.{piece_counts, rank_within}
use Rattle.path_flat.proofs.Stepping.{net_within, within_net}

-- a pad of this sort is among those of its sort
in_entries : (w : Bool) (pads : List Pad) (ids : List NetId) (i : ℕ) (pad : Pad) (id : NetId)
    → slice_get pads i ≡ Some pad → slice_get ids i ≡ Some id → not (eqb pad.width 0) ≡ w
    → Contains (entries_of w pads ids) id
in_entries w [] ids i pad id e f t = absurd (none-some pad e)
in_entries w (q ∷ qs) [] i pad id e f t = absurd (none-some id f)
in_entries w (q ∷ qs) (j ∷ js) zero pad id e f t =
    by_tests (not (eqb q.width 0)) w (ap (λ (x : Pad). not (eqb x.width 0)) (same_Some q pad e) ∙ t)
  where
    here : Contains (j ∷ entries_of w qs js) id
    here = (0, omega arith, same_Some j id f)

    by_tests : (a b : Bool) → a ≡ w
        → Contains (cond a (cond w (j ∷ entries_of w qs js) (entries_of w qs js))
        (cond w (entries_of w qs js) (j ∷ entries_of w qs js))) id
    by_tests a b x = subst (λ y. Contains (cond y (cond w (j ∷ entries_of w qs js) (entries_of w qs js))
        (cond w (entries_of w qs js) (j ∷ entries_of w qs js))) id) (sym x) (both w)
      where
        both : (y : Bool) → Contains (cond y (cond y (j ∷ entries_of w qs js) (entries_of w qs js))
            (cond y (entries_of w qs js) (j ∷ entries_of w qs js))) id
        both true = here
        both false = here
in_entries w (q ∷ qs) (j ∷ js) (suc i) pad id e f t =
    by_tests (not (eqb q.width 0)) w (in_entries w qs js i pad id e f t)
  where
    by_tests : (a b : Bool) → Contains (entries_of w qs js) id
        → Contains (cond a (cond b (j ∷ entries_of w qs js) (entries_of w qs js))
        (cond b (entries_of w qs js) (j ∷ entries_of w qs js))) id
    by_tests true true c = (suc c.0, (let l = c.1 in omega (arith, l)), c.2)
    by_tests true false c = c
    by_tests false true c = c
    by_tests false false c = (suc c.0, (let l = c.1 in omega (arith, l)), c.2)

-- a pad of a sort
pub record IsPadAt (w : Bool) (pads : List Pad) (ids : List NetId) (n : ℕ) : Type 0 where
  pub index : ℕ
  pub pad : Pad
  pub id : NetId
  pub is_pad : slice_get pads index ≡ Some pad
  pub is_id : slice_get ids index ≡ Some id
  pub net : id.0 ≡ n
  pub sort : not (eqb pad.width 0) ≡ w

behind : (w : Bool) (q : Pad) (qs : List Pad) (j : NetId) (js : List NetId) (n : ℕ) → IsPadAt w qs js n
    → IsPadAt w (q ∷ qs) (j ∷ js) n
behind w q qs j js n h = record {
  index = suc h.index;
  pad = h.pad;
  id = h.id;
  is_pad = h.is_pad;
  is_id = h.is_id;
  net = h.net;
  sort = h.sort;
}

-- what is counted among the pads of a sort is the net of one
counted_pad : (w : Bool) (pads : List Pad) (ids : List NetId) (n : ℕ) → 0 < times n (entries_of w pads ids)
    → IsPadAt w pads ids n
counted_pad w [] ids n h = absurd (omega arith)
counted_pad w (q ∷ qs) [] n h = absurd (omega arith)
counted_pad w (q ∷ qs) (j ∷ js) n h = by_tests (not (eqb q.width 0)) w refl refl h (λ k. counted_pad w qs js n k)
  where
    met : not (eqb q.width 0) ≡ w → (b : Bool) → eqb j.0 n ≡ b → 0 < cond b 1 0 + times n (entries_of w qs js)
        → (0 < times n (entries_of w qs js) → IsPadAt w qs js n) → IsPadAt w (q ∷ qs) (j ∷ js) n
    met t true e h again =
        record { index = 0; pad = q; id = j; is_pad = refl; is_id = refl; net = eqb-true j.0 n e; sort = t }
    met t false e h again = behind w q qs j js n (again (omega (arith, h)))

    by_tests : (a b : Bool) → not (eqb q.width 0) ≡ a → w ≡ b
        → 0 < times n (cond a (cond b (j ∷ entries_of w qs js) (entries_of w qs js))
        (cond b (entries_of w qs js) (j ∷ entries_of w qs js)))
        → (0 < times n (entries_of w qs js) → IsPadAt w qs js n) → IsPadAt w (q ∷ qs) (j ∷ js) n
    by_tests true true x y h again = met (x ∙ sym y) (eqb j.0 n) refl h again
    by_tests true false x y h again = behind w q qs j js n (again h)
    by_tests false true x y h again = behind w q qs j js n (again h)
    by_tests false false x y h again = met (x ∙ sym y) (eqb j.0 n) refl h again

fed_part : (part : Part) → is_fed part ≡ true → Fed part
fed_part Input h = tt
fed_part (Gate inputs) h = tt
fed_part (Latch phase None) h = absurd (false≢true h)
fed_part (Latch phase (Some m)) h = refl

module _ (p : DataPath) where
  -- each number of a band is a net of the path
  net_here : (band n : ℕ) → band ≤ p.width → n < length (parts_of p band)
      → rank p.order (record { band = band; net = n }) < total p.order
  net_here band n l w =
      let part = get_or (parts_of p band) n Input in
      let net = net_at p band n part l (slice_get-get_or (parts_of p band) n Input w)
      (fed_part part (parts_fed p band n Input w)) in
      net_within p (record { band = band; net = n }) net.0 net.1

  module _ (pads : List Pad) (ids : List NetId) (fit : PadsFit p.width pads)
      (entries : EntriesFit p.control p.slices pads ids) where
    pub pad_within : (i : ℕ) (pad : Pad) (id : NetId) (k : ℕ) → slice_get pads i ≡ Some pad
        → slice_get ids i ≡ Some id
        → k < pad_bits pad → rank p.order (pad_spot pad id k) < total p.order
    pad_within i pad id k is_pad is_id l = by_sort (eqb pad.width 0) refl l
      where
        by_sort : (b : Bool) → eqb pad.width 0 ≡ b → k < cond b 1 pad.width
            → rank p.order (spot (cond b 0 (suc k)) id) < total p.order
        by_sort true e l =
            let c = in_entries false pads ids i pad id is_pad is_id (ap not e) in
            net_here 0 id.0 (omega arith)
            (All-contains (λ (x : NetId). x.0 < length p.control) (entries_of false pads ids) id entries.1 c)
        by_sort false e l =
            let c = in_entries true pads ids i pad id is_pad is_id (ap not e) in
            let at = get_or_from_slice_get pads i pad pad is_pad in
            let width : pad.width ≡ p.width =
            subst (λ (x : Pad). x.width ≢ 0 → x.width ≡ p.width) at (fit i pad (slice_get_within pads i pad is_pad))
            (eqb-false pad.width 0 e) in
            net_here (suc k) id.0 (omega (arith, width, l))
            (subst (λ (parts : List Part). id.0 < length parts) (sym (slice_parts p k))
            (All-contains (λ (x : NetId). x.0 < length p.slices.net) (entries_of true pads ids) id entries.2 c))

    -- rows have the same numbers under each numbering that agrees on the nets of the path
    pub rows_numbered : (number of : Spot → NetId) → ((n : Spot) → rank p.order n < total p.order → of n ≡ number n)
        → (rows : List (List NetId)) → ArePadsOf pads ids number rows → ArePadsOf pads ids of rows
    rows_numbered number of same rows are i pad id row is_pad is_id is_row =
        let h = are i pad id row is_pad is_id is_row in (
          h.0,
          λ k l. h.1 k l ∙ ap (λ (x : NetId). Some x) (sym
              (same (pad_spot pad id k) (pad_within i pad id k is_pad is_id l))),
        )

    -- bits of pads have numbers below each limit that all nets of the path keep
    pub rows_below : (nets : ℕ) (of : Spot → NetId) → ((n : Spot) → rank p.order n < total p.order → (of n).0 < nets)
        → (rows : List (List NetId)) → length rows ≡ length pads → ArePadsOf pads ids of rows
        → All (AreBelow nets) rows
    rows_below nets of inside rows size are i d l j e m =
        let many = entries.0 in
        let pad = some_entry pads i (omega (arith, l, size)) in
        let id = some_entry ids i (omega (arith, l, size, many)) in
        let row = get_or rows i d in
        let h = are i pad.0 id.0 row pad.1 id.1 (slice_get-get_or rows i d l) in
        let count = h.0 in
        let k : j < pad_bits pad.0 = subst (λ n. j < n) count m in
        let bit = get_or_from_slice_get row j (of (pad_spot pad.0 id.0 j)) e (h.1 j k) in
        subst (λ (x : NetId). x.0 < nets) (sym bit)
        (inside (pad_spot pad.0 id.0 j) (pad_within i pad.0 id.0 j pad.1 id.1 k))

  -- ---- pieces end below the limit

  slices_few : (w a b : ℕ) → 0 < w → a + w * b < net_limit → b < net_limit
  slices_few zero a b l h = absurd (omega (arith, l))
  slices_few (suc w) a b l h = grind (arith, h)

  band_few : (band : ℕ) → length (parts_of p band) < net_limit
  band_few band = by_test (eqb band 0)
    where
      by_test : (b : Bool) → length (cond b p.control p.slices.net) < net_limit
      by_test true = let f = p.whole.few_nets in omega (arith, f)
      by_test false =
          let f = slices_few p.width (length p.control)
          (length p.slices.net + length p.slices.chains + length p.slices.programs) p.whole.width.0 p.whole.few_nets
          in
          omega (arith, f)

  pub pieces_short : All (λ (piece : Piece). piece.first ≤ piece.last → piece.last + 1 < 4294967296) p.order
  pieces_short k d l = λ some.
      let piece = get_or p.order k d in
      let n : Spot = record { band = piece.band; net = piece.last } in
      let counts = piece_counts p.order k d l some in
      let net = within_net p n
      (rank_within p.order n counts) in
      let part = has_part p n net.0 net.1 in
      let w = slice_get_within (parts_of p piece.band) piece.last part.part part.at in
      let few = band_few piece.band in
      omega (arith, w, few)

module _ (p : DataPath) (flat : List Part) (number : Spot → NetId)
    (so : IsNumberedTo p (total p.order) (total p.order) flat number) (rows : List (List NetId))
    (size : length rows ≡ length (p.pads).inputs) (are : ArePadsOf (p.pads).inputs p.inputs number rows) where
  abbrev IsBit : Spot → Type 0
  IsBit k = (nets : List Spot) × Contains (rows_of rows) nets × Contains nets k

  -- bit j of a pad is in its row
  in_row : (i : ℕ) (pad : Pad) (id : NetId) (j : ℕ) → slice_get (p.pads).inputs i ≡ Some pad
      → slice_get p.inputs i ≡ Some id → j < pad_bits pad → IsBit (spot 0 (number (pad_spot pad id j)))
  in_row i pad id j is_pad is_id l =
      let w = slice_get_within (p.pads).inputs i pad is_pad in
      let row = get_or rows i [] in
      let at : slice_get rows i ≡ Some row = slice_get-get_or rows i [] (omega (arith, w, size)) in
      let h = are i pad id row is_pad is_id at in (
        map (spot 0) row,
        contains_from_get (rows_of rows) i (map (spot 0) row) (map_get
            (λ (row : List NetId). map (spot 0) row) rows i row at),
        contains_from_get (map (spot 0) row) j (spot 0 (number (pad_spot pad id j)))
            (map_get (spot 0) row j (number (pad_spot pad id j)) (h.1 j l)),
      )

  given_bit : (b n : ℕ) → b ≤ p.width → 0 < times n (pads_of p b)
      → IsBit (spot 0 (number (record { band = b; net = n })))
  given_bit zero n l some =
      let q = counted_pad false (p.pads).inputs p.inputs n some in
      let narrow : eqb q.pad.width 0 ≡ true = not-false (eqb q.pad.width 0) q.sort in
      let s : pad_spot q.pad q.id 0 ≡ record { band = 0; net = n } =
      ap (λ b. spot (cond b 0 1) q.id) narrow ∙ ap (λ k. record { band = 0; net = k }) q.net in
      subst (λ (x : Spot). IsBit (spot 0 (number x))) s
      (in_row q.index q.pad q.id 0 q.is_pad q.is_id (subst (λ b. 0 < cond b 1 q.pad.width) (sym narrow)
      (omega arith)))
  given_bit (suc k) n l some =
      let some' = subst (λ (ids : List NetId). 0 < times n ids)
      (ap (λ b. cond b (entries_of false (p.pads).inputs p.inputs) (entries_of true (p.pads).inputs p.inputs))
      (eqb-suc-zero k)) some in
      let q = counted_pad true (p.pads).inputs p.inputs n some' in
      let wide : eqb q.pad.width 0 ≡ false = not-true (eqb q.pad.width 0) q.sort in
      let at = get_or_from_slice_get (p.pads).inputs q.index q.pad q.pad q.is_pad in
      let width : q.pad.width ≡ p.width =
      subst (λ (x : Pad). x.width ≢ 0 → x.width ≡ p.width) at
      (p.whole.pads_fit.0 q.index q.pad (slice_get_within (p.pads).inputs q.index q.pad q.is_pad))
      (eqb-false q.pad.width 0 wide) in
      let s : pad_spot q.pad q.id k ≡ record { band = suc k; net = n } =
      ap (λ b. spot (cond b 0 (suc k)) q.id) wide ∙ ap (λ m. record { band = suc k; net = m }) q.net in
      subst (λ (x : Spot). IsBit (spot 0 (number x))) s
      (in_row q.index q.pad q.id k q.is_pad q.is_id
      (subst (λ b. k < cond b 1 q.pad.width) (sym wide) (omega (arith, width, l))))

  pub no_others : (k : Spot) → nets_of flat k ≡ Some Given → IsBit k
  no_others k is = by_band (eqb k.band 0) refl is
    where
      one_input : (o : Option Part) → part_element 0 o ≡ Some Given → o ≡ Some Input
      one_input None e = absurd (none-some Given e)
      one_input (Some Input) e = refl
      one_input (Some (Gate inputs)) e = cc
      one_input (Some (Latch phase None)) e = absurd (none-some Given e)
      one_input (Some (Latch phase (Some m))) e = cc

      by_band : (b : Bool) → eqb k.band 0 ≡ b → cond b (part_element 0 (slice_get flat k.net)) None ≡ Some Given
          → IsBit k
      by_band false e is = absurd (none-some Given is)
      by_band true e is =
          let m = so.meant k.net Input (one_input (slice_get flat k.net) is) in
          let h = has_part p m.0 Given m.2 in
          let bit = given_bit m.0.band m.0.net h.band (given_pad p m.0 m.2) in
          let zero_band : k.band ≡ 0 = eqb-true k.band 0 e in
          let s : spot 0 (number m.0) ≡ k = λ i. record { band = (sym zero_band) i; net = m.3 i } in
          subst IsBit s bit
