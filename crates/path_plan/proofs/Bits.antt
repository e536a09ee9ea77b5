-- The points of the labels of a path's chip: a supply, a phase, or a bit of a pad, and no two the same.
use Rattle.std.proofs.Common.{◌≡◌, ◌≢◌, inl, inr, ℕ, suc, ◌+◌, ◌<◌, ◌≤◌, Bool, true, false, cond, not}
use Rattle.std.proofs.Common.{List, [], ◌∷◌, ◌++◌, map, Some, refl, sym, ◌∙◌, ap, subst, arith}
use Rattle.std.specs.Prelude.{AllPairs, slice_get, ◌==◌}
use Rattle.std.specs.List.{range_with_len}
use Rattle.std.proofs.lemmas.Option.{get_or_from_slice_get}
use Rattle.std.proofs.lemmas.Simd.{map-map}
use Rattle.mp_base.specs.declared.pad.Pad.{Pad}
use Rattle.mp_base.proofs.Entries.{some_entry}
use Rattle.mp_base.proofs.Members.{Member, member_contains, member_map, range_members, member_append, member_flat}
use Rattle.nor_net.specs.declared.net.NetId.{NetId}
use Rattle.nor_net.specs.declared.net.Phase.TheVariants.{A, B, C}
use Rattle.nor_net.specs.Elements.{Spot}
use Rattle.drawing.specs.Draws.{Point, OfNet, Ground, Power, OfPhase}
use Rattle.array_form.proofs.Pairs.{Each, Pairs, each_from, pairs_all, pairs_append, pairs_map_range}
use Rattle.path_form.specs.declared.path.DataPath.{DataPath}
use Rattle.path_form.specs.Shape.{entries_of, times}
use Rattle.path_form.specs.Showing.{pad_bits, pad_spot}
use Rattle.path_form.proofs.Joining.{there, times_append}
use Rattle.path_values.proofs.Realized.{in_entries}
use Rattle.chip_laws.specs.Rows.{rows_at}
use Rattle.path_chips.proofs.PadRows.{row_at}
use Rattle.path_labels.specs.Labels.{label_points, points_in}

-- the point is that of a bit of one of these pads
pub record IsBit (pads : List Pad) (ids : List NetId) (at : Point) : Type 0 where
  pub place : ℕ
  pub pad : Pad
  pub id : NetId
  pub bit : ℕ
  pub is_pad : slice_get pads place ≡ Some pad
  pub is_id : slice_get ids place ≡ Some id
  pub below : bit < pad_bits pad
  pub same : OfNet (pad_spot pad id bit) ≡ at

pub bit_at : (pads : List Pad) (ids : List NetId) (at : Point) → Member (points_in (rows_at pads ids)) at
    → IsBit pads ids at
bit_at pads ids at m =
    let rows = rows_at pads ids in
    let w = member_flat (λ (row : List Spot). map OfNet row) rows at m in
    let c = member_contains rows w.0 w.1 in
    let at_row = some_entry rows c.0 c.1 in
    let is : at_row.0 ≡ w.0 = sym (get_or_from_slice_get rows c.0 at_row.0 w.0 at_row.1) ∙ c.2 in
    let r = row_at pads ids c.0 at_row.0 at_row.1 in
    let net = member_map OfNet w.0 at w.2 in
    let bit = member_map (pad_spot r.pad r.id) (range_with_len 0 (pad_bits r.pad)) net.0
    (subst (λ l. Member l net.0) (sym (r.same ∙ is)) net.1) in
    let lt = (range_members 0 (pad_bits r.pad) bit.0 bit.1).1 in
    record {
      place = c.0;
      pad = r.pad;
      id = r.id;
      bit = bit.0;
      is_pad = r.is_pad;
      is_id = r.is_id;
      below = omega (arith, lt);
      same = ap OfNet bit.2 ∙ net.2;
    }

-- the spots of two bits on one net
same_spots : (s t : Spot) (at : Point) → OfNet s ≡ at → OfNet t ≡ at → s ≡ t
same_spots s t at a b = cc

-- ---- entries of pads that differ

-- bits of two lists of pads whose entries are all different are different nets
not_both : (pads qs : List Pad) (ids js : List NetId)
    → ((w : Bool) (n : ℕ) → times n (entries_of w pads ids) + times n (entries_of w qs js) ≤ 1)
    → (at : Point) → IsBit pads ids at → IsBit qs js at → ⊥
not_both pads qs ids js few at u v =
    let e = same_spots (pad_spot u.pad u.id u.bit) (pad_spot v.pad v.id v.bit) at u.same v.same in
    by_sorts (u.pad.width == 0) (v.pad.width == 0) refl refl (ap (λ (s : Spot). s.band) e)
    (ap (λ (s : Spot). s.net) e)
  where
    of_sort : (w : Bool) → not (u.pad.width == 0) ≡ w → not (v.pad.width == 0) ≡ w → u.id.0 ≡ v.id.0 → ⊥
    of_sort w a b n =
        let x = there v.id.0 (entries_of w pads ids) u.id
        (in_entries w pads ids u.place u.pad u.id u.is_pad u.is_id a) n in
        let y = there v.id.0 (entries_of w qs js) v.id
        (in_entries w qs js v.place v.pad v.id v.is_pad v.is_id b) refl in
        let l = few w v.id.0 in omega (arith, x, y, l)

    by_sorts : (b c : Bool) → (u.pad.width == 0) ≡ b → (v.pad.width == 0) ≡ c
        → cond b 0 (suc u.bit) ≡ cond c 0 (suc v.bit) → u.id.0 ≡ v.id.0 → ⊥
    by_sorts true true a b band n = of_sort false (ap not a) (ap not b) n
    by_sorts false false a b band n = of_sort true (ap not a) (ap not b) n
    by_sorts true false a b band n = absurd (omega (arith, band))
    by_sorts false true a b band n = absurd (omega (arith, band))

-- the entries of a pad, and then those of the others
times_split : (w : Bool) (pad : Pad) (pads : List Pad) (id : NetId) (ids : List NetId) (n : ℕ)
    → times n (entries_of w (pad ∷ pads) (id ∷ ids))
    ≡ times n (entries_of w (pad ∷ []) (id ∷ [])) + times n (entries_of w pads ids)
times_split w pad pads id ids n = by_tests (not (pad.width == 0)) w
  where
    by_tests : (b c : Bool)
        → times n (cond b (cond c (id ∷ entries_of w pads ids) (entries_of w pads ids))
        (cond c (entries_of w pads ids) (id ∷ entries_of w pads ids)))
        ≡ times n (cond b (cond c (id ∷ []) []) (cond c [] (id ∷ []))) + times n (entries_of w pads ids)
    by_tests true true = omega arith
    by_tests true false = omega arith
    by_tests false true = omega arith
    by_tests false false = omega arith

row_differs : (pad : Pad) (id : NetId)
    → Pairs ◌≢◌ (map OfNet (map (pad_spot pad id) (range_with_len 0 (pad_bits pad))))
row_differs pad id =
    subst (Pairs ◌≢◌) (sym (map-map OfNet (pad_spot pad id) (range_with_len 0 (pad_bits pad))))
    (pairs_map_range ◌≢◌ (λ k. OfNet (pad_spot pad id k)) 0 (pad_bits pad)
    (λ i j lo lt hi e. by_sort i j lt (pad.width == 0) hi
    (ap (λ (s : Spot). s.band) (same_spots (pad_spot pad id i) (pad_spot pad id j) (OfNet (pad_spot pad id j)) e
    refl))))
  where
    by_sort : (i j : ℕ) → i < j → (b : Bool) → j < 0 + cond b 1 pad.width → cond b 0 (suc i) ≡ cond b 0 (suc j) → ⊥
    by_sort i j lt true hi e = omega (arith, lt, hi)
    by_sort i j lt false hi e = omega (arith, lt, e)

pub bits_differ : (pads : List Pad) (ids : List NetId) → ((w : Bool) (n : ℕ) → times n (entries_of w pads ids) ≤ 1)
    → Pairs ◌≢◌ (points_in (rows_at pads ids))
bits_differ [] ids few = tt
bits_differ (p ∷ ps) [] few = tt
bits_differ (p ∷ ps) (x ∷ xs) few =
    pairs_append ◌≢◌ (map OfNet (map (pad_spot p x) (range_with_len 0 (pad_bits p)))) (points_in (rows_at ps xs))
    (row_differs p x)
    (bits_differ ps xs (λ w n. let s = times_split w p ps x xs n in let l = few w n in omega (arith, s, l)))
    (λ y z m k e. not_both (p ∷ []) ps (x ∷ []) xs
    (λ w n. let s = times_split w p ps x xs n in let l = few w n in omega (arith, s, l)) z
    (subst (IsBit (p ∷ []) (x ∷ [])) e (first y m)) (bit_at ps xs z k))
  where
    first : (y : Point) → Member (map OfNet (map (pad_spot p x) (range_with_len 0 (pad_bits p)))) y
        → IsBit (p ∷ []) (x ∷ []) y
    first y m =
        let net = member_map OfNet (map (pad_spot p x) (range_with_len 0 (pad_bits p))) y m in
        let bit = member_map (pad_spot p x) (range_with_len 0 (pad_bits p)) net.0 net.1 in
        let lt = (range_members 0 (pad_bits p) bit.0 bit.1).1 in
        record {
          place = 0;
          pad = p;
          id = x;
          bit = bit.0;
          is_pad = refl;
          is_id = refl;
          below = omega (arith, lt);
          same = ap OfNet bit.2 ∙ net.2;
        }

-- ---- all points

module _ (p : DataPath) where
  abbrev in_bits : List Point
  in_bits = points_in (rows_at (p.pads).inputs p.inputs)

  abbrev out_bits : List Point
  out_bits = points_in (rows_at (p.pads).outputs p.outputs)

  once : (w : Bool) (n : ℕ)
      → times n (entries_of w (p.pads).inputs p.inputs) + times n (entries_of w (p.pads).outputs p.outputs) ≤ 1
  once true n =
      let l = p.whole.apart.1 n in
      let e = times_append n (entries_of true (p.pads).inputs p.inputs) (entries_of true (p.pads).outputs p.outputs) in
      omega (arith, l, e)
  once false n =
      let l = p.whole.apart.0 n in
      let e = times_append n (entries_of false (p.pads).inputs p.inputs) (entries_of false (p.pads).outputs p.outputs)
      in omega (arith, l, e)

  all_bits : Pairs ◌≢◌ (in_bits ++ out_bits)
  all_bits =
      pairs_append ◌≢◌ in_bits out_bits
      (bits_differ (p.pads).inputs p.inputs (λ w n. let l = once w n in omega (arith, l)))
      (bits_differ (p.pads).outputs p.outputs (λ w n. let l = once w n in omega (arith, l)))
      (λ y z m k e. not_both (p.pads).inputs (p.pads).outputs p.inputs p.outputs once z
      (subst (IsBit (p.pads).inputs p.inputs) e (bit_at (p.pads).inputs p.inputs y m))
      (bit_at (p.pads).outputs p.outputs z k))

  -- the point is a net
  abbrev IsOfNet : Point → Type 0
  IsOfNet at = (s : Spot) × (OfNet s ≡ at)

  of_net : (at : Point) → Member (in_bits ++ out_bits) at → IsOfNet at
  of_net at m = elim (member_append in_bits out_bits at m) [
    | inl k ↦ (let b = bit_at (p.pads).inputs p.inputs at k in (pad_spot b.pad b.id b.bit, b.same))
    | inr k ↦ (let b = bit_at (p.pads).outputs p.outputs at k in (pad_spot b.pad b.id b.bit, b.same))
  ]

  -- a supply or a phase is no bit
  other : (x : Point) → ((s : Spot) → OfNet s ≡ x → ⊥) → Each (λ z. x ≢ z) (in_bits ++ out_bits)
  other x h = each_from (λ z. x ≢ z) (in_bits ++ out_bits) (λ z m e. let w = of_net z m in h w.0 (w.1 ∙ sym e))

  points_differ : Pairs ◌≢◌ (label_points p)
  points_differ = (
    ((λ e. cc), ((λ e. cc), ((λ e. cc), ((λ e. cc), other Power (λ s e. cc))))),
    (
      ((λ e. cc), ((λ e. cc), ((λ e. cc), other Ground (λ s e. cc)))),
      (
        ((λ e. cc), ((λ e. cc), other (OfPhase A) (λ s e. cc))),
        (((λ e. cc), other (OfPhase B) (λ s e. cc)), (other (OfPhase C) (λ s e. cc), all_bits)),
      ),
    ),
  )

  pub labels_differ : AllPairs ◌≢◌ (label_points p)
  labels_differ = pairs_all ◌≢◌ (label_points p) points_differ
