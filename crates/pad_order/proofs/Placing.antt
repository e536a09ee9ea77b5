-- The wishes of ports from the lowest to the highest rise, and each port finds its own.
use Rattle.std.proofs.Common.{ℕ, ◌≡◌, ◌≢◌, ◌<◌, ◌≤◌, ◌+◌, ◌⊎◌, inl, inr, refl, sym, ap, subst, ◌∙◌, arith}
use Rattle.std.proofs.Common.{List, [], ◌∷◌, length, get_or, map, All, Contains, IsPermutation, slice_index, Some}
use Rattle.std.specs.Prelude.{pos, flat_map, slice_get}
use Rattle.std.specs.List.{AllZip, range_with_len}
use Rattle.std.specs.List.Sorted.{IsNonDecreasingBy}
use Rattle.std.proofs.lemmas.Bool.{cases_lt}
use Rattle.std.proofs.lemmas.Int.{ints}
use Rattle.std.proofs.lemmas.List.{get_or-map, get_or_default, length-map}
use Rattle.std.proofs.lemmas.List.FromFn.{get_or-map-range_with_len, length-map-range_with_len}
use Rattle.std.proofs.lemmas.Option.{get_or_from_slice_get, slice_get_within}
use Rattle.mp_base.proofs.Zips.{zip_from_places}
use Rattle.pad_frame.specs.declared.frames.PadWish.{PadWish}
use Rattle.pad_frame.specs.declared.frames.PadSpot.{PadSpot}
use Rattle.pad_frame.specs.declared.frames.Framed.{Framed}
use Rattle.pad_frame.specs.Frames.{no_wish, spot_of, AreWishes, AreFramed}
use Rattle.pad_order.specs.declared.order.Entry.{Entry}
use Rattle.pad_order.specs.declared.ports.Port.{Port}
use Rattle.pad_order.specs.Entries.{no_port, no_spot, entry, entries_from, wish_at, AreTold}
use Rattle.pad_order.specs.Ordered.{IsParted, AreParted, wish_of, HasPad, IsFrameOf}
use Rattle.pad_order.proofs.Entries.{distinct, as_many, IsEntry, each, place}

module _ (ps : List Port) (es : List Entry) (moved : IsPermutation (entries_from 0 ps) es) (parted : AreParted ps)
    (up : IsNonDecreasingBy (λ (e : Entry). e.height) es) where
  abbrev pub wishes : List PadWish
  wishes = map (wish_at ps) es

  abbrev none : Entry
  none = record { height = 0; number = 0 }

  pub long : length wishes ≡ length ps
  long = length-map es (wish_at ps) ∙ as_many ps es moved

  -- the port of the entry at a place
  abbrev port_at : ℕ → Port
  port_at j = get_or ps (get_or es j none).number no_port

  pub wished : (j : ℕ) (d : PadWish) → j < length wishes → get_or wishes j d ≡ wish_of (port_at j)
  wished j d lt = let l = length-map es (wish_at ps) in get_or-map (wish_at ps) es j none d (omega (arith, lt, l))

  is_entry : (j : ℕ) → j < length wishes → IsEntry ps es moved (get_or es j none)
  is_entry j lt = let l = length-map es (wish_at ps) in each ps es moved j none (omega (arith, lt, l))

  -- of two places the later one has the higher port
  higher : (i j : ℕ) → i < j → j < length wishes → (port_at i).height + 7 ≤ (port_at j).height
  higher i j h k =
      let l = length-map es (wish_at ps) in
      let a = is_entry i (omega (arith, h, k)) in
      let b = is_entry j k in
      let rise : (get_or es i none).height ≤ (get_or es j none).height =
      up i j none (omega (arith, h)) (omega (arith, k, l)) in
      let ne = distinct ps es moved i j none h (omega (arith, k, l)) in
      let low = a.height in
      let high = b.height in
      elim (cases_lt (get_or es i none).number (get_or es j none).number) [
        | inl lt ↦ elim (parted.apart (get_or es i none).number (get_or es j none).number no_port lt b.there) [
          | inl e ↦ e
          | inr e ↦ absurd (omega (arith, e, rise, low, high))
        ]
        | inr le ↦ elim (parted.apart (get_or es j none).number (get_or es i none).number no_port
            (omega (arith, le, ne)) a.there) [
              | inl e ↦ absurd (omega (arith, e, rise, low, high))
              | inr e ↦ e
            ]
      ]

  pub are_wishes : AreWishes wishes
  are_wishes = record {
    few = (let l = long in let f = parted.few in omega (arith, l, f));
    low = λ j d lt. (let e = ap (λ (w : PadWish). w.row) (wished j d lt) in
        let h = parted.low (get_or es j none).number no_port (is_entry j lt).there in
        (omega (arith, ints, e, h), omega (arith, ints, e, h)));
    rising = λ i j d h k. (let e = ap (λ (w : PadWish). w.row) (wished i d (omega (arith, h, k))) in
        let f = ap (λ (w : PadWish). w.row) (wished j d k) in
        let g = higher i j h k in
        omega (arith, ints, e, f, g));
  }

  pub asked : All (λ (w : PadWish). (p : Port) × Contains ps p × (w ≡ wish_of p)) wishes
  asked j d lt = (
    port_at j,
    (
      (get_or es j none).number,
      (is_entry j lt).there,
      get_or_default ps (get_or es j none).number (port_at j) no_port
          (is_entry j lt).there,
    ),
    wished j d lt,
  )

  -- ---- the spots of pads, in the order of the ports

  module _ (places : List ℕ) (as_long : length places ≡ length es) (told : AreTold places es) (spots : List PadSpot)
      (are_spots : spots ≡ map (spot_of wishes) (range_with_len 0 (length wishes))) where
    abbrev back : List PadSpot
    back = map (λ k. get_or spots k no_spot) places

    -- the place of a port is told
    told_at : (n : ℕ) (d : Port) (lt : n < length ps) → slice_index places n ≡ (place ps es moved n d lt).0
    told_at n d lt =
        let c = place ps es moved n d lt in
        ap (λ (e : Entry). slice_index places e.number) (sym c.2) ∙ told c.0 (entry (get_or ps n d) n) c.1

    spot_at : (k : ℕ) → k < length wishes → get_or spots k no_spot ≡ spot_of wishes k
    spot_at k lt =
        ap (λ l. get_or l k no_spot) are_spots
        ∙ get_or-map-range_with_len (spot_of wishes) 0 (length wishes) k k no_spot lt (omega arith)

    own_at : (n : ℕ) (p : Port) (s : PadSpot) → slice_get ps n ≡ Some p → slice_get back n ≡ Some s
        → HasPad wishes p s
    own_at n p s e f =
        let lt = slice_get_within ps n p e in
        let m = as_many ps es moved in
        let l = length-map es (wish_at ps) in
        let c = place ps es moved n p lt in
        let is_p : get_or ps n p ≡ p = get_or_from_slice_get ps n p p e in
        let there : c.0 < length wishes = (let b = c.1 in omega (arith, b, l)) in
        let is : get_or es c.0 none ≡ entry (get_or ps n p) n =
        get_or_default es c.0 none (entry (get_or ps n p) n) c.1 ∙ c.2 in
        let here : port_at c.0 ≡ p =
        ap (λ (e : Entry). get_or ps e.number no_port) is ∙ get_or_default ps n no_port p lt ∙ is_p in
        record {
          pad = c.0;
          there = there;
          wished = wished c.0 no_wish there ∙ ap wish_of here;
          at = sym (get_or_from_slice_get back n s no_spot f)
              ∙ get_or-map (λ k. get_or spots k no_spot) places n 0 no_spot (omega (arith, lt, m, as_long))
              ∙ ap (λ k. get_or spots k no_spot) (told_at n p lt) ∙ spot_at c.0 there;
        }

    -- and is that of a pad
    pub places_in : All (λ k. k < length spots) places
    places_in n d lt =
        let m = as_many ps es moved in
        let l = length-map es (wish_at ps) in
        let s = ap (λ (z : List PadSpot). length z) are_spots in
        let r = length-map-range_with_len (spot_of wishes) 0 (length wishes) in
        let inside : n < length ps = omega (arith, lt, m, as_long) in
        let e = told_at n no_port inside in
        let f = get_or_default places n d 0 lt in
        let b = (place ps es moved n no_port inside).1 in
        omega (arith, l, s, r, e, f, b)

    pub own : AllZip (HasPad wishes) ps back
    own =
        let l = length-map places (λ k. get_or spots k no_spot) in
        let m = as_many ps es moved in
        zip_from_places (HasPad wishes) ps back (omega (arith, l, m, as_long)) own_at

pub frame_is : (ps : List Port) (es : List Entry) (moved : IsPermutation (entries_from 0 ps) es)
    (parted : AreParted ps) (up : IsNonDecreasingBy (λ (e : Entry). e.height) es) (frame framed : Framed)
    → AreFramed (map (wish_at ps) es) frame → framed.shape ≡ frame.shape → (places : List ℕ)
    → length places ≡ length es → AreTold places es
    → framed.spots ≡ map (λ k. get_or frame.spots k no_spot) places → IsFrameOf ps framed
frame_is ps es moved parted up frame framed drawn shape places as_long told spots = record {
  wishes = wishes ps es moved parted up;
  rising = are_wishes ps es moved parted up;
  frame = frame;
  drawn = drawn;
  shape = shape;
  as_many = long ps es moved parted up;
  own = subst (AllZip (HasPad (wishes ps es moved parted up)) ps) (sym spots)
      (own ps es moved parted up places as_long told frame.spots drawn.spots);
  asked = asked ps es moved parted up;
}
