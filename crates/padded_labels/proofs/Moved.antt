-- Each label moves to the pad of its own port.
use Rattle.std.proofs.Common.{ℕ, zero, suc, ◌≡◌, ◌<◌, ◌+◌, ◌*◌, refl, sym, ap, subst, ◌∙◌, arith, List, [], ◌∷◌, length}
use Rattle.std.proofs.Common.{All, Contains, get_or, map}
use Rattle.std.specs.List.{AllZip, range_with_len}
use Rattle.std.specs.Prelude.{ℤ, pos, ◌+ℤ◌, ◌-ℤ◌, ◌*ℤ◌, int_div, int_rem, slice_get, slice_index, Some, unsigned_abs}
use Rattle.std.proofs.lemmas.Int.{ints, quot-rem, rem_below}
use Rattle.std.proofs.lemmas.List.{get_or_default}
use Rattle.std.proofs.lemmas.Option.{get_or_from_slice_get, slice_get_within}
use Rattle.std.proofs.lemmas.List.FromFn.{get_or-map-range_with_len, length-map-range_with_len}
use Rattle.mp_base.proofs.Zips.{zip_at, zip_length}
use Rattle.fabric.specs.declared.chip.ChipLabel.{ChipLabel}
use Rattle.fabric.specs.Even.{IsEven}
use Rattle.pad_frame.specs.declared.frames.PadWish.{PadWish}
use Rattle.pad_frame.specs.declared.frames.PadSpot.{PadSpot}
use Rattle.pad_frame.specs.declared.frames.Framed.{Framed}
use Rattle.pad_frame.specs.Frames.{west}
use Rattle.pad_order.specs.declared.ports.Port.{Port}
use Rattle.pad_order.specs.Ordered.{HasPad, IsFrameOf, wish_of}
use Rattle.chip_pads.specs.Ports.{bridge}
use Rattle.padded_labels.specs.declared.labels.Padding.{Padding}
use Rattle.padded_labels.specs.Padded.{IsAtSpot, IsEvenSpot, IsMovedTo, IsPadded, ports_at}
use Rattle.padded_labels.proofs.Ported.{port_is, ports_long}

-- ---- the spots of pads are even

no_rest : (z q m : ℤ) → q *ℤ pos 2 +ℤ m ≡ pos 500 *ℤ z → unsigned_abs m < 2 → m ≡ pos 0
no_rest z q m e h = omega (arith, ints, e, h)

even : (z : ℤ) → IsEven (pos 500 *ℤ z)
even z =
    no_rest z (int_div (pos 500 *ℤ z) (pos 2)) (int_rem (pos 500 *ℤ z) (pos 2)) (quot-rem (pos 500 *ℤ z) (pos 2))
    (rem_below (pos 500 *ℤ z) (pos 2) (omega arith))

module _ (labels : List ChipLabel) (heights : List ℕ) (long : length heights ≡ length labels) (framed : Framed)
    (fr : IsFrameOf (ports_at labels heights) framed) where
  abbrev ports : List Port
  ports = ports_at labels heights

  spots_long : length framed.spots ≡ length labels
  spots_long = sym (zip_length (HasPad fr.wishes) ports framed.spots fr.own) ∙ ports_long labels heights long

  own_at : (i : ℕ) (d : Port) (e : PadSpot) → i < length ports
      → HasPad fr.wishes (get_or ports i d) (get_or framed.spots i e)
  own_at i d e lt = zip_at (HasPad fr.wishes) ports framed.spots fr.own i d e lt

  pub spots_even : All IsEvenSpot framed.spots
  spots_even i d lt =
      let none : Port = record { name = []; height = 0 } in
      let s = spots_long in
      let l = ports_long labels heights long in
      let h = own_at i none d (omega (arith, lt, s, l)) in
      let x = ap (λ (p : PadSpot). p.x) h.at in
      let y = ap (λ (p : PadSpot). p.y) h.at in
      let up : (get_or framed.spots i d).y ≡ pos 500 *ℤ pos (60 * h.pad + 20) = omega (arith, ints, y) in
      record {
        x = subst IsEven (sym x) (even (west (length fr.wishes) 30));
        y = subst IsEven (sym up) (even (pos (60 * h.pad + 20)));
      }

  pub padded_is : (padding : Padding) → padding.extra ≡ bridge ∷ framed.shape
      → AllZip IsAtSpot framed.spots padding.labels → IsPadded labels heights padding
  padded_is padding extra at = record {
    wishes = fr.wishes;
    rising = fr.rising;
    frame = fr.frame;
    drawn = fr.drawn;
    as_many = fr.as_many ∙ ports_long labels heights long;
    extra = extra ∙ ap (λ z. bridge ∷ z) fr.shape;
    long = sym (zip_length IsAtSpot framed.spots padding.labels at) ∙ spots_long;
    moved = moved;
    asked = asked;
  }
    where
      none : Port
      none = record { name = []; height = 0 }

      moved : (i : ℕ) (new old : ChipLabel) → slice_get padding.labels i ≡ Some new → slice_get labels i ≡ Some old
          → IsMovedTo fr.wishes (slice_index heights i) new old
      moved i new old e g =
          let lt = slice_get_within labels i old g in
          let s = spots_long in
          let l = ports_long labels heights long in
          let spot : PadSpot = record { name = []; x = pos 0; y = pos 0 } in
          let h = own_at i none spot (omega (arith, lt, l)) in
          let p = port_is labels heights i old none long g in
          let q : get_or padding.labels i new ≡ new = get_or_from_slice_get padding.labels i new new e in
          let a = subst (IsAtSpot (get_or framed.spots i spot)) q
          (zip_at IsAtSpot framed.spots padding.labels at i spot new (omega (arith, lt, s))) in
          record {
            pad = h.pad;
            there = h.there;
            row = ap (λ (w : PadWish). w.row) h.wished ∙ ap (λ (x : Port). pos x.height) p;
            name = a.name ∙ ap (λ (x : PadSpot). x.name) h.at ∙ ap (λ (w : PadWish). w.name) h.wished
                ∙ ap (λ (x : Port). x.name) p;
            layer = a.layer;
            x = a.x ∙ ap (λ (x : PadSpot). x.x) h.at;
            y = a.y ∙ ap (λ (x : PadSpot). x.y) h.at;
          }

      -- a pad's height is that of a port
      height_of : (labels : List ChipLabel) (heights : List ℕ) (p : Port) (k : ℕ) → k < length (ports_at labels heights)
          → get_or (ports_at labels heights) k p ≡ p → Contains heights p.height
      height_of [] heights p k lt e = absurd (omega (arith, lt))
      height_of (l ∷ ls) [] p k lt e = absurd (omega (arith, lt))
      height_of (l ∷ ls) (h ∷ hs) p zero lt e = (0, omega arith, ap (λ (x : Port). x.height) e)
      height_of (l ∷ ls) (h ∷ hs) p (suc k) lt e =
          let c = height_of ls hs p k (omega (arith, lt)) e in
          (suc c.0, (let b = c.1 in omega (arith, b)), c.2)

      asked : All (λ (w : PadWish). (h : ℕ) × Contains heights h × (w.row ≡ pos h)) fr.wishes
      asked j d lt =
          let w = fr.asked j d lt in
          ((w.0).height, height_of labels heights w.0 (w.1).0 (w.1).1 (w.1).2, ap (λ (x : PadWish). x.row) w.2)
