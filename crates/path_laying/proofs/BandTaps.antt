-- The taps of the control's band are on nets that there are, in columns behind the phases; and their marks.
use Rattle.std.proofs.Common.{◌≡◌, inl, inr, ℕ, ◌<◌, ◌≤◌, Option, Some, None, List, [], ◌∷◌, ◌++◌, length}
use Rattle.std.proofs.Common.{map}
use Rattle.std.proofs.Common.{refl, ◌∙◌, ap, subst, arith}
use Rattle.std.specs.Prelude.{Contains, flat_map, slice_get, All}
use Rattle.std.specs.List.{range_with_len}
use Rattle.std.proofs.lemmas.List.{map-append}
use Rattle.std.proofs.lemmas.Option.{slice_get_within}
use Rattle.mp_base.proofs.Members.{Member, map_member, member_append, member_contains, member_flat}
use Rattle.mp_base.proofs.Lists.{flat_map_same}
use Rattle.fabric.specs.declared.thing.Mark.{Mark}
use Rattle.fabric.specs.Room.{limit}
use Rattle.nor_net.specs.declared.net.NetId.{NetId}
use Rattle.nor_net.specs.declared.net.Part.TheVariants.{Input}
use Rattle.array_form.specs.declared.band.Band.{Band}
use Rattle.array_form.specs.declared.band.Tap.{Tap}
use Rattle.array_form.specs.Place.{IsBandOf}
use Rattle.array_form.proofs.Laid.{all_from}
use Rattle.slice_form.specs.Path.{Path, Cast, Lift, IsPath}
use Rattle.slice_form.specs.Slices.{base_of}
use Rattle.slice_form.specs.Whole.{numbers_of}
use Rattle.slice_joints.specs.Control.{cast_tap, lift_tap, cast_taps, lift_taps, IsControlBand}
use Rattle.slice_laying.specs.Taps.{control_cast_taps, control_lift_taps}
use Rattle.path_laying.specs.Tapped.{tap_mark}

pub record IsTapIn (p : Path) (t : Tap) : Type 0 where
  pub net : t.net.0 < length p.control
  pub first : 1 ≤ t.column
  pub last : t.column < base_of p

-- the mark of a tap
abbrev pub mark_of : (ℕ → ℕ) → Tap → Mark
mark_of row t = tap_mark row t.net.0 t.column

map_flat : {A B C : Type 0} (f : B → C) (g : A → List B) (xs : List A)
    → map f (flat_map g xs) ≡ flat_map (λ x. map f (g x)) xs
map_flat f g [] = refl
map_flat f g (x ∷ xs) =
    map-append f (g x) (flat_map g xs) ∙ ap (λ l. map f (g x) ++ l) (map_flat f g xs)

cast_marked : (row : ℕ → ℕ) (i : ℕ) (q : Option Cast) → map (mark_of row) (cast_tap i q) ≡ control_cast_taps row i q
cast_marked row i None = refl
cast_marked row i (Some c) = refl

lift_marked : (p : Path) (row : ℕ → ℕ) (i : ℕ) (q : Option Lift)
    → map (mark_of row) (lift_tap p i q) ≡ control_lift_taps p row i q
lift_marked p row i None = refl
lift_marked p row i (Some l) = refl

pub taps_marked : (p : Path) (row : ℕ → ℕ) → map (mark_of row) (cast_taps p ++ lift_taps p)
    ≡ flat_map (λ i. control_cast_taps row i (slice_get p.casts i)) (range_with_len 0 (length p.casts))
    ++ flat_map (λ i. control_lift_taps p row i (slice_get p.lifts i)) (range_with_len 0 (length p.lifts))
taps_marked p row =
    let casts = range_with_len 0 (length p.casts) in
    let lifts = range_with_len 0 (length p.lifts) in
    let a = map_flat (mark_of row) (λ i. cast_tap i (slice_get p.casts i)) casts
    ∙ flat_map_same (λ i. map (mark_of row) (cast_tap i (slice_get p.casts i)))
    (λ i. control_cast_taps row i (slice_get p.casts i)) casts (λ i. cast_marked row i (slice_get p.casts i)) in
    let b = map_flat (mark_of row) (λ i. lift_tap p i (slice_get p.lifts i)) lifts
    ∙ flat_map_same (λ i. map (mark_of row) (lift_tap p i (slice_get p.lifts i)))
    (λ i. control_lift_taps p row i (slice_get p.lifts i)) lifts (λ i. lift_marked p row i (slice_get p.lifts i)) in
    map-append (mark_of row) (cast_taps p) (lift_taps p) ∙ (λ i. a i ++ b i)

module _ (p : Path) (path : IsPath p) where
  cast_in : (t : Tap) → Member (cast_taps p) t → IsTapIn p t
  cast_in t m =
      let w = member_flat (λ i. cast_tap i (slice_get p.casts i)) (range_with_len 0 (length p.casts)) t m in
      go w.0 (slice_get p.casts w.0) refl w.2
    where
      go : (i : ℕ) (q : Option Cast) → slice_get p.casts i ≡ q → Member (cast_tap i q) t → IsTapIn p t
      go i None h m = absurd m
      go i (Some c) h (inl e) =
          let l = slice_get_within p.casts i c h in
          subst (IsTapIn p) e (record { net = (path.casts i c h).0; first = omega arith; last = omega (arith, l) })
      go i (Some c) h (inr z) = absurd z

  lift_in : (t : Tap) → Member (lift_taps p) t → IsTapIn p t
  lift_in t m =
      let w = member_flat (λ i. lift_tap p i (slice_get p.lifts i)) (range_with_len 0 (length p.lifts)) t m in
      go w.0 (slice_get p.lifts w.0) refl w.2
    where
      go : (i : ℕ) (q : Option Lift) → slice_get p.lifts i ≡ q → Member (lift_tap p i q) t → IsTapIn p t
      go i None h m = absurd m
      go i (Some l) h (inl e) =
          let b = slice_get_within p.lifts i l h in
          let n = slice_get_within p.control l.control Input (path.lifts i l h).2 in
          subst (IsTapIn p) e (record { net = n; first = omega arith; last = omega (arith, b) })
      go i (Some l) h (inr z) = absurd z

  pub tap_in : (band : Band) → IsControlBand p band → (t : Tap) → Member band.taps t → IsTapIn p t
  tap_in band is t m =
      elim (member_append (cast_taps p) (lift_taps p) t (subst (λ l. Member l t) is.taps m)) [
        | inl h ↦ cast_in t h
        | inr h ↦ lift_in t h
      ]

  pub taps_in : (band : Band) → IsControlBand p band → All (λ t. t.net.0 < length p.control) band.taps
  taps_in band is = all_from (λ (t : Tap). t.net.0 < length p.control) band.taps (λ t m. (tap_in band is t m).net)

  -- the nets of pads are in the control
  pub west_in : (band : Band) → IsControlBand p band → (i : NetId) → Member band.west i → i.0 < length p.control
  west_in band is i m =
      path.joined 0 i.0 (subst (λ l. Contains l i.0) is.west
      (member_contains (numbers_of band.west) i.0 (map_member (λ (id : NetId). id.0) band.west i m)))

  pub band_of : (band : Band) → IsControlBand p band → base_of p < limit → IsBandOf band p.control
  band_of band is few = record {
    first = (let f = is.first in omega (arith, f));
    nets = taps_in band is;
    columns = all_from (λ (t : Tap). t.column < limit) band.taps
        (λ t m. let l = (tap_in band is t m).last in omega (arith, l, few));
    west = all_from (λ (i : NetId). i.0 < length p.control) band.west (λ i m. west_in band is i m);
  }
