-- What is found of a user command.
use Rattle.std.proofs.Common.{ℕ, ◌≡◌, ◌≢◌, ◌<◌, ◌^◌, ◌⊎◌, inr, refl, sym, ◌∙◌, ap, subst, List}
use Rattle.std.proofs.Common.{[], ◌∷◌, ◌++◌, length, Option}
use Rattle.std.proofs.Common.{Some, None, arith, Bool, true, false, to_z, of_z, w64}
use Rattle.std.specs.Bool.{OnTrue, OnFalse}
use Rattle.std.specs.Prelude.{ℤ}
use Rattle.lam_geom.specs.declared.place.Point.{Point}
use Rattle.lam_geom.specs.declared.label.FlatLabel.{FlatLabel}
use Rattle.mp_base.proofs.Entries.{one_value}
use Rattle.cif_form.specs.declared.command.Command.{Command}
use Rattle.cif_form.specs.declared.command.Item.{Item}
use Rattle.cif_form.specs.Place.{Scale, IsScaled, dot}
use Rattle.cif_form.specs.Labels.{IsLabelText, IsNoLabel}
use Rattle.cif_form.specs.Expansion.{Definition, item_at}
use Rattle.cif_form.specs.Walk.{IsLabelAt}
use Rattle.cif_form.proofs.OneLabel.{one_label}
use Rattle.cif_place.specs.Placing.{IsWithin, scale_of, place_of}
use Rattle.cif_place.proofs.Numbers.{kept_64}
use Rattle.cif_place.proofs.Points.{cell_backs}
use Rattle.cif_place.specs.declared.placement.Placement.{Placement}
use Rattle.lam_geom.specs.Moves.{IsNear}
use Rattle.std.proofs.lemmas.Int.{ints}
use Rattle.cif_place.specs.Pointing.{IsCornerAt, IsFarDotAt, backed_if}
use Rattle.cif_flat.specs.declared.level.Level.{Level}
use Rattle.cif_flat.specs.declared.walker.Walker.{Walker}
use Rattle.cif_flat.specs.Naming.{way_of}
use Rattle.cif_flat.specs.Meeting.{was_met}
use Rattle.cif_flat.specs.Walking.{visit_of, IsFound}
use Rattle.cif_flat.proofs.Namings.{way_is}
use Rattle.cif_flat.proofs.Words.{label_words, coordinate_within}

same_text : (m n : FlatLabel) (text : List ℕ) → IsLabelText m text → IsLabelText n text
    → (m.name ≡ n.name) × (m.x ≡ n.x) × (m.y ≡ n.y)
same_text m n text h k =
    let e = one_label (record m { offset = 0 }) (record n { offset = 0 }) text refl h k in
    (ap (λ l. l.name) e, ap (λ l. l.x) e, ap (λ l. l.y) e)

pub yes_of : (b m : Bool) (n : ℕ) → b ≡ m → 0 < n → OnTrue b ((0 < n) × (m ≡ true))
yes_of true m n e h = (h, sym e)
yes_of false m n e h = tt

pub no_of : (b m : Bool) (A : Type 0) → b ≡ m → OnFalse b (A ⊎ (m ≡ false))
no_of true m A e = tt
no_of false m A e = inr (sym e)

pub kept_pair : (P : ℤ → ℤ → Type 0) (x y : ℤ) → IsWithin (2 ^ 33) x → IsWithin (2 ^ 33) y
    → P (to_z w64 (of_z w64 x)) (to_z w64 (of_z w64 y)) → P x y
kept_pair P x y h k p =
    subst (λ z. P z y) (kept_64 x h) (subst (λ z. P (to_z w64 (of_z w64 x)) z) (kept_64 y k) p)

pub wrapped : (x : ℤ) → IsWithin (2 ^ 33) x → IsWithin (2 ^ 33) (to_z w64 (of_z w64 x))
wrapped x h = subst (IsWithin (2 ^ 33)) (sym (kept_64 x h)) h

wrapped_back : (b : Bool) (z : ℤ) → IsNear z → to_z w64 (of_z w64 (backed_if b z)) ≡ backed_if b z
wrapped_back true z n = omega (arith, ints, n.0, n.1)
wrapped_back false z n = omega (arith, ints, n.0, n.1)

wrapped_corner : (z c : ℤ) (b : Bool) → IsNear z → c ≡ backed_if b z → to_z w64 (of_z w64 c) ≡ c
wrapped_corner z c b n e = ap (λ y. to_z w64 (of_z w64 y)) e ∙ wrapped_back b z n ∙ sym e

pub corner_kept : (s : Scale) (p : Placement) (x y : ℤ) (c : Point) → IsCornerAt s p x y c
    → (to_z w64 (of_z w64 c.x) ≡ c.x) × (to_z w64 (of_z w64 c.y) ≡ c.y)
corner_kept s p x y c (h, v, sx, sy, near, ex, ey) =
    let back = cell_backs p h v in (
      wrapped_corner (place_of p (dot h v)).x0 c.x p.flips_x near.x0 (ex ∙ back.0),
      wrapped_corner (place_of p (dot h v)).y0 c.y p.flips_y near.y0 (ey ∙ back.1),
    )

pub label_within : (l : FlatLabel) (text : List ℕ) → IsLabelText l text → IsWithin (2 ^ 33) l.x × IsWithin (2 ^ 33) l.y
label_within l text h =
    let w = label_words text l h in (coordinate_within l.x w.across w.x, coordinate_within l.y w.up w.y)

module _ (items : List Item) (w : Walker) (v : Level) (offset digit : ℕ) (text : List ℕ) where
  abbrev Found : Option FlatLabel → Type 0
  Found = IsFound items w v offset digit text

  pub found_other : digit ≢ 9 → Found None
  found_other n = λ ds count names c l at. absurd (n at.nine)

  abbrev way : Option (List ℕ)
  way = way_of items (w.levels.items ++ (v ∷ []))

  pub found_nowhere : way ≡ None → Found None
  found_nowhere e = λ ds count names c l at.
      let f : None ≡ Some at.way = sym e ∙ sym (way_is items w.levels.items v) ∙ at.named in absurd (cc)

  pub found_text : IsNoLabel text → Found None
  found_text n = λ ds count names c l at. absurd (n at.written at.is)

  module _ (written : FlatLabel) (is : IsLabelText written text) where
    pub found_far : IsFarDotAt (scale_of v.ratio) v.placement written.x written.y → Found None
    found_far far = λ ds count names c l at.
        let e = same_text at.written written text at.is is in
        absurd (far at.x at.y (subst (λ z. IsScaled (scale_of v.ratio) z at.x) e.1 at.across)
        (subst (λ z. IsScaled (scale_of v.ratio) z at.y) e.2 at.up) at.near)

    module _ (bytes : List ℕ) (has : way ≡ Some bytes) where
      named : (ds : List Definition) (count : ℕ) (names : List (List ℕ)) (c : Command) (l : FlatLabel)
          → IsLabelAt (visit_of items ds count names w.levels.items v (item_at offset c)) digit text l
          → l.name ≡ bytes ++ written.name
      named ds count names c l at =
          let e = same_text at.written written text at.is is in
          let same : at.way ≡ bytes =
          one_value way at.way bytes (sym (way_is items w.levels.items v) ∙ at.named) has in
          at.name ∙ (λ i. same i ++ e.0 i)

      pub found_met : 0 < length w.levels.items → was_met w.met (bytes ++ written.name) ≡ true → Found None
      found_met deep met = λ ds count names c l at.
          (deep, ap (was_met w.met) (named ds count names c l at) ∙ met)

      pub found_label : digit ≡ 9 → (corner : Point)
          → IsCornerAt (scale_of v.ratio) v.placement written.x written.y corner
          → (w.levels.items ≡ []) ⊎ (was_met w.met (bytes ++ written.name) ≡ false)
          → Found (Some (record {
            offset = offset;
            name = bytes ++ written.name;
            x = corner.x;
            y = corner.y;
            layer = written.layer;
          }))
      found_label nine corner (h, u, across, up, near, left, bottom) new = (
        (λ ds count names c. record {
          nine = nine;
          written = written;
          is = is;
          way = bytes;
          named = way_is items w.levels.items v ∙ has;
          x = h;
          y = u;
          across = across;
          up = up;
          near = near;
          offset = refl;
          name = refl;
          left = left;
          bottom = bottom;
          layer = refl;
        }),
        new,
      )
