-- Rectangles without the layers that the mask needs.
use Rattle.std.proofs.Common.{ℕ, ◌≡◌, List, [], true, false, true≢false, None, Some, Option, ◌∷◌, refl, sym, ◌∙◌, subst}
use Rattle.std.proofs.Common.{arith, length}
use Rattle.std.specs.Prelude.{ℤ, All}
use Rattle.std.specs.List.{AllZip}
use Rattle.std.proofs.Math.ListN.{replicate}
use Rattle.std.proofs.lemmas.Int.{ints}
use Rattle.std.proofs.lemmas.List.Elements.{All-contains}
use Rattle.std.proofs.lemmas.Bool.{false_from_ne_true}
use Rattle.lam_geom.specs.declared.layer.Layer.{Layer}
use Rattle.lam_geom.specs.declared.rect.Rect.{Rect}
use Rattle.lam_geom.specs.declared.place.Point.{Point}
use Rattle.mask_runs.specs.declared.mask.Layers.{Layers}
use Rattle.mask_runs.specs.declared.mask.Mask.{Mask}
use Rattle.mask_runs.specs.Colours.{has, needs, Sees, HasColour}
use Rattle.mask_runs.specs.Laws.{BlankWithoutNeeded}
use Rattle.mask_tiles.specs.declared.tile.Tile.{Tile}
use Rattle.mask_tiles.specs.Tiles.{AreTiles, AreWhole, IsTileOf}
use Rattle.mask_tiles.proofs.SeenLayers.{layers_of}
use Rattle.lam_geom.proofs.Covered.{covered_by}

-- no rectangle has a layer that the mask needs
abbrev Lacks : Mask → List Rect → Type 0
Lacks mask shapes = All (λ r. needs mask r.layer ≡ false) shapes

no_layer : (mask : Mask) (shapes : List Rect) (x y : ℤ) (s : Layers) (l : Layer) → Lacks mask shapes
    → Sees shapes x y s → needs mask l ≡ true
    → has s l ≡ false
no_layer mask shapes x y s l none sees need = false_from_ne_true (has s l) (λ e.
    let r = covered_by shapes l x y ((sees.each l).0 e) in
    let lacks : needs mask r.0.layer ≡ false = All-contains (λ q. needs mask q.layer ≡ false) shapes r.0 none r.1 in
    true≢false (sym need ∙ subst (λ m. needs mask m ≡ false) r.2.same lacks))

-- no square has a colour
no_colour : BlankWithoutNeeded → (mask : Mask) (shapes : List Rect) (k : ℕ) (x y : ℤ) → Lacks mask shapes
    → HasColour shapes mask k x y → k ≡ 0
no_colour law mask shapes k x y none h =
    sym h.same ∙ law mask h.layers (λ l need. no_layer mask shapes x y h.layers l none h.sees need)

blank_square : BlankWithoutNeeded → (mask : Mask) (shapes : List Rect) (x y : ℤ) → Lacks mask shapes
    → HasColour shapes mask 0 x y
blank_square law mask shapes x y none =
    let s = layers_of shapes x y in
    record { layers = s.0; sees = s.1; same = law mask s.0 (λ l need. no_layer mask shapes x y s.0 l none s.1 need) }

pub blank_tiles : BlankWithoutNeeded → (mask : Mask) (shapes : List Rect) (tiles : List Tile) → Lacks mask shapes
    → tiles ≡ [] → AreTiles shapes mask tiles
blank_tiles law mask shapes tiles none e = subst (AreTiles shapes mask) (sym e) (record {
  each = λ k d a. absurd (omega arith);
  all = λ t is.
      let row = is.stack.each t.y0 (omega (arith, ints)) is.stack.some in
      let z = no_colour law mask shapes t.colour t.x0 t.y0 none (row.each t.x0 (omega (arith, ints)) row.some) in
      let some = is.some in
      absurd (omega arith);
  ascending = λ i j d a b. absurd (omega arith);
})

pub blank_whole : BlankWithoutNeeded → (mask : Mask) (shapes : List Rect) (tiles : List Tile) → Lacks mask shapes
    → AreWhole shapes mask tiles
blank_whole law mask shapes tiles none = record {
  tile = λ k x y some h. let z = no_colour law mask shapes k x y none h in absurd (omega arith);
}

pub blank_found : BlankWithoutNeeded
    → (mask : Mask) (shapes : List Rect) (tiles : List Tile) (places : List Point) (found : List (Option ℕ))
    → Lacks mask shapes → AllZip (λ p f. f ≡ None) places found → AllZip (IsTileOf shapes mask tiles) places found
blank_found law mask shapes tiles [] [] none h = tt
blank_found law mask shapes tiles [] (f ∷ fs) none h = h
blank_found law mask shapes tiles (p ∷ ps) [] none h = h
blank_found law mask shapes tiles (p ∷ ps) (f ∷ fs) none h = (
  subst (IsTileOf shapes mask tiles p) (sym h.0) (blank_square law mask shapes p.x p.y none),
  blank_found law mask shapes tiles ps fs none h.1,
)

-- no number is a clone of none
pub only_none : (IsClone : Option ℕ → Type 0) → ((n : ℕ) → IsClone (Some n) → ⊥) → (answer : Option ℕ) → IsClone answer
    → answer ≡ None
only_none IsClone never None h = refl
only_none IsClone never (Some n) h = absurd (never n h)

none_of : (places : List Point) → AllZip (λ p (f : Option ℕ). f ≡ None) places (replicate (length places) None)
none_of [] = tt
none_of (p ∷ ps) = (refl, none_of ps)

pub none_found : (places : List Point) (found : List (Option ℕ)) → found ≡ replicate (length places) None
    → AllZip (λ p f. f ≡ None) places found
none_found places found e = subst (AllZip (λ p f. f ≡ None) places) (sym e) (none_of places)
