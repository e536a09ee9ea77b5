-- Drawings with layers exchanged, and the colours of their squares.
use Rattle.std.proofs.Common.{◌≡◌, ◌≢◌, ◌⊎◌, inl, inr, refl, arith, List, [], Bool, true, false}
use Rattle.std.specs.Prelude.{◌↔◌, ℤ}
use Rattle.std.proofs.lemmas.Bool.{both_ways, false_from_ne_true}
use Rattle.lam_geom.specs.declared.layer.Layer.{Layer}
use Rattle.lam_geom.specs.declared.layer.Layer.TheVariants.{ND, NP, NB, NI}
use Rattle.lam_geom.specs.declared.rect.Rect.{Rect}
use Rattle.lam_geom.specs.Squares.{covered}
use Rattle.lam_geom.specs.Rules.Way.{right}
use Rattle.mask_runs.specs.declared.mask.Mask.TheVariants.{Diffusion}
use Rattle.mask_runs.specs.Colours.{HasColour}
use Rattle.mask_tiles.proofs.SeenLayers.{layers_of}
use Rattle.rule_rows.specs.declared.side.Reach.{Reach}
use Rattle.rule_rows.specs.declared.side.Side.TheVariants.{Right}
use Rattle.rule_rows.specs.Closed.{IsSwapped}
use Rattle.rule_rows.specs.Copies.{AreSpread}
use Rattle.rule_rows.specs.Sides.{Reaches}
use Rattle.rule_rows.proofs.Deep.{depth}
use Rattle.rule_rows.proofs.Spreading.{at_zero, reaches_one, spread_other, spread_own}

abbrev pub here : Reach
here = record { side = Right; near = 0; far = 0 }

here_is : (on : ℤ → ℤ → Type 0) (x y : ℤ) → on x y ↔ Reaches on right 0 0 x y
here_is on x y = (
  λ h. (0, omega arith, omega arith, (at_zero on right x y).0 h),
  λ r. (at_zero on right x y).1 (reaches_one on right 0 x y r),
)

-- a layer is drawn besides
pub drawn_own : (shapes old new : List Rect) (from to : Layer) → AreSpread (covered shapes from) to here old new
    → (x y : ℤ) → covered new to x y ↔ covered old to x y ⊎ covered shapes from x y
drawn_own shapes old new from to s x y =
    let a = spread_own (covered shapes from) to here old new s x y in (
      λ h. elim (a.0 h) [ inl c ↦ inl c | inr r ↦ inr ((here_is (covered shapes from) x y).1 r) ],
      λ h. elim h [ inl c ↦ a.1 (inl c) | inr c ↦ a.1 (inr ((here_is (covered shapes from) x y).0 c)) ],
    )

pub drawn_other : (shapes old new : List Rect) (from to : Layer) → AreSpread (covered shapes from) to here old new
    → (l : Layer) → l ≢ to → (x y : ℤ) → covered new l x y ↔ covered old l x y
drawn_other shapes old new from to s l n x y = spread_other (covered shapes from) to here old new s x y l n

module _ (shapes d1 d2 d3 : List Rect) (s1 : AreSpread (covered shapes NP) ND here [] d1)
    (s2 : AreSpread (covered shapes ND) NP here d1 d2) (s3 : AreSpread (covered shapes NB) NI here d2 d3) where
  pub swapped_is : IsSwapped shapes d3
  swapped_is = record {
    polysilicon = λ x y.
        let a = drawn_other shapes d2 d3 NB NI s3 ND (λ e. cc (e)) x y in
        let b = drawn_other shapes d1 d2 ND NP s2 ND (λ e. cc (e)) x y in
        let c = drawn_own shapes [] d1 NP ND s1 x y in (
          λ h. elim (c.0 (b.0 (a.0 h))) [ inl e ↦ absurd e | inr e ↦ e ],
          λ h. a.1 (b.1 (c.1 (inr h))),
        );
    diffusion = λ x y.
        let a = drawn_other shapes d2 d3 NB NI s3 NP (λ e. cc (e)) x y in
        let b = drawn_own shapes d1 d2 ND NP s2 x y in
        let c = drawn_other shapes [] d1 NP ND s1 NP (λ e. cc (e)) x y in (
          λ h. elim (b.0 (a.0 h)) [ inl e ↦ absurd (c.0 e) | inr e ↦ e ],
          λ h. a.1 (b.1 (inr h)),
        );
    buried = λ x y.
        let a = drawn_own shapes d2 d3 NB NI s3 x y in
        let b = drawn_other shapes d1 d2 ND NP s2 NI (λ e. cc (e)) x y in
        let c = drawn_other shapes [] d1 NP ND s1 NI (λ e. cc (e)) x y in (
          λ h. elim (a.0 h) [ inl e ↦ absurd (c.0 (b.0 e)) | inr e ↦ e ],
          λ h. a.1 (inr h),
        );
    unburied = λ x y h.
        let a = drawn_other shapes d2 d3 NB NI s3 NB (λ e. cc (e)) x y in
        let b = drawn_other shapes d1 d2 ND NP s2 NB (λ e. cc (e)) x y in
        let c = drawn_other shapes [] d1 NP ND s1 NB (λ e. cc (e)) x y in
        c.0 (b.0 (a.0 h));
  }

two : (nd np nb ni : Bool) → nd ≡ true → np ≡ true → nb ≡ false → ni ≡ false → depth nd np nb ni ≡ 2
two nd np nb ni e f g h = rw (e, f, g, h) refl

pub one : (nd np nb ni : Bool) → nd ≡ true → np ≡ false → depth nd np nb ni ≡ 1
one nd np true ni e f = rw (e, f) refl
one nd np false ni e f = rw (e, f) refl

bare_one : (nd np nb ni : Bool) → depth nd np nb ni ≡ 1 → nb ≡ false → (nd ≡ true) × (np ≡ false)
bare_one true false nb ni e f = (refl, refl)
bare_one true true false true e f = absurd (omega arith)
bare_one true true false false e f = absurd (omega arith)
bare_one true true true ni e f = absurd (cc (f))
bare_one false np nb ni e f = absurd (omega arith)

module _ (shapes drawing : List Rect) (is : IsSwapped shapes drawing) where
  -- channels have colour 2
  pub gate_colour : (x y : ℤ) → covered shapes NP x y → covered shapes ND x y → (¬ covered shapes NB x y)
      → HasColour drawing Diffusion 2 x y
  gate_colour x y p n b =
      let (s, sees) = layers_of drawing x y in record {
        layers = s;
        sees = sees;
        same = two s.nd s.np s.nb s.ni ((sees.each ND).1 ((is.polysilicon x y).1 p))
            ((sees.each NP).1 ((is.diffusion x y).1 n))
            (false_from_ne_true s.nb (λ e. is.unburied x y ((sees.each NB).0 e)))
            (false_from_ne_true s.ni (λ e. b ((is.buried x y).0 ((sees.each NI).0 e))));
      }

  -- polysilicon alone has colour 1
  pub alone_colour : (x y : ℤ) → covered shapes NP x y → (¬ covered shapes ND x y)
      → HasColour drawing Diffusion 1 x y
  alone_colour x y p n =
      let (s, sees) = layers_of drawing x y in record {
        layers = s;
        sees = sees;
        same = one s.nd s.np s.nb s.ni ((sees.each ND).1 ((is.polysilicon x y).1 p))
            (false_from_ne_true s.np (λ e. n ((is.diffusion x y).0 ((sees.each NP).0 e))));
      }

  pub alone_of : (x y : ℤ) → HasColour drawing Diffusion 1 x y → covered shapes NP x y × ¬ covered shapes ND x y
  alone_of x y h =
      let s = h.layers in
      let b = bare_one s.nd s.np s.nb s.ni h.same
      (false_from_ne_true s.nb (λ e. is.unburied x y ((h.sees.each NB).0 e))) in (
        (is.polysilicon x y).0 ((h.sees.each ND).0 b.0),
        λ n. both_ways s.np b.1 ((h.sees.each NP).1 ((is.diffusion x y).1 n)),
      )

  -- and squares of colour 2 have diffusion
  pub gate_of : (x y : ℤ) → HasColour drawing Diffusion 2 x y → covered shapes ND x y
  gate_of x y h =
      let s = h.layers in
      (is.diffusion x y).0 ((h.sees.each NP).0 (crossed s.nd s.np s.nb s.ni h.same))
    where
      crossed : (nd np nb ni : Bool) → depth nd np nb ni ≡ 2 → np ≡ true
      crossed nd true nb ni e = refl
      crossed true false nb ni e = absurd (omega arith)
      crossed false false nb ni e = absurd (omega arith)
