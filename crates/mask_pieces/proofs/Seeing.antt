-- What the colours of squares say of channels.
use Rattle.std.proofs.Common.{◌≡◌, ℕ, ◌⊎◌, inl, inr, List, true, false}
use Rattle.std.proofs.Common.{refl, sym, ◌∙◌}
use Rattle.std.specs.Prelude.{ℤ}
use Rattle.std.proofs.lemmas.Bool.{cases_Bool, both_ways}
use Rattle.lam_geom.specs.declared.layer.Layer.{Layer}
use Rattle.lam_geom.specs.declared.layer.Layer.TheVariants.{ND, NP, NI, NB}
use Rattle.lam_geom.specs.declared.rect.Rect.{Rect}
use Rattle.lam_geom.specs.Squares.{covered}
use Rattle.mask_runs.specs.declared.mask.Mask.{Mask}
use Rattle.mask_runs.specs.declared.mask.Mask.TheVariants.{Diffusion}
use Rattle.mask_runs.specs.Colours.{has, colour_of, HasColour}
use Rattle.switch_net.specs.Conductors.{IsChannel}
use Rattle.mask_tiles.proofs.SeenLayers.{layers_of}

-- each square has a colour
pub coloured : (shapes : List Rect) (mask : Mask) (x y : ℤ) → (k : ℕ) × HasColour shapes mask k x y
coloured shapes mask x y =
    let s = layers_of shapes x y in
    (colour_of mask s.0, record { layers = s.0; sees = s.1; same = refl })

-- ---- diffusion

-- the colours of diffusion
pub data OnDiffusion (shapes : List Rect) (x y : ℤ) (k : ℕ) : Type 0 where
  none : ¬ covered shapes ND x y → k ≡ 0 → OnDiffusion shapes x y k
  conductor : covered shapes ND x y → ¬ IsChannel (covered shapes) x y → k ≡ 1 → OnDiffusion shapes x y k
  plain : IsChannel (covered shapes) x y → ¬ covered shapes NI x y → k ≡ 2 → OnDiffusion shapes x y k
  implant : IsChannel (covered shapes) x y → covered shapes NI x y → k ≡ 3 → OnDiffusion shapes x y k

pub on_diffusion : (shapes : List Rect) (k : ℕ) (x y : ℤ) → HasColour shapes Diffusion k x y → OnDiffusion shapes x y k
on_diffusion shapes k x y h =
    go (cases_Bool h.layers.nd) (cases_Bool h.layers.np) (cases_Bool h.layers.nb) (cases_Bool h.layers.ni)
  where
    yes : (l : Layer) → has h.layers l ≡ true → covered shapes l x y
    yes l = (h.sees.each l).0

    no : (l : Layer) → has h.layers l ≡ false → ¬ covered shapes l x y
    no l f c = both_ways (has h.layers l) f ((h.sees.each l).1 c)

    go : (h.layers.nd ≡ true) ⊎ (h.layers.nd ≡ false) → (h.layers.np ≡ true) ⊎ (h.layers.np ≡ false)
        → (h.layers.nb ≡ true) ⊎ (h.layers.nb ≡ false)
        → (h.layers.ni ≡ true) ⊎ (h.layers.ni ≡ false) → OnDiffusion shapes x y k
    go (inr d) p b i = none (no ND d) (sym h.same ∙ rw d refl)
    go (inl d) (inr p) b i = conductor (yes ND d) (λ c. no NP p c.gate) (sym h.same ∙ rw (d, p) refl)
    go (inl d) (inl p) (inl b) i = conductor (yes ND d) (λ c. c.unburied (yes NB b)) (sym h.same ∙ rw (d, p, b) refl)
    go (inl d) (inl p) (inr b) (inl i) =
        implant (record { gate = yes NP p; diffusion = yes ND d; unburied = no NB b }) (yes NI i)
        (sym h.same ∙ rw (d, p, b, i) refl)
    go (inl d) (inl p) (inr b) (inr i) =
        plain (record { gate = yes NP p; diffusion = yes ND d; unburied = no NB b }) (no NI i)
        (sym h.same ∙ rw (d, p, b, i) refl)
