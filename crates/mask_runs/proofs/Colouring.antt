-- Colours rest on the layers that a mask uses and needs, and a square has one.
use Rattle.std.proofs.Common.{refl, sym, ap, ◌∙◌, ◌≡◌, List}
use Rattle.std.specs.Prelude.{ℤ, if◌then◌else◌}
use Rattle.mp_base.proofs.Tests.{same_test}
use Rattle.lam_geom.specs.declared.layer.Layer.{Layer}
use Rattle.lam_geom.specs.declared.layer.Layer.TheVariants.{ND, NP, NC, NM, NI, NB, NG}
use Rattle.lam_geom.specs.declared.rect.Rect.{Rect}
use Rattle.mask_runs.specs.declared.mask.Layers.{Layers}
use Rattle.mask_runs.specs.declared.mask.Mask.TheVariants.{Only, Diffusion, Contacts}
use Rattle.mask_runs.specs.Colours.{has, colour_of, Sees}
use Rattle.mask_runs.specs.Laws.{BlankWithoutNeeded, ColoursByLayers, OneColour}

pub by_layers : ColoursByLayers
by_layers (Only ND) a b h = ap (λ t. if t then 1 else 0) (h ND refl)
by_layers (Only NP) a b h = ap (λ t. if t then 1 else 0) (h NP refl)
by_layers (Only NC) a b h = ap (λ t. if t then 1 else 0) (h NC refl)
by_layers (Only NM) a b h = ap (λ t. if t then 1 else 0) (h NM refl)
by_layers (Only NI) a b h = ap (λ t. if t then 1 else 0) (h NI refl)
by_layers (Only NB) a b h = ap (λ t. if t then 1 else 0) (h NB refl)
by_layers (Only NG) a b h = ap (λ t. if t then 1 else 0) (h NG refl)
by_layers Diffusion a b h = rw (h ND refl, h NP refl, h NB refl, h NI refl) refl
by_layers Contacts a b h = rw (h ND refl, h NP refl, h NC refl, h NM refl, h NB refl) refl

pub without_needed : BlankWithoutNeeded
without_needed (Only ND) s h = ap (λ t. if t then 1 else 0) (h ND refl)
without_needed (Only NP) s h = ap (λ t. if t then 1 else 0) (h NP refl)
without_needed (Only NC) s h = ap (λ t. if t then 1 else 0) (h NC refl)
without_needed (Only NM) s h = ap (λ t. if t then 1 else 0) (h NM refl)
without_needed (Only NI) s h = ap (λ t. if t then 1 else 0) (h NI refl)
without_needed (Only NB) s h = ap (λ t. if t then 1 else 0) (h NB refl)
without_needed (Only NG) s h = ap (λ t. if t then 1 else 0) (h NG refl)
without_needed Diffusion s h = rw (h ND refl) refl
without_needed Contacts s h = rw (h NC refl, h NB refl) refl

same_layers : (shapes : List Rect) (x y : ℤ) (a b : Layers) → Sees shapes x y a → Sees shapes x y b → a ≡ b
same_layers shapes x y a b s t =
    let e = λ (l : Layer). same_test (has a l) (has b l) (s.each l) (t.each l) in
    λ i. record { nd = e ND i; np = e NP i; nc = e NC i; nm = e NM i; ni = e NI i; nb = e NB i; ng = e NG i }

pub one_colour : OneColour
one_colour shapes mask k j x y h g =
    sym h.same ∙ ap (colour_of mask) (same_layers shapes x y h.layers g.layers h.sees g.sees) ∙ g.same
