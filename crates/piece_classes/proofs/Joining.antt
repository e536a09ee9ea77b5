-- What the colours of contacts say of the conductors that they join.
use Rattle.std.proofs.Common.{◌≡◌, ◌≢◌, ℕ, ◌<◌, ◌⊎◌, inl, inr, List, Bool, true, false, not, ◌&&◌}
use Rattle.std.proofs.Common.{◌||◌, refl, ◌∙◌, ap, arith}
use Rattle.std.specs.Prelude.{ℤ, if◌then◌else◌}
use Rattle.std.proofs.lemmas.Bool.{cases_Bool, both_ways, false_from_ne_true, not-true}
use Rattle.lam_geom.specs.declared.layer.Layer.{Layer}
use Rattle.lam_geom.specs.declared.layer.Layer.TheVariants.{ND, NP, NC, NM, NB}
use Rattle.lam_geom.specs.declared.rect.Rect.{Rect}
use Rattle.lam_geom.specs.Squares.{covered}
use Rattle.mask_runs.specs.declared.mask.Layers.{Layers}
use Rattle.mask_runs.specs.declared.mask.Mask.TheVariants.{Contacts}
use Rattle.mask_runs.specs.Colours.{has, is_channel, colour_of, Sees, HasColour}
use Rattle.switch_net.specs.Conductors.{ConductsOn}
use Rattle.mask_tiles.proofs.SeenLayers.{layers_of}
use Rattle.piece_classes.specs.Linking.{joins, AreTwo}
use Rattle.piece_classes.specs.Linking.AreTwo.{upper, outer, lower}

-- the colour of a contact: cut, metal, polysilicon, buried, conducting diffusion
abbrev contact_colour : Bool → Bool → Bool → Bool → Bool → ℕ
contact_colour nc nm np nb d =
    if nc && nm && np && d then 7 else if nc && nm && np then 3 else if nc && nm && d then 5
    else if (nc || nb) && np && d then 6 else 0

upper_joined : (nc nm np nb d : Bool) → joins (contact_colour nc nm np nb d) NM ≡ true
    → joins (contact_colour nc nm np nb d) NP ≡ true → (nc ≡ true) × (nm ≡ true) × (np ≡ true)
upper_joined true true true nb d h k = (refl, refl, refl)
upper_joined true true false true true h k = absurd (cc)
upper_joined true true false false true h k = absurd (cc)
upper_joined true true false true false h k = absurd (cc)
upper_joined true true false false false h k = absurd (cc)
upper_joined true false true true true h k = absurd (cc)
upper_joined true false true false true h k = absurd (cc)
upper_joined true false true true false h k = absurd (cc)
upper_joined true false true false false h k = absurd (cc)
upper_joined true false false true true h k = absurd (cc)
upper_joined true false false false true h k = absurd (cc)
upper_joined true false false true false h k = absurd (cc)
upper_joined true false false false false h k = absurd (cc)
upper_joined false nm np false d h k = absurd (cc)
upper_joined false nm true true true h k = absurd (cc)
upper_joined false nm true true false h k = absurd (cc)
upper_joined false nm false true true h k = absurd (cc)
upper_joined false nm false true false h k = absurd (cc)

outer_joined : (nc nm np nb d : Bool) → joins (contact_colour nc nm np nb d) NM ≡ true
    → joins (contact_colour nc nm np nb d) ND ≡ true → (nc ≡ true) × (nm ≡ true) × (d ≡ true)
outer_joined true true np nb true h k = (refl, refl, refl)
outer_joined true true true nb false h k = absurd (cc)
outer_joined true true false true false h k = absurd (cc)
outer_joined true true false false false h k = absurd (cc)
outer_joined true false true true true h k = absurd (cc)
outer_joined true false true false true h k = absurd (cc)
outer_joined true false true true false h k = absurd (cc)
outer_joined true false true false false h k = absurd (cc)
outer_joined true false false true true h k = absurd (cc)
outer_joined true false false false true h k = absurd (cc)
outer_joined true false false true false h k = absurd (cc)
outer_joined true false false false false h k = absurd (cc)
outer_joined false nm np false d h k = absurd (cc)
outer_joined false nm true true true h k = absurd (cc)
outer_joined false nm true true false h k = absurd (cc)
outer_joined false nm false true true h k = absurd (cc)
outer_joined false nm false true false h k = absurd (cc)

lower_joined : (nc nm np nb d : Bool) → joins (contact_colour nc nm np nb d) NP ≡ true
    → joins (contact_colour nc nm np nb d) ND ≡ true → ((nc ≡ true) ⊎ (nb ≡ true)) × (np ≡ true) × (d ≡ true)
lower_joined true nm true nb true h k = (inl refl, refl, refl)
lower_joined false nm true true true h k = (inr refl, refl, refl)
lower_joined false nm true false true h k = absurd (cc)
lower_joined true true true nb false h k = absurd (cc)
lower_joined true false true nb false h k = absurd (cc)
lower_joined false nm true true false h k = absurd (cc)
lower_joined false nm true false false h k = absurd (cc)
lower_joined true true false nb true h k = absurd (cc)
lower_joined true true false true false h k = absurd (cc)
lower_joined true true false false false h k = absurd (cc)
lower_joined true false false nb d h k = absurd (cc)
lower_joined false nm false true d h k = absurd (cc)
lower_joined false nm false false d h k = absurd (cc)

upper_joins : (nc nm np nb d : Bool) → nc ≡ true → nm ≡ true → np ≡ true
    → (0 < contact_colour nc nm np nb d) × (joins (contact_colour nc nm np nb d) NM ≡ true)
    × (joins (contact_colour nc nm np nb d) NP ≡ true)
upper_joins true true true nb true e f g = (omega arith, refl, refl)
upper_joins true true true nb false e f g = (omega arith, refl, refl)
upper_joins true true false nb d e f g = absurd (cc)
upper_joins true false np nb d e f g = absurd (cc)
upper_joins false nm np nb d e f g = absurd (cc)

outer_joins : (nc nm np nb d : Bool) → nc ≡ true → nm ≡ true → d ≡ true
    → (0 < contact_colour nc nm np nb d) × (joins (contact_colour nc nm np nb d) NM ≡ true)
    × (joins (contact_colour nc nm np nb d) ND ≡ true)
outer_joins true true true nb true e f g = (omega arith, refl, refl)
outer_joins true true false nb true e f g = (omega arith, refl, refl)
outer_joins true true np nb false e f g = absurd (cc)
outer_joins true false np nb d e f g = absurd (cc)
outer_joins false nm np nb d e f g = absurd (cc)

lower_joins : (nc nm np nb d : Bool) → (nc ≡ true) ⊎ (nb ≡ true) → np ≡ true → d ≡ true
    → (0 < contact_colour nc nm np nb d) × (joins (contact_colour nc nm np nb d) NP ≡ true)
    × (joins (contact_colour nc nm np nb d) ND ≡ true)
lower_joins true true true nb true e f g = (omega arith, refl, refl)
lower_joins true false true nb true e f g = (omega arith, refl, refl)
lower_joins false nm true true true e f g = (omega arith, refl, refl)
lower_joins false nm true false true (inl e) f g = absurd (cc)
lower_joins false nm true false true (inr e) f g = absurd (cc)
lower_joins nc nm false nb d e f g = absurd (cc)
lower_joins nc nm true nb false e f g = absurd (cc)

-- a contact cut, or a buried contact where neither is metal
abbrev pub IsBy : List Rect → ℤ → ℤ → Layer → Layer → Type 0
IsBy shapes x y l m = covered shapes NC x y ⊎ covered shapes NB x y × l ≢ NM × m ≢ NM

module _ (shapes : List Rect) (x y : ℤ) (s : Layers) (sees : Sees shapes x y s) where
  yes : (l : Layer) → has s l ≡ true → covered shapes l x y
  yes l = (sees.each l).0

  set : (l : Layer) → covered shapes l x y → has s l ≡ true
  set l = (sees.each l).1

  abbrev diffusion : Bool
  diffusion = s.nd && not (is_channel s)

  both_true : (a b : Bool) → (a && b) ≡ true → (a ≡ true) × (b ≡ true)
  both_true a b h = grind arith

  diffusion_conducts : diffusion ≡ true → ConductsOn (covered shapes) ND x y
  diffusion_conducts h =
      let b = both_true s.nd (not (is_channel s)) h in
      let f : is_channel s ≡ false = not-true (is_channel s) b.1 in (
        yes ND b.0,
        λ c.
            let e : is_channel s ≡ true =
            rw (set ND c.diffusion, set NP c.gate, false_from_ne_true s.nb (λ t. c.unburied (yes NB t))) refl in
            absurd (cc),
      )

  conducts_diffusion : ConductsOn (covered shapes) ND x y → diffusion ≡ true
  conducts_diffusion c = go (cases_Bool s.np) (cases_Bool s.nb)
    where
      go : (s.np ≡ true) ⊎ (s.np ≡ false) → (s.nb ≡ true) ⊎ (s.nb ≡ false) → diffusion ≡ true
      go (inr p) b = rw (set ND c.0, p) refl
      go (inl p) (inl b) = rw (set ND c.0, p, b) refl
      go (inl p) (inr b) =
          absurd (c.1 (record { gate = yes NP p; diffusion = c.0; unburied = λ d. both_ways s.nb b (set NB d) }))

  joined_here : {l m : Layer} → AreTwo l m → joins (colour_of Contacts s) l ≡ true
      → joins (colour_of Contacts s) m ≡ true
      → ConductsOn (covered shapes) l x y × ConductsOn (covered shapes) m x y × IsBy shapes x y l m
  joined_here upper h k = let w = upper_joined s.nc s.nm s.np s.nb diffusion h k in
      (yes NM w.1, yes NP w.2, inl (yes NC w.0))
  joined_here outer h k = let w = outer_joined s.nc s.nm s.np s.nb diffusion h k in
      (yes NM w.1, diffusion_conducts w.2, inl (yes NC w.0))
  joined_here lower h k =
      let w = lower_joined s.nc s.nm s.np s.nb diffusion h k in (
        yes NP w.1,
        diffusion_conducts w.2,
        elim w.0 [
          | inl e ↦ inl (yes NC e)
          | inr e ↦ inr (yes NB e, (λ f. cc), (λ f. cc))
        ],
      )

  here_joined : {l m : Layer} → AreTwo l m → ConductsOn (covered shapes) l x y → ConductsOn (covered shapes) m x y
      → IsBy shapes x y l m
      → (0 < colour_of Contacts s) × (joins (colour_of Contacts s) l ≡ true) × (joins (colour_of Contacts s) m ≡ true)
  here_joined upper c d by = elim by [
    | inl e ↦ upper_joins s.nc s.nm s.np s.nb diffusion (set NC e) (set NM c) (set NP d)
    | inr e ↦ absurd (e.1 refl)
  ]
  here_joined outer c d by = elim by [
    | inl e ↦ outer_joins s.nc s.nm s.np s.nb diffusion (set NC e) (set NM c) (conducts_diffusion d)
    | inr e ↦ absurd (e.1 refl)
  ]
  here_joined lower c d by =
      lower_joins s.nc s.nm s.np s.nb diffusion (elim by [ inl e ↦ inl (set NC e) | inr e ↦ inr (set NB e.0) ])
      (set NP c) (conducts_diffusion d)

pub joined_by : (shapes : List Rect) (k : ℕ) (x y : ℤ) {l m : Layer} → HasColour shapes Contacts k x y → AreTwo l m
    → joins k l ≡ true → joins k m ≡ true
    → ConductsOn (covered shapes) l x y × ConductsOn (covered shapes) m x y × IsBy shapes x y l m
joined_by shapes k x y {l = l} {m = m} h two jl jm =
    joined_here shapes x y h.layers h.sees two (ap (λ c. joins c l) h.same ∙ jl) (ap (λ c. joins c m) h.same ∙ jm)

pub contact_coloured : (shapes : List Rect) (x y : ℤ) {l m : Layer} → AreTwo l m → ConductsOn (covered shapes) l x y
    → ConductsOn (covered shapes) m x y → IsBy shapes x y l m
    → (k : ℕ) × HasColour shapes Contacts k x y × (0 < k) × (joins k l ≡ true) × (joins k m ≡ true)
contact_coloured shapes x y two c d by =
    let s = layers_of shapes x y in
    let w = here_joined shapes x y s.0 s.1 two c d by in
    (colour_of Contacts s.0, record { layers = s.0; sees = s.1; same = refl }, w.0, w.1, w.2)
