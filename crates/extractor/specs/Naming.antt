-- The nodes that labels name.
use Rattle.std.specs.Prelude.{◌≡◌, ℕ, ◌<◌, List, length, get_or, Option, Some, None, slice_get}
use Rattle.lam_geom.specs.declared.layer.Layer.{Layer}
use Rattle.lam_geom.specs.declared.layer.Layer.TheVariants.{ND, NP, NC, NM, NI, NB, NG}
use Rattle.lam_geom.specs.declared.label.FlatLabel.{FlatLabel}
use Rattle.lam_geom.specs.declared.place.Point.{Point}
use Rattle.extractor.specs.declared.over.Over.{Over}

-- the place of a label
abbrev pub point_of : FlatLabel → Point
point_of label = record { x = label.x; y = label.y }

-- the one, or the other where it is none
abbrev pub or_else : Option ℕ → Option ℕ → Option ℕ
or_else (Some n) other = Some n
or_else None other = other

-- the node of a layer
abbrev pub node_on : Over → Layer → Option ℕ
node_on over NM = over.metal
node_on over NP = over.polysilicon
node_on over ND = over.diffusion
node_on over NC = None
node_on over NI = None
node_on over NB = None
node_on over NG = None

-- the node of the first layer that has one
abbrev pub first_node : Over → Option ℕ
first_node over = or_else over.metal (or_else over.polysilicon over.diffusion)

-- the node of the label's own layer, or else the first
abbrev pub named_node : Over → Option Layer → Option ℕ
named_node over (Some l) = or_else (node_on over l) (first_node over)
named_node over None = first_node over

-- the nodes over the place with this number
abbrev pub over_at : List (Option ℕ) → List (Option ℕ) → List (Option ℕ) → ℕ → Over
over_at metal polysilicon diffusion n =
    record { metal = get_or metal n None; polysilicon = get_or polysilicon n None; diffusion = get_or diffusion n None }

-- the nodes that the first `count` labels name
pub record AreNamed (labels : List FlatLabel) (metal polysilicon diffusion : List (Option ℕ)) (count : ℕ)
    (nodes : List (Option ℕ)) : Type 0 where
  pub long : length nodes ≡ count
  pub each : (n : ℕ) (label : FlatLabel) → n < count → slice_get labels n ≡ Some label
      → get_or nodes n None ≡ named_node (over_at metal polysilicon diffusion n) label.layer
