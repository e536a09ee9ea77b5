-- Sets of layers as numbers, and sets of these, as the bits of a number.
use Rattle.std.specs.Prelude.{◌≡◌, ◌≢◌, ◌||◌, ◌&&◌, ◌==◌, ℕ, ◌+◌, ◌/◌, ◌%◌, ◌<◌, Bool, true, false}
use Rattle.std.specs.Prelude.{bit_or, if◌then◌else◌}
use Rattle.std.specs.Int.{bit_at}
use Rattle.lam_geom.specs.declared.layer.Layer.{Layer}
use Rattle.lam_geom.specs.declared.layer.Layer.TheVariants.{NC, NI, NG}
use Rattle.mask_runs.specs.declared.mask.Layers.{Layers}
use Rattle.mask_runs.specs.declared.mask.Mask.{Mask}
use Rattle.mask_runs.specs.declared.mask.Mask.TheVariants.{Only, Diffusion, Contacts}
use Rattle.mask_runs.specs.Colours.{colour_of}
use Rattle.cover_tree.specs.declared.kinds.Kinds.{Kinds}
use Rattle.cover_tree.specs.declared.kinds.Effect.{Effect}
use Rattle.cover_tree.specs.declared.kinds.Effect.TheVariants.{Nowhere, Everywhere, Somewhere}
use Rattle.cover_tree.specs.declared.layer_set.LayerSet.{LayerSet}
use Rattle.cover_tree.specs.Nodes.{layers_of}

-- the layers of either
abbrev pub both : Layers → Layers → Layers
both a b = record {
  nd = a.nd || b.nd;
  np = a.np || b.np;
  nc = a.nc || b.nc;
  nm = a.nm || b.nm;
  ni = a.ni || b.ni;
  nb = a.nb || b.nb;
  ng = a.ng || b.ng;
}

-- the set of these
abbrev pub union : LayerSet → LayerSet → LayerSet
union a b = record { bits = bit_or a.bits b.bits }

-- whether a number has the bit of a weight
abbrev pub has_bit : ℕ → ℕ → Bool
has_bit n weight = n / weight % 2 == 1

-- the layer that the mask may use besides ND, NP, NB and NM
abbrev pub further : Mask → Layer
further (Only NC) = NC
further (Only NG) = NG
further (Only _) = NI
further Diffusion = NI
further Contacts = NC

-- the number of a set: that of its bits
abbrev pub index : LayerSet → ℕ
index s = s.bits % 32

-- the colour of a set on a mask
abbrev pub set_colour : Mask → LayerSet → ℕ
set_colour mask s = colour_of mask (layers_of (further mask) s)

-- the number of a set with a layer besides, if it is to be there: `holders` has the bits of all sets that have it
abbrev pub raised : Bool → ℕ → ℕ → ℕ → ℕ
raised own holders weight place = if own && bit_at holders place == 0 then place + weight else place

-- the set is one of the kinds
pub record HasKind (kinds : Kinds) (s : LayerSet) : Type 0 where
  pub set : bit_at kinds.bits (index s) ≡ 1

-- these layers are those of one of the kinds
pub record IsOfKind (other : Layer) (kinds : Kinds) (layers : Layers) : Type 0 where
  pub kind : LayerSet
  pub has : HasKind kinds kind
  pub same : layers ≡ layers_of other kind

-- the set is one of the kinds with these layers besides
pub record IsWith (kinds : Kinds) (own s : LayerSet) : Type 0 where
  pub kind : LayerSet
  pub has : HasKind kinds kind
  pub same : index s ≡ index (union own kind)

-- the number is that of a kind with a layer besides
pub record IsBeside (kinds : Kinds) (own : Bool) (holders weight i : ℕ) : Type 0 where
  pub place : ℕ
  pub small : place < 32
  pub has : bit_at kinds.bits place ≡ 1
  pub same : i ≡ raised own holders weight place

-- all kinds have this bit in the plane
pub record Share (kinds : Kinds) (plane b : ℕ) : Type 0 where
  pub each : (i : ℕ) → bit_at kinds.bits i ≡ 1 → bit_at plane i ≡ b

-- all kinds have this colour with the known layers
pub record AreOneColour (mask : Mask) (kinds : Kinds) (known : LayerSet) (colour : ℕ) : Type 0 where
  pub each : (s : LayerSet) → HasKind kinds s → set_colour mask (union known s) ≡ colour

-- the set has the same colour with the new layers as with the old ones, or it has another
abbrev pub IsKept : Mask → LayerSet → LayerSet → Bool → LayerSet → Type 0
IsKept mask old new true s = set_colour mask (union old s) ≡ set_colour mask (union new s)
IsKept mask old new false s = set_colour mask (union old s) ≢ set_colour mask (union new s)

pub record Keeps (mask : Mask) (kinds : Kinds) (old new : LayerSet) (same : Bool) : Type 0 where
  pub each : (s : LayerSet) → HasKind kinds s → IsKept mask old new same s

-- the colours of all kinds change, or of none, or neither is so
abbrev pub IsEffect : Mask → Kinds → LayerSet → LayerSet → Effect → Type 0
IsEffect mask kinds old new Nowhere = Keeps mask kinds old new true
IsEffect mask kinds old new Everywhere = Keeps mask kinds old new false
IsEffect mask kinds old new Somewhere = (¬ Keeps mask kinds old new true) × (¬ Keeps mask kinds old new false)
