-- Data paths with fewer nets.
use Rattle.std.specs.Prelude.{◌≡◌, ◌<◌, ℕ, List, [], ◌∷◌, Some, None, Bool, true, false, All, slice_get}
use Rattle.mp_base.specs.declared.value.Trit.{Trit}
use Rattle.mp_base.specs.declared.value.Trit.TheVariants.{Zero, One, X}
use Rattle.mp_base.specs.declared.pad.Pad.{Pad}
use Rattle.nor_net.specs.declared.net.NetId.{NetId}
use Rattle.nor_net.specs.Elements.{Spot, Element, Nor, Latched, Joined}
use Rattle.nor_net.specs.Settled.{Setting, gives, IsSolution}
use Rattle.rtl_form.specs.declared.rtl.Rtl.{Rtl}
use Rattle.path_form.specs.declared.path.DataPath.{DataPath}
use Rattle.path_form.specs.Showing.{path_nets, pad_bits, pad_spot, ShowsTransfers}

-- what a net becomes: a net of the reduced path, always 0, always 1, or nothing, where it is left out
pub data Image : Type 0 where
  net : Spot → Image
  low : Image
  high : Image
  left_out : Image

abbrev pub is_kept : Image → Bool
is_kept left_out = false
is_kept _ = true

-- its value, where the nets of the reduced path are as v says
abbrev pub image_value : (Spot → Trit) → Image → Trit
image_value v (net m) = v m
image_value v low = Zero
image_value v high = One
image_value v left_out = X

-- the values of nets, of those of the reduced path
abbrev pub pulled : (Spot → Image) → (Spot → Trit) → Spot → Trit
pulled image v n = image_value v (image n)

-- the nets whose values an element takes
abbrev pub sources : Element → List Spot
sources (Nor inputs) = inputs
sources (Latched phase source) = source ∷ []
sources (Joined other) = other ∷ []
sources _ = []

-- the bits of these pads are those of the same pads of the reduced path
abbrev pub KeepsPads : (Spot → Image) → List Pad → List NetId → List NetId → Type 0
KeepsPads image pads ids others =
    (i : ℕ) (pad : Pad) (id other : NetId) (k : ℕ) → slice_get pads i ≡ Some pad → slice_get ids i ≡ Some id
    → slice_get others i ≡ Some other → k < pad_bits pad
    → image (pad_spot pad id k) ≡ net (pad_spot pad other k)

-- The path q is p with fewer nets: whatever values solve q, each net of p that is kept has the value that its element
-- gives it of such values; nothing that is kept takes a value of what is left out; and pads stay.
pub record Reduces (p q : DataPath) (image : Spot → Image) : Type 0 where
  pub follows : (n : Spot) (e : Element) → path_nets p n ≡ Some e → is_kept (image n) ≡ true
      → (s : Setting) (v : Spot → Trit) → s.nets ≡ path_nets q → IsSolution s v
      → pulled image v n
      ≡ gives (record s { given = pulled image s.given; before = pulled image s.before }) (pulled image v) n e
  pub closed : (n : Spot) (e : Element) → path_nets p n ≡ Some e → is_kept (image n) ≡ true
      → All (λ m. is_kept (image m) ≡ true) (sources e)
  pub only_nets : (n : Spot) → path_nets p n ≡ None → is_kept (image n) ≡ false
  pub pads : q.pads ≡ p.pads
  pub inputs : KeepsPads image (p.pads).inputs p.inputs q.inputs
  pub outputs : KeepsPads image (p.pads).outputs p.outputs q.outputs

-- a path that another one is reduced to shows what that one shows
abbrev pub ReducedShows : Type 0
ReducedShows = (r : Rtl) (p q : DataPath) (image : Spot → Image) → Reduces p q image → p.pads ≡ r.pads
    → ShowsTransfers r p → ShowsTransfers r q
