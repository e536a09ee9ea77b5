-- When the image of a net is right, by what gives the net its value.
use Rattle.std.specs.Prelude.{◌≡◌, ◌⊎◌, List, [], ◌∷◌, Some, None, true, false, All, Contains}
use Rattle.nor_net.specs.declared.net.Phase.{Phase}
use Rattle.nor_net.specs.Elements.{Spot, Element, Given, Nor, Latched, Joined, Low, Nets}
use Rattle.path_form.specs.declared.path.DataPath.{DataPath}
use Rattle.path_form.specs.Showing.{path_nets}
use Rattle.path_reduce.specs.Reducing.{Image, net, low, high, is_kept, sources, KeepsPads, Reduces}

-- the inputs, but for those that are always 0, become these nets
pub record Become (image : Spot → Image) (inputs others : List Spot) : Type 0 where
  pub each : All (λ m. (image m ≡ low) ⊎ ((k : Spot) × (image m ≡ net k) × Contains others k)) inputs
  pub only : All (λ k. (m : Spot) × Contains inputs m × (image m ≡ net k)) others

-- A net that has its value by this element may become this. A gate with an input that is always 1 is always 0, one
-- whose inputs are always 0 is always 1; else it becomes a gate on what its inputs become, or, where that is a single
-- inverter, what this inverts.
pub data IsImage (nets : Nets) (image : Spot → Image) : Element → Image → Type 0 where
  given : (k : Spot) → nets k ≡ Some Given → IsImage nets image Given (net k)
  by_high : (inputs : List Spot) (m : Spot) → Contains inputs m → image m ≡ high → IsImage nets image (Nor inputs) low
  by_lows : (inputs : List Spot) → All (λ m. image m ≡ low) inputs → IsImage nets image (Nor inputs) high
  by_gate : (inputs others : List Spot) (k : Spot) → nets k ≡ Some (Nor others) → Become image inputs others
      → IsImage nets image (Nor inputs) (net k)
  by_inverter : (inputs : List Spot) (k j : Spot) → nets j ≡ Some (Nor (k ∷ [])) → Become image inputs (j ∷ [])
      → IsImage nets image (Nor inputs) (net k)
  latched : (phase : Phase) (source k j : Spot) → image source ≡ net j → nets k ≡ Some (Latched phase j)
      → IsImage nets image (Latched phase source) (net k)
  joined : (other k j : Spot) → image other ≡ net j → nets k ≡ Some (Joined j)
      → IsImage nets image (Joined other) (net k)
  one_net : (other : Spot) (i : Image) → image other ≡ i → IsImage nets image (Joined other) i
  low_net : (k : Spot) → nets k ≡ Some Low → IsImage nets image Low (net k)
  always_low : IsImage nets image Low low

-- Each net that is kept becomes what it may, nothing that is kept takes a value of what is left out, and pads stay: so
-- a test can tell that the path q is p with fewer nets.
pub record IsReduction (p q : DataPath) (image : Spot → Image) : Type 0 where
  pub images : (n : Spot) (e : Element) → path_nets p n ≡ Some e → is_kept (image n) ≡ true
      → IsImage (path_nets q) image e (image n)
  pub closed : (n : Spot) (e : Element) → path_nets p n ≡ Some e → is_kept (image n) ≡ true
      → All (λ m. is_kept (image m) ≡ true) (sources e)
  pub only_nets : (n : Spot) → path_nets p n ≡ None → is_kept (image n) ≡ false
  pub pads : q.pads ≡ p.pads
  pub inputs : KeepsPads image (p.pads).inputs p.inputs q.inputs
  pub outputs : KeepsPads image (p.pads).outputs p.outputs q.outputs

abbrev pub ReductionsReduce : Type 0
ReductionsReduce = (p q : DataPath) (image : Spot → Image) → IsReduction p q image → Reduces p q image
