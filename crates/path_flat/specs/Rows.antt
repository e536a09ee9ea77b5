-- Rows of nets.
use Rattle.std.specs.Prelude.{◌≡◌, ◌<◌, ℕ, List, All, length}
use Rattle.nor_net.specs.declared.net.NetId.{NetId}
use Rattle.nor_net.specs.declared.net.Part.{Part}
use Rattle.nor_net.specs.Elements.{Spot}
use Rattle.path_form.specs.declared.path.DataPath.{DataPath}
use Rattle.path_form.specs.Flat.{ArePadsOf}
use Rattle.path_flat.specs.Numbered.{IsWhole}

-- the numbers are below this one
abbrev pub AreBelow : ℕ → List NetId → Type 0
AreBelow nets bits = All (λ (id : NetId). id.0 < nets) bits

-- the numbers of the bits of all input pads of a path, and of all output pads
pub record AreBits (p : DataPath) (of : Spot → NetId) (ins outs : List (List NetId)) : Type 0 where
  pub sizes : (length ins ≡ length (p.pads).inputs) × (length outs ≡ length (p.pads).outputs)
  pub inputs : ArePadsOf (p.pads).inputs p.inputs of ins
  pub outputs : ArePadsOf (p.pads).outputs p.outputs of outs

-- a flat net of a path, with the numbers of the bits of its pads
pub record IsWholeWith (p : DataPath) (flat : List Part) (ins outs : List (List NetId)) : Type 0 where
  pub of : Spot → NetId
  pub whole : IsWhole p flat of
  pub bits : AreBits p of ins outs
