-- What the kind of a net says of the part that it is.
use Rattle.std.specs.Prelude.{◌≡◌, List, Option, Some}
use Rattle.nor_net.specs.declared.net.NetId.{NetId}
use Rattle.nor_net.specs.declared.net.NetKind.{NetKind}
use Rattle.nor_net.specs.declared.net.NetKind.TheVariants as kinds
use Rattle.nor_net.specs.declared.net.Part.{Part}
use Rattle.nor_net.specs.declared.net.Part.TheVariants as part

abbrev pub IsOfKind : NetKind → Option Part → Type 0
IsOfKind kinds.Input q = q ≡ Some part.Input
IsOfKind kinds.Gate q = (inputs : List NetId) × (q ≡ Some (part.Gate inputs))
IsOfKind (kinds.Latch phase source) q = q ≡ Some (part.Latch phase source)
