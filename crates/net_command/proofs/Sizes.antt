-- What is shown of a file of masks.
use Rattle.std.proofs.Common.{◌≡◌, ℕ, List, [], refl, Option, Some, None, IfSome}
use Rattle.outside.specs.Outside.{Files, bytes_of}
use Rattle.switch_net.specs.declared.network.Network.{Network}
use Rattle.mask_net.specs.Masks.{IsNetOf}
use Rattle.mask_net.specs.SizeLine.{size_line}
use Rattle.net_command.specs.Work.{work}

pub shows_size : (cif text : List ℕ) (net : Network) (held : Option Files) → text ≡ size_line net
    → IfSome held (λ files. IsNetOf (bytes_of files cif) net) → IfSome held (λ files. (work cif).Shows files [] text)
shows_size cif text net None line drawn = tt
shows_size cif text net (Some files) line drawn = (refl, record { network = net; drawn = drawn; line = line })
