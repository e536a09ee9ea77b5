-- What a size owes.
use Rattle.std.specs.Prelude.{◌≡◌, ℕ, List, [], None}
use Rattle.outside.specs.Outside.{bytes_of}
use Rattle.switch_net.specs.declared.network.Network.{Network}
use Rattle.mask_net.specs.Masks.{IsNetOf}
use Rattle.mask_net.specs.SizeLine.{size_line}
use Rattle.outcome.specs.Work.{Work}
use Rattle.mask_files.specs.Faults.{MaskFault}

-- the text is the size line of the network that the masks draw
pub record IsSizeOf (masks text : List ℕ) : Type 0 where
  pub network : Network
  pub drawn : IsNetOf masks network
  pub line : text ≡ size_line network

-- the rules of the masks; then the size line, and no file
abbrev pub work : List ℕ → Work
work cif = record {
  First = MaskFault cif;
  target = None;
  Shows = λ files chip text. (chip ≡ []) × IsSizeOf (bytes_of files cif) text;
}
