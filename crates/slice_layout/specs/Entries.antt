-- The nets that pads are joined to.
use Rattle.std.specs.Prelude.{List, [], ◌∷◌, Bool, not, if◌then◌else◌, ◌==◌}
use Rattle.mp_base.specs.declared.pad.Pad.{Pad}
use Rattle.nor_net.specs.declared.net.NetId.{NetId}

-- the pad's net, if the pad is a word or a signal as is asked
abbrev pub entry_of : Bool → Pad → NetId → List NetId
entry_of words pad id = if if pad.width == 0 then not words else words then id ∷ [] else []
