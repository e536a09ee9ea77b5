-- What nets become, by tables.
use Rattle.std.specs.Prelude.{ℕ, List, ◌==◌, nat_le, if◌then◌else◌, slice_index_or}
use Rattle.nor_net.specs.Elements.{Spot, spot}
use Rattle.path_reduce.specs.declared.images.Becomes.{Becomes}
use Rattle.path_reduce.specs.declared.images.Becomes.TheVariants as becomes
use Rattle.path_reduce.specs.declared.images.Images.{Images}
use Rattle.path_reduce.specs.Reducing.{Image, net, low, high, left_out}

-- what a net of this band becomes
abbrev pub image_in : ℕ → Becomes → Image
image_in band (becomes.Net m) = net (spot band m)
image_in band becomes.Low = low
image_in band becomes.High = high
image_in band becomes.LeftOut = left_out

-- what a table has of a net; what it doesn't have is left out
abbrev pub becomes_at : List Becomes → ℕ → Becomes
becomes_at table n = slice_index_or table n becomes.LeftOut

-- the table of a band
abbrev pub table_of : Images → ℕ → List Becomes
table_of t band = if band == 0 then t.control else t.slices

-- the images of the nets of a control and w slices
abbrev pub images_of : ℕ → Images → Spot → Image
images_of w t n = if nat_le n.band w then image_in n.band (becomes_at (table_of t n.band) n.net) else left_out
