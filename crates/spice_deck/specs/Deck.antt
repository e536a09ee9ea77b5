-- The text of a deck: a network as a subcircuit for SPICE.
use Rattle.std.specs.Prelude.{ℕ, ◌+◌, ◌*◌, ◌/◌, ◌%◌, List, [], ◌∷◌, ◌++◌, codes, decimal, drop, length, map}
use Rattle.std.specs.Prelude.{slice_index, ◌==◌, ◌&&◌, ◌||◌, nat_le, if◌then◌else◌}
use Rattle.std.specs.List.{flat_map}
use Rattle.switch_net.specs.declared.network.Channel.{Channel}
use Rattle.switch_net.specs.declared.network.ChannelKind.{ChannelKind}
use Rattle.switch_net.specs.declared.network.ChannelKind.TheVariants.{Enhancement, Depletion, Partial}
use Rattle.switch_net.specs.declared.network.Network.{Network}
use Rattle.switch_net.specs.declared.network.Tag.{Tag}
use Rattle.net_sizes.specs.declared.sizes.Sizes.{Sizes}
use Rattle.spice_deck.specs.Numbered.{numbered, texts_below}

abbrev pub digit : ℕ → ℕ
digit n = 48 + n % 10

-- a number of thousandths
unfoldable pub thousandths : ℕ → List ℕ
thousandths n = decimal (n / 1000) ++ codes "." ++ digit (n / 100) ∷ digit (n / 10) ∷ digit n ∷ []

-- a number behind a few letters
unfoldable pub tagged : List ℕ → ℕ → List ℕ
tagged letters n = letters ++ decimal n

-- a letter or a digit of a name, and for any other byte the sign of an empty place
abbrev pub plain : ℕ → ℕ
plain b =
    if (nat_le 48 b && nat_le b 57) || (nat_le 65 b && nat_le b 90) || (nat_le 97 b && nat_le b 122) then b else 95

-- the pin of the label with this number: its name, and the number
unfoldable pub pin_name : ℕ → Tag → List ℕ
pin_name k tag = map plain tag.name ++ tagged (codes "_") k

-- in the list of pins
unfoldable pub pin_text : ℕ → Tag → List ℕ
pin_text k tag = codes "\n+ " ++ pin_name k tag

-- the wire from a pin to its node
unfoldable pub wire_text : ℕ → Tag → List ℕ
wire_text k tag =
    tagged (codes "R") k ++ codes " " ++ pin_name k tag ++ tagged (codes " n") tag.node ++ codes " {wire}\n"

abbrev pub model : ChannelKind → List ℕ
model Enhancement = codes " 0 enhancement W={"
model Depletion = codes " 0 depletion W={"
model Partial = codes " 0 partial W={"

-- The width of a channel is half of the edges that it shares with its ends, and its length is its area by its width. Both
-- are in thousandths of lambda, of which two are a half-unit. Without ends it has no length.
abbrev pub width : (edge : ℕ) → ℕ
width edge = edge

abbrev pub long : (area edge : ℕ) → ℕ
long area edge = if edge == 0 then 0 else 4 * area / edge

unfoldable pub sides_text : (area edge : ℕ) → List ℕ
sides_text area edge =
    thousandths (width edge) ++ codes "*lambda} L={" ++ thousandths (long area edge) ++ codes "*lambda}\n"

-- what is said of a channel between two of its ends: its number and that of the one end, both ends around the gate
unfoldable pub ends_text : ℕ → (gate first end : ℕ) → List ℕ
ends_text k gate first end =
    tagged (codes "M") k ++ tagged (codes "_") end ++ tagged (codes " n") first ++ tagged (codes " n") gate
    ++ tagged (codes " n") end

-- a transistor between two ends of a channel
unfoldable pub transistor : Sizes → ℕ → Channel → (first end : ℕ) → List ℕ
transistor sizes k channel first end =
    ends_text k channel.gate first end ++ model channel.kind
    ++ sides_text (slice_index sizes.areas k) (slice_index sizes.edges k)

-- the ends that a channel joins to its first one: the others, or itself where it is the only one
abbrev pub others : List ℕ → List ℕ
others ends = if length ends == 1 then ends else drop 1 ends

-- a channel joins its first end to each other one, and to itself where it has no other; without ends it joins nothing
abbrev pub channel_text : Sizes → ℕ → Channel → List ℕ
channel_text sizes k channel =
    flat_map (transistor sizes k channel (slice_index channel.ends 0)) (others channel.ends)

-- an area in thousandths of a square lambda
abbrev pub square : ℕ → ℕ
square area = area / 250

-- the charge that a node holds: its areas in square lambda, times what a square lambda of each layer holds
unfoldable pub areas_text : Sizes → ℕ → List ℕ
areas_text sizes k =
    thousandths (square (slice_index sizes.metal k)) ++ codes "*metal+"
    ++ thousandths (square (slice_index sizes.polysilicon k)) ++ codes "*polysilicon+"
    ++ thousandths (square (slice_index sizes.diffusion k)) ++ codes "*diffusion}\n"

unfoldable pub node_text : Sizes → ℕ → List ℕ
node_text sizes k = tagged (codes "C") k ++ tagged (codes " n") k ++ codes " 0 {" ++ areas_text sizes k

abbrev pub head : List ℕ
head = codes "* by mask_spice: parameters lambda, wire, metal, polysilicon, diffusion\n.subckt masks"

-- the pins, one a label in the order of the file, and their wires
unfoldable pub pins_text : List Tag → List ℕ
pins_text tags = head ++ numbered pin_text 0 tags ++ codes "\n" ++ numbered wire_text 0 tags

-- the deck: pins and their wires, channels, and nodes, each in order
unfoldable pub deck_text : Network → Sizes → List ℕ
deck_text net sizes =
    pins_text net.tags ++ numbered (channel_text sizes) 0 net.channels ++ texts_below (node_text sizes) net.nodes
    ++ codes ".ends\n"
