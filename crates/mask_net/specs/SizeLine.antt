-- The line that tells the size of a network.
use Rattle.std.specs.Prelude.{ℕ, List, [], ◌∷◌, ◌++◌, codes}
use Rattle.std.specs.Fmt.{decimal}
use Rattle.mp_base.specs.declared.value.Trit.{Trit}
use Rattle.mp_base.specs.declared.value.Trit.TheVariants.{One, X}
use Rattle.switch_net.specs.declared.network.ChannelKind.TheVariants.{Enhancement, Depletion, Partial}
use Rattle.switch_net.specs.declared.network.Network.{Network}
use Rattle.switch_net.specs.Sizes.{channels_of, nodes_with}

-- `nodes N enhancement N depletion N partial N`
abbrev pub size_text : Network → List ℕ
size_text net = codes "nodes " ++ decimal net.nodes
    ++ codes " enhancement " ++ decimal (channels_of net Enhancement)
    ++ codes " depletion " ++ decimal (channels_of net Depletion)
    ++ codes " partial " ++ decimal (channels_of net Partial)

-- the size line of a file's network
abbrev pub size_line : Network → List ℕ
size_line net = size_text net ++ 10 ∷ []

-- ` ones N unknown N` and a line feed, for so many nodes at 1 and at X
abbrev pub counts_text : (ones unknown : ℕ) → List ℕ
counts_text ones unknown = codes " ones " ++ decimal ones ++ codes " unknown " ++ decimal unknown ++ 10 ∷ []

-- the size line at the end of a run that left these values, with the numbers of nodes at 1 and at X
abbrev pub last_line : Network → (ℕ → Trit) → List ℕ
last_line net end = size_text net ++ counts_text (nodes_with net end One) (nodes_with net end X)
