-- What networks that are the same up to numbering have in common.
use Rattle.std.specs.Prelude.{ℕ, ◌≡◌, List, Option}
use Rattle.mp_base.specs.declared.value.Trit.{Trit}
use Rattle.mp_base.specs.declared.pad.Pads.{Pads}
use Rattle.switch_net.specs.declared.network.Network.{Network}
use Rattle.switch_net.specs.Settled.{Setting, IsSettled}
use Rattle.switch_net.specs.Clock.{IsCircuitTrace}
use Rattle.renumbering.specs.Same.{Renumbering, SameUpToNumbering, AreAlike}

-- a renumbering goes back, by its own maps
abbrev pub RenumberingsTurn : Type 0
RenumberingsTurn =
    (n m : Network) (r : Renumbering n m)
    → (back : Renumbering m n) × (back.node ≡ r.node_back) × (back.node_back ≡ r.node)
    × (back.channel ≡ r.channel_back) × (back.channel_back ≡ r.channel)

-- renumberings compose, by their maps in turn
abbrev pub RenumberingsCompose : Type 0
RenumberingsCompose =
    (n m k : Network) (r : Renumbering n m) (s : Renumbering m k)
    → (both : Renumbering n k) × ((x : ℕ) → both.node x ≡ s.node (r.node x))
    × ((x : ℕ) → both.node_back x ≡ r.node_back (s.node_back x))

-- being the same up to numbering goes back
abbrev pub SameTurns : Type 0
SameTurns = (n m : Network) → SameUpToNumbering n m → SameUpToNumbering m n

-- and on
abbrev pub SameComposes : Type 0
SameComposes = (n m k : Network) → SameUpToNumbering n m → SameUpToNumbering m k → SameUpToNumbering n k

-- the setting of a network
abbrev pub setting : Network → (ℕ → Option Trit) → (ℕ → Trit) → Setting
setting n driver before = record { channels = n.channels; driver = driver; before = before }

-- with the same drivers and the same values before, both settle to the same values
abbrev pub SettlesAlike : Type 0
SettlesAlike =
    (n m : Network) (r : Renumbering n m) (driver other : ℕ → Option Trit) (before past v w : ℕ → Trit)
    → AreAlike n m r driver other → AreAlike n m r before past
    → IsSettled (setting n driver before) v → IsSettled (setting m other past) w → AreAlike n m r v w

-- from the same values both show the same along the same inputs, and have the same values after
abbrev pub RunsAlike : Type 0
RunsAlike =
    (n m : Network) (s : SameUpToNumbering n m) (pads : Pads) (before past after : ℕ → Trit)
    (inputs : List (List ℕ)) (shown : List (List (List Trit)))
    → AreAlike n m s.numbers before past → IsCircuitTrace n pads before inputs shown after
    → (later : ℕ → Trit) × AreAlike n m s.numbers after later × IsCircuitTrace m pads past inputs shown later
