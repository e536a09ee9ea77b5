-- One clock in six settings, and what a circuit shows from clock to clock.
use Rattle.std.specs.Prelude.{◌≡◌, ℕ, List, [], ◌∷◌, ◌++◌, Option, Some, Contains, codes}
use Rattle.std.specs.List.{AllZip}
use Rattle.mp_base.specs.declared.value.Trit.{Trit}
use Rattle.mp_base.specs.declared.value.Trit.TheVariants.{Zero, One}
use Rattle.mp_base.specs.declared.pad.Pad.{Pad}
use Rattle.mp_base.specs.declared.pad.Pads.{Pads}
use Rattle.switch_net.specs.declared.network.Tag.{Tag}
use Rattle.switch_net.specs.declared.network.Network.{Network}
use Rattle.switch_net.specs.Settled.{IsSettled}
use Rattle.switch_net.specs.Pads.{bit_labels}
use Rattle.mp_base.specs.PadBits.{pad_bits}

-- the values of the phases in one setting
pub record Phases : Type 0 where
  pub phia : Trit
  pub phib : Trit
  pub phic : Trit

-- the settings up to the one at which the outputs are read: phic at 1, and none
abbrev pub settings_until_outputs : List Phases
settings_until_outputs = record { phia = Zero; phib = Zero; phic = One }
    ∷ record { phia = Zero; phib = Zero; phic = Zero }
    ∷ []

-- the settings after that: phia at 1, none, phib at 1, and none
abbrev pub settings_after_outputs : List Phases
settings_after_outputs = record { phia = One; phib = Zero; phic = Zero }
    ∷ record { phia = Zero; phib = Zero; phic = Zero }
    ∷ record { phia = Zero; phib = One; phic = Zero }
    ∷ record { phia = Zero; phib = Zero; phic = Zero }
    ∷ []

-- a label, and the value that its node is driven to
pub record Drive : Type 0 where
  pub name : List ℕ
  pub value : Trit

-- this label is driven to this value
abbrev pub drive : List ℕ → Trit → Drive
drive name value = record { name = name; value = value }

-- each label is driven to its bit
abbrev pub bit_drives : List (List ℕ) → List Trit → List Drive
bit_drives (name ∷ names) (bit ∷ bits) = drive name bit ∷ bit_drives names bits
bit_drives _ _ = []

-- each input pad is driven to its value
abbrev pub input_drives : List Pad → List ℕ → List Drive
input_drives (pad ∷ pads) (word ∷ words) = bit_drives (bit_labels pad) (pad_bits pad word) ++ input_drives pads words
input_drives _ _ = []

-- what is driven in a setting: power to 1, ground to 0, the phases, and the input pads to their values
abbrev pub drives : Phases → List Pad → List ℕ → List Drive
drives phases inputs words = drive (codes "vdd") One ∷ drive (codes "gnd") Zero
    ∷ drive (codes "phia") phases.phia ∷ drive (codes "phib") phases.phib ∷ drive (codes "phic") phases.phic
    ∷ input_drives inputs words

-- the node has this label
abbrev pub IsLabelled : Network → List ℕ → ℕ → Type 0
IsLabelled net name node = (t : Tag) × Contains net.tags t × (t.name ≡ name) × (t.node ≡ node)

-- the drivers are exactly the nodes with such labels
pub record AreDrivers (net : Network) (driven : List Drive) (driver : ℕ → Option Trit) : Type 0 where
  pub each : (d : Drive) (n : ℕ) → Contains driven d → IsLabelled net d.name n → driver n ≡ Some d.value
  pub only : (n : ℕ) (b : Trit) → driver n ≡ Some b
      → (d : Drive) × Contains driven d × IsLabelled net d.name n × (d.value ≡ b)

-- with these drivers the network settles from the values before to those after
pub record SettlesTo (net : Network) (driven : List Drive) (before after : ℕ → Trit) : Type 0 where
  pub driver : ℕ → Option Trit
  pub drivers : AreDrivers net driven driver
  pub settled : IsSettled (record { channels = net.channels; driver = driver; before = before }) after

-- each of these settings in turn settles from the values before it, with the inputs held
abbrev pub RunsTo : Network → List Pad → List ℕ → List Phases → (ℕ → Trit) → (ℕ → Trit) → Type 0
RunsTo net inputs words [] before after = (n : ℕ) → after n ≡ before n
RunsTo net inputs words (p ∷ ps) before after =
    (between : ℕ → Trit) × SettlesTo net (drives p inputs words) before between
    × RunsTo net inputs words ps between after

-- the node with this label has this value
abbrev pub HasValue : Network → (ℕ → Trit) → List ℕ → Trit → Type 0
HasValue net values name bit = (n : ℕ) × IsLabelled net name n × (values n ≡ bit)

-- the pad shows these bits, bit 0 first
abbrev pub Shows : Network → (ℕ → Trit) → Pad → List Trit → Type 0
Shows net values pad bits = AllZip (HasValue net values) (bit_labels pad) bits

-- one clock: the output pads show their bits after the second setting
pub record IsClock (net : Network) (pads : Pads) (words : List ℕ) (before : ℕ → Trit) (shown : List (List Trit))
    (after : ℕ → Trit) : Type 0 where
  pub values : ℕ → Trit
  pub until : RunsTo net pads.inputs words settings_until_outputs before values
  pub shows : AllZip (Shows net values) pads.outputs shown
  pub rest : RunsTo net pads.inputs words settings_after_outputs values after

-- From these values before, under this list of inputs, the output pads show these bits in each clock, and these are the
-- values after the last. Inputs are one number for each input pad, and what is shown is a list of bits for each output
-- pad.
abbrev pub IsCircuitTrace : Network → Pads → (ℕ → Trit) → List (List ℕ) → List (List (List Trit)) → (ℕ → Trit) → Type 0
IsCircuitTrace net pads before [] [] after = (n : ℕ) → after n ≡ before n
IsCircuitTrace net pads before (words ∷ inputs) (shown ∷ outputs) after =
    (between : ℕ → Trit) × IsClock net pads words before shown between
    × IsCircuitTrace net pads between inputs outputs after
IsCircuitTrace net pads before _ _ after = ⊥
