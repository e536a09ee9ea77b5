-- What holds of every mask and every network.
use Rattle.std.specs.Prelude.{◌≡◌, ◌↔◌, ◌≢◌, ℕ, List, All, AllPairs}
use Rattle.mp_base.specs.declared.value.Trit.{Trit}
use Rattle.mp_base.specs.declared.pad.Pads.{Pads}
use Rattle.mp_base.specs.declared.refusal.Broken.{Broken}
use Rattle.lam_geom.specs.declared.rect.Rect.{Rect}
use Rattle.lam_geom.specs.declared.label.FlatLabel.{FlatLabel}
use Rattle.lam_geom.specs.Squares.{Square, covered}
use Rattle.switch_net.specs.declared.network.Network.{Network}
use Rattle.switch_net.specs.Settled.{Setting, Gives, IsBelow, IsSettled}
use Rattle.switch_net.specs.Reaching.{GivesByReach}
use Rattle.switch_net.specs.Pads.{chip_labels}
use Rattle.mp_base.specs.PadBits.{Fit}
use Rattle.switch_net.specs.Clock.{IsCircuitTrace}
use Rattle.switch_net.specs.Drawn.{AreNodes, AreRegions, IsNetwork}
use Rattle.switch_net.specs.Breaks.{HasPads, IsFirstOfMask, IsFirstOfCircuit}

-- the nodes and the channels of shapes have one numbering
abbrev pub OneNumbering : Type 0
OneNumbering = (shapes : List Rect)
    → ((n m : List Square) → AreNodes (covered shapes) n → AreNodes (covered shapes) m → n ≡ m)
    × ((n m : List Square) → AreRegions (covered shapes) n → AreRegions (covered shapes) m → n ≡ m)

-- shapes with labels draw at most one network
abbrev pub OneNetwork : Type 0
OneNetwork =
    (shapes : List Rect) (labels : List FlatLabel) (n m : Network) → IsNetwork (covered shapes) labels n
    → IsNetwork (covered shapes) labels m → n ≡ m

-- at most one rule is the first that a mask with labels breaks
abbrev pub OneFirstOfMask : Type 0
OneFirstOfMask =
    (shapes : List Rect) (labels : List FlatLabel) (a b : Broken) → IsFirstOfMask (covered shapes) labels a
    → IsFirstOfMask (covered shapes) labels b → a ≡ b

-- at most one rule is the first that a network breaks with these pads
abbrev pub OneFirstOfCircuit : Type 0
OneFirstOfCircuit = (net : Network) (pads : Pads) (a b : Broken) → IsFirstOfCircuit net pads a
    → IsFirstOfCircuit net pads b → a ≡ b

-- what is given stays given as values grow
abbrev pub GivesGrow : Type 0
GivesGrow = (s : Setting) (v w : ℕ → Trit) → IsBelow v w → (n : ℕ) (b : Trit) → Gives s v n b → Gives s w n b

-- at most one value is given
abbrev pub GivesOnce : Type 0
GivesOnce = (s : Setting) (v : ℕ → Trit) (n : ℕ) (b c : Trit) → Gives s v n b → Gives s v n c → b ≡ c

-- what is given is told by what is reached
abbrev pub GivesAlongReach : Type 0
GivesAlongReach = (s : Setting) (v : ℕ → Trit) (n : ℕ) (b : Trit) → Gives s v n b ↔ GivesByReach s v n b

-- there are settled values, whatever the channels, the drivers and the values before
abbrev pub SettledExists : Type 0
SettledExists = (s : Setting) → (v : ℕ → Trit) × IsSettled s v

-- settled values are determined
abbrev pub SettledOnce : Type 0
SettledOnce = (s : Setting) (v w : ℕ → Trit) → IsSettled s v → IsSettled s w → v ≡ w

-- settled values settle to themselves
abbrev pub SettlesAgain : Type 0
SettlesAgain = (s : Setting) (v : ℕ → Trit) → IsSettled s v → IsSettled (record s { before = v }) v

-- a network that has its pads runs from all values before under all inputs that fit
abbrev pub TraceExists : Type 0
TraceExists =
    (net : Network) (pads : Pads) (before : ℕ → Trit) (inputs : List (List ℕ)) → HasPads net pads
    → All (Fit pads.inputs) inputs
    → (outputs : List (List (List Trit))) × (after : ℕ → Trit) × IsCircuitTrace net pads before inputs outputs after

-- what is shown, and the values after, are determined
abbrev pub TraceOnce : Type 0
TraceOnce =
    (net : Network) (pads : Pads) (before : ℕ → Trit) (inputs : List (List ℕ)) (shown other : List (List (List Trit)))
    (v w : ℕ → Trit)
    → IsCircuitTrace net pads before inputs shown v → IsCircuitTrace net pads before inputs other w
    → (shown ≡ other) × (v ≡ w)

-- no two labels of a chip are the same, whatever its pads
abbrev pub ChipLabelsDiffer : Type 0
ChipLabelsDiffer = (pads : Pads) → AllPairs ◌≢◌ (chip_labels pads)
