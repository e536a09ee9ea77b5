-- What every mask has, and what its covered squares alone tell.
use Rattle.std.specs.Prelude.{ℕ, ◌⊎◌, List, ℤ}
use Rattle.mp_base.specs.declared.pad.Pads.{Pads}
use Rattle.mp_base.specs.declared.refusal.Broken.{Broken}
use Rattle.mp_base.specs.PadNames.{supplies}
use Rattle.lam_geom.specs.declared.layer.Layer.{Layer}
use Rattle.lam_geom.specs.declared.label.FlatLabel.{FlatLabel}
use Rattle.lam_geom.specs.declared.rect.Rect.{Rect}
use Rattle.lam_geom.specs.Squares.{Square, covered, SameSquares}
use Rattle.switch_net.specs.declared.network.Network.{Network}
use Rattle.switch_net.specs.Drawn.{AreNodes, AreRegions, IsNetwork}
use Rattle.switch_net.specs.Breaks.{BreaksAt, MeetsDriver, AreTooMany, HasPads, IsFirstOfMask, IsFirstOfCircuit}
use Rattle.switch_net.specs.Breaks.{IsSoundMask}

-- a mask has nodes and channels, each in its order
abbrev pub NumberingExists : Type 0
NumberingExists =
    (shapes : List Rect)
    → ((nodes : List Square) × AreNodes (covered shapes) nodes)
    × ((regions : List Square) × AreRegions (covered shapes) regions)

-- a mask whose labels name conductors, those of one name on one node, draws a network
abbrev pub NetworkExists : Type 0
NetworkExists =
    (shapes : List Rect) (labels : List FlatLabel) → ((i : ℕ) → ¬ BreaksAt (covered shapes) labels i)
    → (net : Network) × IsNetwork (covered shapes) labels net

-- the network that is drawn, with none of N1, N2, N3 (among power, ground and phases) and N5 broken
pub record BreaksNone (covers : Layer → ℤ → ℤ → Type 0) (labels : List FlatLabel) (net : Network) : Type 0 where
  pub network : IsNetwork covers labels net
  pub labels_fit : (i : ℕ) → ¬ BreaksAt covers labels i
  pub apart : (i : ℕ) → ¬ MeetsDriver supplies net.tags i
  pub few : ¬ AreTooMany covers

-- a mask with labels breaks no rule, or one is the first that it breaks
abbrev pub MaskIsJudged : Type 0
MaskIsJudged =
    (shapes : List Rect) (labels : List FlatLabel)
    → ((net : Network) × BreaksNone (covered shapes) labels net)
    ⊎ ((b : Broken) × IsFirstOfMask (covered shapes) labels b)

-- a network has these pads, or one rule is the first that it breaks with them
abbrev pub CircuitIsJudged : Type 0
CircuitIsJudged = (net : Network) (pads : Pads) → HasPads net pads ⊎ ((b : Broken) × IsFirstOfCircuit net pads b)

-- masks of the same squares draw the same networks
abbrev pub NetworkBySquares : Type 0
NetworkBySquares =
    (rects shapes : List Rect) → SameSquares (covered rects) (covered shapes)
    → (labels : List FlatLabel) (net : Network) → IsNetwork (covered rects) labels net
    → IsNetwork (covered shapes) labels net

-- masks of the same squares break the same rule first
abbrev pub FirstBySquares : Type 0
FirstBySquares =
    (rects shapes : List Rect) → SameSquares (covered rects) (covered shapes)
    → (labels : List FlatLabel) (b : Broken) → IsFirstOfMask (covered rects) labels b
    → IsFirstOfMask (covered shapes) labels b

-- masks of the same squares are sound with the same networks and pads
abbrev pub SoundBySquares : Type 0
SoundBySquares =
    (rects shapes : List Rect) → SameSquares (covered rects) (covered shapes)
    → (labels : List FlatLabel) (net : Network) (pads : Pads)
    → IsSoundMask (covered rects) labels net pads → IsSoundMask (covered shapes) labels net pads
