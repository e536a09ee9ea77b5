-- What comes of a mask with labels.
use Rattle.std.specs.Prelude.{ℕ, List, Option, None, Some}
use Rattle.mp_base.specs.PadNames.{supplies}
use Rattle.mp_base.specs.declared.refusal.Refusal.{Refusal}
use Rattle.mp_base.specs.declared.refusal.Broken.{Broken}
use Rattle.mp_base.specs.Refuses.{IsRefusal}
use Rattle.lam_geom.specs.declared.label.FlatLabel.{FlatLabel}
use Rattle.lam_geom.specs.declared.rect.Rect.{Rect}
use Rattle.lam_geom.specs.Squares.{covered}
use Rattle.switch_net.specs.declared.network.Network.{Network}
use Rattle.switch_net.specs.Drawn.{IsNetwork}
use Rattle.switch_net.specs.Breaks.{BreaksAt, MeetsDriver, AreTooMany, IsFirstOfMask}

-- the network that is drawn, where each label is on one node, and each name on one
pub record IsLabelled (shapes : List Rect) (labels : List FlatLabel) (net : Network) : Type 0 where
  pub network : IsNetwork (covered shapes) labels net
  pub labels_fit : (i : ℕ) → ¬ BreaksAt (covered shapes) labels i

-- the network that is drawn, and none of N1, N2, N3 and N5 is broken
pub record IsExtracted (shapes : List Rect) (labels : List FlatLabel) (net : Network) : Type 0 where
  pub network : IsNetwork (covered shapes) labels net
  pub labels_fit : (i : ℕ) → ¬ BreaksAt (covered shapes) labels i
  pub apart : (i : ℕ) → ¬ MeetsDriver supplies net.tags i
  pub few : ¬ AreTooMany (covered shapes)

-- shapes with labels are a mask that breaks no rule, or this is the first one that is broken
abbrev pub OfShapes : List Rect → List FlatLabel → Option Broken → Type 0
OfShapes shapes labels None = (net : Network) × IsExtracted shapes labels net
OfShapes shapes labels (Some b) = IsFirstOfMask (covered shapes) labels b

-- want of memory, or the first rule that is broken
abbrev pub RefusesMask : List Rect → List FlatLabel → Refusal → Type 0
RefusesMask shapes labels = IsRefusal (λ b. OfShapes shapes labels (Some b))
