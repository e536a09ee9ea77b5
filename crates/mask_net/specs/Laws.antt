-- What holds of every file.
use Rattle.std.specs.Prelude.{◌≡◌, ℕ, List, Option}
use Rattle.mp_base.specs.declared.pad.Pads.{Pads}
use Rattle.mp_base.specs.declared.refusal.Broken.{Broken}
use Rattle.lam_geom.specs.declared.rect.Rect.{Rect}
use Rattle.lam_geom.specs.declared.label.FlatLabel.{FlatLabel}
use Rattle.lam_geom.specs.Squares.{covered}
use Rattle.switch_net.specs.declared.network.Network.{Network}
use Rattle.switch_net.specs.Breaks.{IsSoundMask}
use Rattle.mask_net.specs.Masks.{IsDrawing, IsNetOf, OfDrawing, OfMask}

-- bytes draw at most one network
abbrev pub OneNetwork : Type 0
OneNetwork = (bytes : List ℕ) (n m : Network) → IsNetOf bytes n → IsNetOf bytes m → n ≡ m

-- bytes break no rule, or have one first broken rule at one place
abbrev pub OneVerdict : Type 0
OneVerdict = (bytes : List ℕ) (a b : Option Broken) → OfMask bytes a → OfMask bytes b → a ≡ b

-- bytes break no rule of texts or of drawing, or have one that is first
abbrev pub OneDrawingVerdict : Type 0
OneDrawingVerdict = (bytes : List ℕ) (a b : Option Broken) → OfDrawing bytes a → OfDrawing bytes b → a ≡ b

-- where what the bytes draw breaks no rule with some pads either, they draw its network
abbrev pub SoundWithPads : Type 0
SoundWithPads = (bytes : List ℕ) (shapes : List Rect) (labels : List FlatLabel) (net : Network) (pads : Pads)
    → IsDrawing bytes shapes labels → IsSoundMask (covered shapes) labels net pads → IsNetOf bytes net
