-- What is told of masks.
use Rattle.std.specs.Prelude.{ℕ, List}
use Rattle.lam_geom.specs.declared.rect.Rect.{Rect}
use Rattle.lam_geom.specs.declared.label.FlatLabel.{FlatLabel}
use Rattle.mask_net.specs.Masks.{IsDrawing}

-- the bytes are masks that break no rule of texts or of drawing
abbrev pub IsDrawn : List ℕ → Type 0
IsDrawn masks = (shapes : List Rect) × (labels : List FlatLabel) × IsDrawing masks shapes labels
