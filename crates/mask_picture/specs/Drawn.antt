-- The picture of a file.
use Rattle.std.specs.Prelude.{◌≡◌, ℕ, List}
use Rattle.lam_geom.specs.declared.label.FlatLabel.{FlatLabel}
use Rattle.lam_geom.specs.declared.rect.Rect.{Rect}
use Rattle.mask_net.specs.Masks.{IsDrawing}
use Rattle.mask_svg.specs.Pictures.{picture_text}

-- the text is the picture of the shapes and labels that the bytes draw, and these break no rule of texts or of drawing
pub record IsPictureOf (bytes text : List ℕ) : Type 0 where
  pub shapes : List Rect
  pub labels : List FlatLabel
  pub drawing : IsDrawing bytes shapes labels
  pub picture : text ≡ picture_text shapes labels
