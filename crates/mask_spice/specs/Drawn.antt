-- The deck of a file.
use Rattle.std.specs.Prelude.{◌≡◌, ℕ, List}
use Rattle.lam_geom.specs.declared.label.FlatLabel.{FlatLabel}
use Rattle.lam_geom.specs.declared.rect.Rect.{Rect}
use Rattle.switch_net.specs.declared.network.Network.{Network}
use Rattle.extractor.specs.Extracted.{IsExtracted}
use Rattle.mask_net.specs.Masks.{IsDrawing}
use Rattle.net_sizes.specs.declared.sizes.Sizes.{Sizes}
use Rattle.mask_sizes.specs.Measured.{IsMeasured}
use Rattle.spice_deck.specs.Deck.{deck_text}

-- the text is the deck of the network that the bytes draw, with its sizes, and no rule of texts, of drawing or of masks
-- is broken
pub record IsDeckOf (bytes text : List ℕ) : Type 0 where
  pub shapes : List Rect
  pub labels : List FlatLabel
  pub drawing : IsDrawing bytes shapes labels
  pub network : Network
  pub extracted : IsExtracted shapes labels network
  pub sizes : Sizes
  pub measured : IsMeasured shapes sizes
  pub deck : text ≡ deck_text network sizes
