-- The colours of all sets of layers, by the bits of numbers.
use Rattle.std.specs.Prelude.{◌≡◌, ℕ, ◌+◌, ◌*◌}
use Rattle.std.specs.Int.{bit_at}
use Rattle.mask_runs.specs.declared.mask.Layers.{Layers}
use Rattle.mask_runs.specs.declared.mask.Mask.{Mask}
use Rattle.mask_runs.specs.Colours.{has}
use Rattle.cover_tree.specs.declared.planes.Holders.{Holders}
use Rattle.cover_tree.specs.declared.planes.Planes.{Planes}
use Rattle.cover_tree.specs.Kinds.{further}
use Rattle.mp_base.specs.Apply.{truth}

-- the colour at a place
abbrev pub colour_at : Planes → ℕ → ℕ
colour_at p i = bit_at p.low i + 2 * bit_at p.middle i + 4 * bit_at p.high i

-- the set at a place has these layers, of those that the mask may use
pub record AreLayersAt (mask : Mask) (h : Holders) (i : ℕ) (s : Layers) : Type 0 where
  pub nd : bit_at h.nd i ≡ truth s.nd
  pub np : bit_at h.np i ≡ truth s.np
  pub nb : bit_at h.nb i ≡ truth s.nb
  pub further : bit_at h.further i ≡ truth (has s (further mask))
  pub nm : bit_at h.nm i ≡ truth s.nm
