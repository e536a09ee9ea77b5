-- What the plan of a chip promises: its rectangles and labels follow transfers, whatever the charge.
use Rattle.std.specs.Prelude.{◌≡◌, ◌<◌, ℕ, List, [], length, map, All, slice_index_or}
use Rattle.mp_base.specs.declared.value.Trit.{Trit}
use Rattle.lam_geom.specs.declared.rect.Rect.{Rect}
use Rattle.lam_geom.specs.declared.label.FlatLabel.{FlatLabel}
use Rattle.lam_geom.specs.Squares.{covered}
use Rattle.switch_net.specs.declared.network.Network.{Network}
use Rattle.switch_net.specs.Drawn.{IsNetwork}
use Rattle.switch_net.specs.Breaks.{BreaksAt, AreTooMany, HasPads}
use Rattle.switch_net.specs.Clock.{IsCircuitTrace}
use Rattle.switch_net.specs.Pads.{chip_labels}
use Rattle.mp_base.specs.PadBits.{Fit}
use Rattle.mp_base.specs.PadBits.{value_bits}
use Rattle.fabric.specs.declared.chip.ChipLabel.{ChipLabel}
use Rattle.fabric.specs.Labelled.{AreLabelsOf}
use Rattle.rtl_form.specs.declared.rtl.Rtl.{Rtl}
use Rattle.rtl_form.specs.Trace.{IsTrace, IsSettled}

-- from every charge the circuit shows in each settled clock the bits of what the transfers show
abbrev pub FollowsTransfers : Rtl → Network → Type 0
FollowsTransfers rtl network =
    (inputs outputs : List (List ℕ)) → All (Fit (rtl.pads).inputs) inputs → IsTrace rtl inputs outputs
    → (charge after : ℕ → Trit) (shown : List (List (List Trit)))
    → IsCircuitTrace network rtl.pads charge inputs shown after
    → (k : ℕ) → k < length inputs → IsSettled rtl inputs k
    → slice_index_or shown k [] ≡ value_bits (rtl.pads).outputs (slice_index_or outputs k [])

-- No rule of masks is broken by the squares with these labels, and each network that they draw (there is one) has the
-- pads and follows the transfers.
pub record IsSoundFor (rtl : Rtl) (rects : List Rect) (flat : List FlatLabel) : Type 0 where
  pub labels_fit : (i : ℕ) → ¬ BreaksAt (covered rects) flat i
  pub few : ¬ AreTooMany (covered rects)
  pub each : (network : Network) → IsNetwork (covered rects) flat network
      → HasPads network rtl.pads × FollowsTransfers rtl network

-- whatever the offsets of the labels; each label of the pads is there, once, in order
pub record IsPlanned (rtl : Rtl) (rects : List Rect) (labels : List ChipLabel) : Type 0 where
  pub named : map (λ (l : ChipLabel). l.name) labels ≡ chip_labels rtl.pads
  pub draws : (flat : List FlatLabel) → AreLabelsOf labels flat → IsSoundFor rtl rects flat
