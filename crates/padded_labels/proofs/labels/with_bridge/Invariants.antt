use Rattle.std.proofs.Common.{◌≡◌, ◌∷◌, take}
use Rattle.chip_pads.specs.Ports.{bridge}
use Rattle.padded_labels.proofs.labels.with_bridge.Given as goal

abbrev pub invariant-loop-rect : goal.invariant-loop-rect
invariant-loop-rect l = l.extra ≡ bridge ∷ take l.rect-index l.shape
