use Rattle.std.proofs.Common.{◌≡◌, ◌++◌, take}
use Rattle.std.specs.List.{flat_map}
use Rattle.mask_svg.specs.Pictures.{layer_text}
use Rattle.mask_svg.proofs.writing.push_layers.Given as goal

abbrev pub invariant-loop-layer : goal.invariant-loop-layer
invariant-loop-layer l = l.text.items
    ≡ l.fn.text.items ++ flat_map (layer_text l.shapes) (take l.layer-index l.layer-items)
