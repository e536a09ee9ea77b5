use Rattle.std.proofs.Common.{◌≡◌, ◌++◌, take}
use Rattle.std.specs.List.{flat_map}
use Rattle.mask_svg.specs.Pictures.{on_layer, rect_text}
use Rattle.mask_svg.proofs.writing.push_rects.Given as goal

abbrev pub invariant-loop-r : goal.invariant-loop-r
invariant-loop-r l = l.text.items
    ≡ l.fn.text.items ++ flat_map rect_text (on_layer l.layer (take l.r-index l.shapes))
