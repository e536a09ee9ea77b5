use Rattle.std.proofs.Common.{◌≡◌, ◌++◌, take}
use Rattle.std.specs.List.{flat_map}
use Rattle.mask_svg.specs.Pictures.{label_text}
use Rattle.mask_svg.proofs.writing.push_all.Given as goal

abbrev pub invariant-loop-label : goal.invariant-loop-label
invariant-loop-label l = l.text.items
    ≡ l.fn.text.items ++ flat_map (label_text l.unit l.labels) (take l.label-index l.labels)
