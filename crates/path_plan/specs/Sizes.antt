-- How many labels chips have.
use Rattle.std.specs.Prelude.{◌+◌, ◌*◌, ◌≤◌, length}
use Rattle.mp_base.specs.declared.pad.Pads.{Pads}
use Rattle.switch_net.specs.Pads.{chip_labels}

-- Beside the supplies and phases, a chip has at most 64 labels for each pad.
abbrev pub LabelsAreFew : Type 0
LabelsAreFew =
    (pads : Pads) → length (chip_labels pads) ≤ 64 * (length pads.inputs + length pads.outputs) + 5
