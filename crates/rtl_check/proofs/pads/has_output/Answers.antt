use Rattle.std.proofs.Common.{◌∙◌, ap}
use Rattle.std.specs.List.{count_by}
use Rattle.rtl_check.specs.Kinds.{is_output}
use Rattle.rtl_check.proofs.OneCell.{one_output}
use Rattle.rtl_check.proofs.pads.has_output.Goals as goal

pub returns : goal.returns
returns c =
    one_output c.args.pad c.args.cells.now c.count_outputs.result
    (c.count_outputs.ensures ∙ ap (count_by (is_output c.args.pad)) c.as_slice.ensures)
