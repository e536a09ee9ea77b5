use Rattle.std.proofs.Common.{◌∙◌, ap}
use Rattle.std.specs.List.{count_by}
use Rattle.rtl_check.specs.Kinds.{is_input}
use Rattle.rtl_check.proofs.OneCell.{one_input}
use Rattle.rtl_check.proofs.pads.has_input.Goals as goal

pub returns : goal.returns
returns c =
    one_input c.args.pad c.args.cells.now c.count_inputs.result
    (c.count_inputs.ensures ∙ ap (count_by (is_input c.args.pad)) c.as_slice.ensures)
