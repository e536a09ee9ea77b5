use Rattle.std.proofs.lemmas.Result.{IfOk-weaker}
use Rattle.command_line.specs.App as spec
use Rattle.command_line.proofs.Settings.{adds_form}
use Rattle.command_line.proofs.app.with_board.Goals as goal

pub returns : goal.returns
returns c =
    IfOk-weaker c.subcommand.result _ _
    (adds_form c.args.command spec.board c.in_ok-board.field-0 c.in_ok-board.ensures)
    c.subcommand.ensures
