use Rattle.std.proofs.Common.{map}
use Rattle.std.proofs.lemmas.Result.{IfOk-weaker}
use Rattle.command_line.specs.App as spec
use Rattle.command_line.proofs.Settings.{adds_form}
use Rattle.command_line.proofs.app.with_form.Goals as goal

pub returns : goal.returns
returns c =
    IfOk-weaker c.subcommand.result _ _
    (adds_form c.args.command (spec.form c.args.name.now (map (λ id. id.now) c.args.ids.now)) c.in_ok-form.field-0
    c.in_ok-form.ensures)
    c.subcommand.ensures
