use Rattle.clap.specs.declared.builder.command.Command.TheViews.{out-Command as fields_of}
use Rattle.command_line.proofs.Settings.{top_settings}
use Rattle.command_line.proofs.app.top.Goals as goal

pub returns : goal.returns
returns c =
    top_settings (fields_of c.new.result) (fields_of c.no_binary_name.result) (fields_of c.disable_help_flag.result)
    (fields_of c.disable_help_subcommand.result) (fields_of c.disable_version_flag.result)
    (fields_of c.subcommand_required.result) c.new.ensures.app c.no_binary_name.ensures c.disable_help_flag.ensures
    c.disable_help_subcommand.ensures c.disable_version_flag.ensures c.subcommand_required.ensures
