use Rattle.std.proofs.Common.{◌∙◌}
use Rattle.board_command.proofs.Leaving.{links_within}
use Rattle.board_command.proofs.playing.run_left.Goals as goal

pub run-requires-clause-parts : goal.run-requires-clause-parts
run-requires-clause-parts g c =
    links_within _ c.args.circuit.wired.links c.take_out.new.parts.items _ c.take_out.ensures.names c.requires.parts

pub returns-clause-names : goal.returns-clause-names
returns-clause-names g c = c.run.ensures.names ∙ c.take_out.ensures.names
