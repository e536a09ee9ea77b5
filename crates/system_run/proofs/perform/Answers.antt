use Rattle.std.proofs.Common.{drop}
use Rattle.std.specs.Vec.Iter.{into_iter_items}
use Rattle.command_line.specs.Command.{command_of}
use Rattle.system_run.specs.Words.{command_given}
use Rattle.system_run.proofs.Promised.{for_given, ended_for}
use Rattle.system_run.proofs.perform.Goals as goal

pub returns : goal.returns
returns g c =
    for_given c.args.args (λ given. command_of (drop 1 (into_iter_items given))) c.ended.result
    (ended_for c.flush.result (command_given (λ given. command_of (drop 1 (into_iter_items given))) c.args.args)
    c.run_given-status.result c.ended.result c.ended.ensures (c.run_given-status.ensures.run).form)
