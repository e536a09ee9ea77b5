use Rattle.std.proofs.Common.{◌∙◌, ap}
use Rattle.name_meanings.specs.Named.{with_process}
use Rattle.name_meanings.proofs.Noting.{process_noted, all_noted}
use Rattle.name_meanings.proofs.table.names_of_all.Goals as goal

pub loop-process-preserved : goal.loop-process-preserved
loop-process-preserved c =
    process_noted c.args.defs.now c.args.processes.now c.loop-process.process-index c.process-item.result
    c.loop-process.names c.insert.new.self
    c.bytes-name.result c.with_process-named.result c.loop-process-test.true c.process-item.is c.bytes-name.ensures
    (c.with_process-named.ensures ∙ ap (λ n. with_process n c.process-item.result) c.known.ensures)
    c.in_ok-insert.ensures.updates c.loop-process.invariant

pub returns : goal.returns
returns c =
    all_noted c.args.defs.now c.args.processes.now c.loop-process.process-index c.loop-process.names
    c.loop-process-test.false c.loop-process.invariant
