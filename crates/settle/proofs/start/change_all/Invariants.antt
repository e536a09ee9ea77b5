use Rattle.settle.specs.Start.{RedrivesFirst}
use Rattle.settle.proofs.start.change_all.Given as goal

abbrev pub invariant-loop-node : goal.invariant-loop-node
invariant-loop-node l =
    RedrivesFirst l.board.network.now.channels l.board.gated.now l.last l.board.drive.now l.node l.initial.values
    l.values l.waits
