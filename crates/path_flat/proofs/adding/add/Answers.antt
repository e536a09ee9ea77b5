use Rattle.path_flat.specs.Numbers.{number_of}
use Rattle.path_flat.proofs.Latches.{latch_added}
use Rattle.path_flat.proofs.adding.add.Goals as goal

pub returns-in-Latch : goal.returns-in-Latch
returns-in-Latch c =
    latch_added c.args.own.now c.args.place.net c.args.width c.args.place.band c.args.source
    (number_of c.args.numbers.now)
    c.args.net.now c.latch.new.self c.in-Latch.phase c.in-Latch.source c.kind.result c.latch.result
    c.kind.ensures c.in-Latch.is c.requires.fed c.latch.ensures.ok
