use Rattle.std.proofs.Common.{◌<◌, length, arith}
use Rattle.outside.proofs.Reading.{too_long_told}
use Rattle.outside.proofs.transfer.read_file.Goals as goal

pub returns-clause-bytes : goal.returns-clause-bytes
returns-clause-bytes g c =
    let more : c.args.limit < length c.loop-text.text.items = omega arith in
    too_long_told
    (g.D.Depot.held c.loop-text.depot) c.args.name.now c.loop-text.text.items c.args.limit more
    c.loop-text.invariant.front
