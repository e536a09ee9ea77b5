use Rattle.fabric.proofs.Switching.{tap_made}
use Rattle.fabric.proofs.fabric.Fabric.tap.Goals as goal

pub returns : goal.returns
returns c = tap_made c.args.self.now c.args.m.now c.args.side c.line_number-a.result c.tapped_number-b.result
    c.requires.tile c.line_number-a.ensures c.tapped_number-b.ensures
