use Rattle.std.proofs.Common.{refl}
use Rattle.fabric.proofs.Switching.{transistor_is}
use Rattle.fabric.proofs.fabric.Fabric.transistor.Goals as goal

pub returns : goal.returns
returns c = transistor_is c.args.self.now c.conditions.ensures.met c.args.numbers.now c.args.m.now
    c.segment_number.result c.line_number.result c.line_number-2.result c.requires.tile c.segment_number.ensures
    c.line_number.ensures c.line_number-2.ensures _ refl refl c.in_ok-ends.ensures.ascending c.in_ok-ends.ensures.all
