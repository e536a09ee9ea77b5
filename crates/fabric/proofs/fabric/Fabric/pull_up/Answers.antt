use Rattle.std.proofs.Common.{refl}
use Rattle.fabric.proofs.Switching.{pull_up_is}
use Rattle.fabric.proofs.fabric.Fabric.pull_up.Goals as goal

pub returns : goal.returns
returns c = pull_up_is c.args.self.now c.conditions.ensures.met c.args.numbers.now c.args.m.now c.line_number.result
    c.power_number.result c.requires.tile c.line_number.ensures c.power_number.ensures _ refl refl
    c.in_ok-ends.ensures.ascending c.in_ok-ends.ensures.all
