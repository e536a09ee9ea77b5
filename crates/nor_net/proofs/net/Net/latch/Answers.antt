use Rattle.std.proofs.Common.{◌≡◌, length, ap, arith}
use Rattle.nor_net.proofs.Adding.{is_net_pushed}
use Rattle.nor_net.proofs.net.Net.latch.Goals as goal

pub invariant_of-self : goal.invariant_of-self
invariant_of-self c =
    let v : c.self.inside.parts ≡ c.args.self.now = c.self.view_is in
    let l = ap length v in
    let few = c.self.invariant.few_inputs in
    is_net_pushed c.push.result c.self.inside.parts c.push.new.self _ c.push.ensures.ok c.push.ensures.err
    c.self.invariant (omega (arith, l, c.requires)) (omega (arith, few)) tt
