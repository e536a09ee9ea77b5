use Rattle.std.proofs.Common.{◌≡◌, ◌<◌, length, ap, subst, sym, arith}
use Rattle.std.specs.Prelude.{All}
use Rattle.nor_net.specs.declared.net.NetId.{NetId}
use Rattle.nor_net.specs.Shape.{gate_inputs}
use Rattle.nor_net.proofs.Adding.{is_net_pushed}
use Rattle.nor_net.proofs.net.Net.gate.Goals as goal

pub invariant_of-self : goal.invariant_of-self
invariant_of-self c =
    let v : c.self.inside.parts ≡ c.args.self.now = c.self.view_is in
    let l = ap length v in
    let g = ap gate_inputs v in
    let i : c.in-Ok.inputs ≡ c.args.inputs.now = c.in-Ok.ensures in
    let k = ap length i in
    is_net_pushed c.push.result c.self.inside.parts c.push.new.self _ c.push.ensures.ok c.push.ensures.err
    c.self.invariant (omega (arith, l, c.requires.room)) (omega (arith, g, k, c.requires.inputs_room))
    (subst (All (λ (j : NetId). j.0 < length c.self.inside.parts)) (sym i)
    (subst (λ ps. All (λ (j : NetId). j.0 < length ps) c.args.inputs.now) (sym v) c.requires.inputs))
