use Rattle.std.proofs.Common.{◌-◌, ◌^◌, ◌≤◌, ◌∙◌, ap, arith}
use Rattle.stimulus.proofs.Values.{ones, few_bits}
use Rattle.stimulus.proofs.transcript.all_bits.Goals as goal

pub returns : goal.returns
returns c =
    let few : c.bits_of.result ≤ 64 = omega (arith, c.bits_of.ensures, few_bits c.args.pad.now) in
    ones c.bits_of.result few ∙ ap (λ n. 2 ^ n - 1) c.bits_of.ensures
