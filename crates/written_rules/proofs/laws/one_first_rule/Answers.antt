use Rattle.std.proofs.Common.{arith}
use Rattle.written_rules.proofs.laws.one_first_rule.Goals as goal

pub returns : goal.returns
returns c = λ w k l at there first other.
    let a = first.first l there other.broken in
    let b = other.first k at first.broken in
    omega (arith, a, b)
