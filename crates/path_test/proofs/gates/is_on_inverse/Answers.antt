use Rattle.path_test.proofs.gates.is_on_inverse.Goals as goal

pub returns-then-inverts : goal.returns-then-inverts
returns-then-inverts c = λ e. (c.in-Some.first, c.inverts.ensures c.if-inverts.true, c.become_nets.ensures e)
