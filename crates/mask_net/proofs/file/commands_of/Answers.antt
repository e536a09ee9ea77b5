use Rattle.mask_net.proofs.file.commands_of.Goals as goal

pub returns-clause-judged : goal.returns-clause-judged
returns-clause-judged c = rw c.deref.ensures.value at c.commands_in.ensures.judged
