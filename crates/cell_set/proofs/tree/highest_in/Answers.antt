use Rattle.cell_set.proofs.Seeking.{last_of_word}
use Rattle.cell_set.proofs.tree.highest_in.Goals as goal

-- src/tree.rt
pub returns-in-Some-clause-some : goal.returns-in-Some-clause-some
returns-in-Some-clause-some c = last_of_word c.args.words.now c.args.at c.in-Some.place c.in-Some.ensures.some
