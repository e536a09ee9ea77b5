use Rattle.std.proofs.Common.{◌*◌, arith}
use Rattle.cell_set.proofs.Words.{no_bits}
use Rattle.cell_set.proofs.Seeking.{first_in_word}
use Rattle.cell_set.proofs.tree.lowest_in.Goals as goal

-- src/tree.rt
pub returns-in-Some-clause-some : goal.returns-in-Some-clause-some
returns-in-Some-clause-some c =
    first_in_word c.args.words.now c.args.at 0 (64 * c.args.at) c.in-Some.place
    (omega arith) c.requires.within c.in-Some.ensures.some

-- src/tree.rt
pub returns-in-None-clause-none : goal.returns-in-None-clause-none
returns-in-None-clause-none c = no_bits _ c.in-None.ensures.none
