use Rattle.std.proofs.Common.{rules, append_assoc}
use Rattle.cif_emit.proofs.labels.words_of.Goals as goal

pub returns : goal.returns
returns c = search (rules, append_assoc)
