use Rattle.std.proofs.Common.{ap, ◌∙◌, length}
use Rattle.mp_written.specs.Expansion.{all_pieces}
use Rattle.expansion_laws.proofs.Laid.{length-laid}
use Rattle.expansion_laws.proofs.laws.counts.Goals as goal

pub returns : goal.returns
returns c = λ w p expands. ap length expands.exprs ∙ length-laid 0 (all_pieces w)
