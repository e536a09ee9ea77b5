use Rattle.strip_rows.proofs.Finishing.{are_strips, are_touching}
use Rattle.strip_rows.proofs.rows.StripRows.finish.Goals as goal

-- src/rows.rt
pub returns-clause-strips : goal.returns-clause-strips
returns-clause-strips c = λ colour y w blank. are_strips colour y c.args.self w blank

-- src/rows.rt
pub returns-clause-touching : goal.returns-clause-touching
returns-clause-touching c = λ colour y w blank. are_touching colour y c.args.self w blank
