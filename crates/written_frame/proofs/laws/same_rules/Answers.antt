use Rattle.written_frame.proofs.SameRules.{same_rules}
use Rattle.written_frame.proofs.laws.same_rules.Goals as goal

pub returns : goal.returns
returns c = same_rules
