-- The laws of the count of a walk.
use Rattle.cif_form.proofs.Counted.{walk_counted, count_keeps}
use Rattle.cif_form.proofs.laws.walk_is_counted.Goals as goal

pub returns-clause-whole : goal.returns-clause-whole
returns-clause-whole c = walk_counted

pub returns-clause-limit : goal.returns-clause-limit
returns-clause-limit c = count_keeps
