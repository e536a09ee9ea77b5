-- The laws of walks.
use Rattle.cif_form.proofs.OneWalk.{walk_is_unique, plain_walk_is_unique}
use Rattle.cif_form.proofs.laws.walk_is_unique.Goals as goal

pub returns-clause-squares : goal.returns-clause-squares
returns-clause-squares c = walk_is_unique

pub returns-clause-rectangles : goal.returns-clause-rectangles
returns-clause-rectangles c = plain_walk_is_unique
