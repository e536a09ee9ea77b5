-- The laws of expansion.
use Rattle.cif_form.proofs.OneExpansion.{expansion_is_unique, plain_expansion_is_unique}
use Rattle.cif_form.proofs.laws.expansion_is_unique.Goals as goal

pub returns-clause-squares : goal.returns-clause-squares
returns-clause-squares c = expansion_is_unique

pub returns-clause-rectangles : goal.returns-clause-rectangles
returns-clause-rectangles c = plain_expansion_is_unique
