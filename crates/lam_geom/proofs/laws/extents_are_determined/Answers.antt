-- The laws of extents.
use Rattle.lam_geom.proofs.Extents.{extent_exists, one_extent, extent_of_squares}
use Rattle.lam_geom.proofs.laws.extents_are_determined.Goals as goal

pub returns-clause-exist : goal.returns-clause-exist
returns-clause-exist c = extent_exists

pub returns-clause-once : goal.returns-clause-once
returns-clause-once c = one_extent

pub returns-clause-squares : goal.returns-clause-squares
returns-clause-squares c = extent_of_squares
