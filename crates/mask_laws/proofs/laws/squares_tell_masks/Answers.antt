use Rattle.mask_laws.proofs.SameSquares.{network_by_squares, first_by_squares, sound_by_squares}
use Rattle.mask_laws.proofs.laws.squares_tell_masks.Goals as goal

pub returns-clause-network : goal.returns-clause-network
returns-clause-network c = network_by_squares

pub returns-clause-first : goal.returns-clause-first
returns-clause-first c = first_by_squares

pub returns-clause-sound : goal.returns-clause-sound
returns-clause-sound c = sound_by_squares
