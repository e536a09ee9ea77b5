use Rattle.path_form.proofs.Joining.{control_obeys, lifts_join, casts_join, programs_give}
use Rattle.path_form.proofs.laws.paths_are_joined.Goals as goal

pub returns-clause-control : goal.returns-clause-control
returns-clause-control c = control_obeys

pub returns-clause-lifts : goal.returns-clause-lifts
returns-clause-lifts c = lifts_join

pub returns-clause-casts : goal.returns-clause-casts
returns-clause-casts c = casts_join

pub returns-clause-programs : goal.returns-clause-programs
returns-clause-programs c = programs_give
