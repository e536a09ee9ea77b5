use Rattle.std.proofs.Common.{sym}
use Rattle.cif_place.proofs.Placements.{place_after, held_after}
use Rattle.cif_place.proofs.Turns.{still}
use Rattle.cif_place.proofs.laws.placements_compose.Goals as goal

pub returns-clause-here : goal.returns-clause-here
returns-clause-here c = λ r. sym (still r)

pub returns-clause-after : goal.returns-clause-after
returns-clause-after c = place_after

pub returns-clause-held : goal.returns-clause-held
returns-clause-held c = held_after
