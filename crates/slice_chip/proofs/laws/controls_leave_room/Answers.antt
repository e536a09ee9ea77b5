use Rattle.slice_chip.proofs.ControlRoom as proofs
use Rattle.slice_chip.proofs.laws.controls_leave_room.Goals as goal

pub returns : goal.returns
returns c = proofs.controls_leave_room
