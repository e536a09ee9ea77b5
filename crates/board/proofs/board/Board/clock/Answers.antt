use Rattle.board.proofs.board.Board.clock.Goals as goal

pub invariant_of-self : goal.invariant_of-self
invariant_of-self g c = record {
  few = c.self.invariant.few;
  wires = c.self.invariant.wires;
  has_room = c.step.ensures.room;
}

pub invariant_of-self-2 : goal.invariant_of-self-2
invariant_of-self-2 g c = record {
  few = c.self.invariant.few;
  wires = c.self.invariant.wires;
  has_room = c.step.ensures.room;
}
