use Rattle.std.proofs.Common.{◌≡◌, length, map, take}
use Rattle.board.specs.Face.{Face}
use Rattle.board.specs.Loop.{inputs_from}
use Rattle.board.proofs.moving.give.Given as goal

-- The names of a box's parts are Rattle's own, and may change.
abbrev pub invariant-loop-input : goal.invariant-loop-input
invariant-loop-input g l = record {
  long : length l.inputs ≡ length l.pads;
  given : take l.input l.inputs ≡ take l.input (inputs_from l.links (map (λ p. let f : Face = record {
    state = (g.dyn-1.0.entry p.part.vtable).1.state p.part.value;
    drives = (g.dyn-1.0.entry p.part.vtable).1.driven_in;
    sees = (g.dyn-1.0.entry p.part.vtable).1.after_seeing;
  } in f) l.parts) l.clock 0 l.pads);
}
