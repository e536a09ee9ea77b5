use Rattle.std.proofs.Common.{◌≡◌, ◌+◌, length, map, string_bytes}
use Rattle.board.specs.Face.{Face}
use Rattle.board.proofs.Loops.{LoopedTo}
use Rattle.board.proofs.board.Board.run.Given as goal

-- The names of a box's parts are Rattle's own, and may change.
abbrev pub invariant-loop-clock : goal.invariant-loop-clock
invariant-loop-clock g l = record {
  wired : l.self.wired ≡ l.fn.self.wired;
  done : l.self.done ≡ l.fn.self.done + l._clock;
  pads : g.D.Device.pads_of l.device ≡ g.D.Device.pads_of l.fn.device;
  long : length l.parts.items ≡ length l.fn.parts.items;
  names : map (λ p. string_bytes p.name) l.parts.items ≡ map (λ p. string_bytes p.name) l.fn.parts.items;
  looped : LoopedTo g.D.Device.steps l.fn.self.wired l.fn.self.done l.fn.device (map (λ p. let f : Face = record {
    state = (g.dyn-1.0.entry p.part.vtable).1.state p.part.value;
    drives = (g.dyn-1.0.entry p.part.vtable).1.driven_in;
    sees = (g.dyn-1.0.entry p.part.vtable).1.after_seeing;
  } in f) l.fn.parts.items) (g.O.Sink.held l.fn.out) l.self.done l.device (map (λ p. let f : Face = record {
    state = (g.dyn-1.0.entry p.part.vtable).1.state p.part.value;
    drives = (g.dyn-1.0.entry p.part.vtable).1.driven_in;
    sees = (g.dyn-1.0.entry p.part.vtable).1.after_seeing;
  } in f) l.parts.items) (g.O.Sink.held l.out);
  faults : g.O.Sink.faults l.out ≡ g.O.Sink.faults l.fn.out;
}
