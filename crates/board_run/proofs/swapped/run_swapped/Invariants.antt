use Rattle.std.proofs.Common.{◌≡◌, ◌≤◌, ◌++◌, length, map, string_bytes}
use Rattle.std.specs.Prelude.{All}
use Rattle.std.specs.Vec.Iter.{into_iter_items, into_iter_len}
use Rattle.board.specs.Face.{Face}
use Rattle.board.specs.Loop.{Exchange}
use Rattle.board.proofs.Calls.{LoopedBy}
use Rattle.board_run.proofs.swapped.run_swapped.Given as goal

-- The names of a box's parts are Rattle's own, and may change.
abbrev pub invariant-loop-swap : goal.invariant-loop-swap
invariant-loop-swap g l = record {
  wired : l.board.wired ≡ l.fn.board.wired;
  pads : g.D.Device.pads_of l.device ≡ g.D.Device.pads_of l.fn.device;
  long : length l.parts.items ≡ length l.fn.parts.items;
  names : map (λ p. string_bytes p.name) l.parts.items ≡ map (λ p. string_bytes p.name) l.fn.parts.items;
  left : l.yielded ++ into_iter_items l.swap-iterator ≡ l.fn.swaps.items;
  many : into_iter_len l.swap-iterator ≡ length (into_iter_items l.swap-iterator);
  behind : All (λ (s : Exchange). l.board.done ≤ s.clock) (map (λ s. let e : Exchange = record {
    clock = s.clock;
    link = s.link;
    fresh = record {
      state = (g.dyn-1.0.entry s.fresh.vtable).1.state s.fresh.value;
      drives = (g.dyn-1.0.entry s.fresh.vtable).1.driven_in;
      sees = (g.dyn-1.0.entry s.fresh.vtable).1.after_seeing;
    };
  } in e) (into_iter_items l.swap-iterator));
  run : l.board.done ≤ l.fn.clocks;
  looped : LoopedBy g.D.Device.steps l.fn.board.wired 0 l.fn.device (map (λ p. let f : Face = record {
    state = (g.dyn-1.0.entry p.part.vtable).1.state p.part.value;
    drives = (g.dyn-1.0.entry p.part.vtable).1.driven_in;
    sees = (g.dyn-1.0.entry p.part.vtable).1.after_seeing;
  } in f) l.fn.parts.items) (g.O.Sink.held l.fn.out) (map (λ s. let e : Exchange = record {
    clock = s.clock;
    link = s.link;
    fresh = record {
      state = (g.dyn-1.0.entry s.fresh.vtable).1.state s.fresh.value;
      drives = (g.dyn-1.0.entry s.fresh.vtable).1.driven_in;
      sees = (g.dyn-1.0.entry s.fresh.vtable).1.after_seeing;
    };
  } in e) l.yielded) l.board.done l.device (map (λ p. let f : Face = record {
    state = (g.dyn-1.0.entry p.part.vtable).1.state p.part.value;
    drives = (g.dyn-1.0.entry p.part.vtable).1.driven_in;
    sees = (g.dyn-1.0.entry p.part.vtable).1.after_seeing;
  } in f) l.parts.items) (g.O.Sink.held l.out);
  faults : g.O.Sink.faults l.out ≡ g.O.Sink.faults l.fn.out;
}
