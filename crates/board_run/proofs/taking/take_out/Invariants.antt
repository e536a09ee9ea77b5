use Rattle.std.proofs.Common.{◌≡◌, map, take}
use Rattle.std.specs.Vec.{vec_capacity, vec_len}
use Rattle.board.specs.Face.{Face}
use Rattle.board_run.specs.Left.{exchange_of, left_of}
use Rattle.board.specs.Loop.{Exchange}
use Rattle.board_run.proofs.taking.take_out.Given as goal

-- The names of a box's parts are Rattle's own, and may change.
abbrev pub invariant-loop-i : goal.invariant-loop-i
invariant-loop-i g l = record {
  left : l.parts.items ≡ left_of (take l.i l.swaps) l.fn.parts.items;
  many : vec_len l.taken ≡ l.i;
  room : vec_capacity l.taken ≡ vec_capacity l.fn.taken;
  taken :
      map (λ s. let e : Exchange = record {
        clock = s.clock;
        link = s.link;
        fresh = record {
          state = (g.dyn-1.0.entry s.fresh.vtable).1.state s.fresh.value;
          drives = (g.dyn-1.0.entry s.fresh.vtable).1.driven_in;
          sees = (g.dyn-1.0.entry s.fresh.vtable).1.after_seeing;
        };
      } in e) l.taken.items
      ≡ map (exchange_of (map (λ p. let f : Face = record {
        state = (g.dyn-1.0.entry p.part.vtable).1.state p.part.value;
        drives = (g.dyn-1.0.entry p.part.vtable).1.driven_in;
        sees = (g.dyn-1.0.entry p.part.vtable).1.after_seeing;
      } in f) l.fn.parts.items)) (take l.i l.swaps);
}
