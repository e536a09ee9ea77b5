use Rattle.std.proofs.Common.{◌≡◌, length, map, string_bytes, take}
use Rattle.stimulus.specs.Bits.{trits_of}
use Rattle.board.specs.Face.{Face}
use Rattle.board.specs.Loop.{all_see}
use Rattle.board.proofs.moving.show.Given as goal

-- The names of a box's parts are Rattle's own, and may change.
abbrev pub invariant-loop-link : goal.invariant-loop-link
invariant-loop-link g l = record {
  long : length l.parts.items ≡ length l.fn.parts.items;
  names : map (λ p. string_bytes p.name) l.parts.items ≡ map (λ p. string_bytes p.name) l.fn.parts.items;
  faces :
      map (λ p. let f : Face = record {
        state = (g.dyn-1.0.entry p.part.vtable).1.state p.part.value;
        drives = (g.dyn-1.0.entry p.part.vtable).1.driven_in;
        sees = (g.dyn-1.0.entry p.part.vtable).1.after_seeing;
      } in f) l.parts.items
      ≡ all_see (take l.link-index l.links) (trits_of l.pads l.outputs) (map (λ p. let f : Face = record {
        state = (g.dyn-1.0.entry p.part.vtable).1.state p.part.value;
        drives = (g.dyn-1.0.entry p.part.vtable).1.driven_in;
        sees = (g.dyn-1.0.entry p.part.vtable).1.after_seeing;
      } in f) l.fn.parts.items);
}
