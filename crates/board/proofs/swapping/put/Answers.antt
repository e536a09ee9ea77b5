use Rattle.std.proofs.Common.{arith, ap, string_bytes, ◌<◌, length}
use Rattle.board.specs.Face.{Face}
use Rattle.board.proofs.Faces.{same_set}
use Rattle.board.proofs.Puts.{part_at, put_there}
use Rattle.board.proofs.swapping.put.Goals as goal

-- The names of the box's parts are Rattle's own, and may change.
pub index_mut-requires : goal.index_mut-requires
index_mut-requires g c =
    let e = part_at c.args.links.now c.args.link c.at.result.now c.requires.link c.at.ensures in
    omega (arith, e, c.requires.part)

pub returns-clause-names : goal.returns-clause-names
returns-clause-names g c =
    let e = part_at c.args.links.now c.args.link c.at.result.now c.requires.link c.at.ensures in
    let inside : (c.at.result.now).part < length c.args.parts.now.items = omega (arith, e, c.requires.part) in
    same_set _ c.args.parts.now.items (c.at.result.now).part c.index_mut.result.now c.replace.new.part inside
    c.index_mut.ensures.value (ap string_bytes c.replace.ensures.name)

pub returns-clause-faces : goal.returns-clause-faces
returns-clause-faces g c =
    let e = part_at c.args.links.now c.args.link c.at.result.now c.requires.link c.at.ensures in
    let inside : (c.at.result.now).part < length c.args.parts.now.items = omega (arith, e, c.requires.part) in
    put_there _ c.args.parts.now.items (c.at.result.now).part _ c.replace.new.part _ inside e
    (ap (λ b. let f : Face = record {
      state = (g.dyn-1.0.entry b.vtable).1.state b.value;
      drives = (g.dyn-1.0.entry b.vtable).1.driven_in;
      sees = (g.dyn-1.0.entry b.vtable).1.after_seeing;
    } in f) c.replace.ensures.part)
