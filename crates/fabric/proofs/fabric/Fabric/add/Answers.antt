use Rattle.std.proofs.Common.{◌++◌, sym, ◌∙◌, ap, subst, List, get_or}
use Rattle.std.specs.Prelude.{All}
use Rattle.fabric.specs.declared.thing.Segment.{Segment}
use Rattle.fabric.specs.declared.thing.Line.{Line}
use Rattle.fabric.specs.declared.thing.Mark.{Mark}
use Rattle.fabric.specs.Plan.{Plan, IsLine, IsMark}
use Rattle.fabric.proofs.Adding.{is_line, added_segments, added_lines, added_marks}
use Rattle.fabric.proofs.fabric.Fabric.add.Goals as goal

pub add_segments-requires-clause-places : goal.add_segments-requires-clause-places
add_segments-requires-clause-places c =
    added_segments c.args.self.now c.args.segments.now c.args.lines.now c.args.marks.now c.requires.met

pub add_lines-requires-clause-places : goal.add_lines-requires-clause-places
add_lines-requires-clause-places c =
    let f : Plan = c.args.self.now in
    let segments : List Segment = c.args.segments.now in
    let lines : List Line = c.args.lines.now in
    let marks : List Mark = c.args.marks.now in
    subst (λ z. All (IsLine z) lines) (sym c.in_ok-add_segments.ensures)
    (λ k d h. is_line f (f.segments ++ segments) f.lines f.marks (get_or lines k d)
    (added_lines f segments lines marks c.requires.met k d h))

pub add_marks-requires-clause-places : goal.add_marks-requires-clause-places
add_marks-requires-clause-places c =
    let lines : List Line = c.args.lines.now in
    let with_lines = c.in_ok-add_lines.ensures ∙ ap (λ (z : Plan). record z { lines = z.lines ++ lines })
    c.in_ok-add_segments.ensures in
    subst (λ z. All (IsMark z) c.args.marks.now) (sym with_lines)
    (added_marks c.args.self.now c.args.segments.now lines c.args.marks.now c.requires.met)
