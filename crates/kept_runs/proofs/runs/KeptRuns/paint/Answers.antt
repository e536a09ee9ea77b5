use Rattle.std.proofs.Common.{◌≡◌, ◌<◌, ◌≤◌, length, ◌∙◌, arith}
use Rattle.std.proofs.lemmas.List.{length-set}
use Rattle.cell_set.specs.Sets.{room_of}
use Rattle.kept_runs.specs.Kept.{width_of}
use Rattle.kept_runs.proofs.Colours.{in_row}
use Rattle.kept_runs.proofs.Painting.{painted_end, painted_on, begins_at, still_borders, row_in, row_beside}
use Rattle.kept_runs.proofs.runs.KeptRuns.paint.Goals as goal

-- src/runs.rt
pub fill-requires-clause-within : goal.fill-requires-clause-within
unfolding width_of
fill-requires-clause-within c = c.requires.within

-- src/runs.rt
pub invariant_of-self : goal.invariant_of-self
unfolding width_of
invariant_of-self c =
    let k = c.args.self.now in
    let w : c.args.to ≤ length k.colours.items = c.requires.within in
    let l : length k.colours.items ≤ c.args.to = rw c.cells.ensures at c.if-cells-to.true in
    let o = c.requires.order in
    let b = begins_at k k.kept c.args.from c.args.colour c.begins-begins.result (omega arith) c.begins-begins.ensures in
    let p = painted_end k.borders c.fill.new.borders k.colours.items c.fill.new.colours.items c.args.from c.args.to
    c.args.colour c.begins-begins.result o w c.fill.ensures b l in
    record {
      kept = still_borders k.borders c.fill.new.borders k.colours.items c.fill.new.colours.items c.args.from
          c.args.to c.args.colour k.kept o w p;
    }

-- src/runs.rt
pub returns-then-cells-to : goal.returns-then-cells-to
unfolding width_of
returns-then-cells-to c =
    let k = c.args.self.now in
    let w : c.args.to ≤ length k.colours.items = c.requires.within in
    let l : length k.colours.items ≤ c.args.to = rw c.cells.ensures at c.if-cells-to.true in
    let o = c.requires.order in
    let b = begins_at k k.kept c.args.from c.args.colour c.begins-begins.result (omega arith) c.begins-begins.ensures in
    let p = painted_end k.borders c.fill.new.borders k.colours.items c.fill.new.colours.items c.args.from c.args.to
    c.args.colour c.begins-begins.result o w c.fill.ensures b l in
    record {
      inside = row_in k _ c.args.from c.args.to c.args.colour k.kept o w p;
      beside = row_beside k _ c.args.from c.args.to c.args.colour k.kept o w p;
      cells = p.as_many;
    }

-- src/runs.rt
pub fill-requires-2-clause-within : goal.fill-requires-2-clause-within
unfolding width_of
fill-requires-2-clause-within c = c.requires.within

-- src/runs.rt
pub put-requires-clause-room : goal.put-requires-clause-room
unfolding width_of
put-requires-clause-room c =
    let k = c.args.self.now in
    let r = k.kept.room in
    let l : c.args.to < length k.colours.items = rw c.cells.ensures at c.if-cells-to.false in
    let e : room_of c.fill-2.new.borders ≡ room_of k.borders = c.fill-2.ensures.room in
    omega arith

-- src/runs.rt
pub put-requires-clause-within : goal.put-requires-clause-within
unfolding width_of
put-requires-clause-within c =
    let k = c.args.self.now in
    let l : c.args.to < length k.colours.items = rw c.cells.ensures at c.if-cells-to.false in
    rw (c.fill-2.ensures.noted, length-set) l

-- src/runs.rt
pub invariant_of-self-2 : goal.invariant_of-self-2
unfolding width_of
invariant_of-self-2 c =
    let k = c.args.self.now in
    let w : c.args.to ≤ length k.colours.items = c.requires.within in
    let l : c.args.to < length k.colours.items = rw c.cells.ensures at c.if-cells-to.false in
    let o = c.requires.order in
    let b = begins_at k k.kept c.args.from c.args.colour c.begins-begins.result (omega arith) c.begins-begins.ensures in
    let p = painted_on k.borders c.fill-2.new.borders k.colours.items c.fill-2.new.colours.items c.args.from c.args.to
    c.args.colour c.begins-begins.result o w
    c.fill-2.ensures b c.put.new.borders c.put.new.colours.items c.colour_at-after.result c.differ.result l
    (c.colour_at-after.ensures ∙ in_row k k.kept c.args.to l)
    c.differ.ensures c.put.ensures.own c.put.ensures.others c.put.ensures.noted c.put.ensures.room in
    record {
      kept = still_borders k.borders c.put.new.borders k.colours.items c.put.new.colours.items c.args.from
          c.args.to c.args.colour k.kept o w p;
    }

-- src/runs.rt
pub returns : goal.returns
unfolding width_of
returns c =
    let k = c.args.self.now in
    let w : c.args.to ≤ length k.colours.items = c.requires.within in
    let l : c.args.to < length k.colours.items = rw c.cells.ensures at c.if-cells-to.false in
    let o = c.requires.order in
    let b = begins_at k k.kept c.args.from c.args.colour c.begins-begins.result (omega arith) c.begins-begins.ensures in
    let p = painted_on k.borders c.fill-2.new.borders k.colours.items c.fill-2.new.colours.items c.args.from c.args.to
    c.args.colour c.begins-begins.result o w
    c.fill-2.ensures b c.put.new.borders c.put.new.colours.items c.colour_at-after.result c.differ.result l
    (c.colour_at-after.ensures ∙ in_row k k.kept c.args.to l)
    c.differ.ensures c.put.ensures.own c.put.ensures.others c.put.ensures.noted c.put.ensures.room in
    record {
      inside = row_in k _ c.args.from c.args.to c.args.colour k.kept o w p;
      beside = row_beside k _ c.args.from c.args.to c.args.colour k.kept o w p;
      cells = p.as_many;
    }
