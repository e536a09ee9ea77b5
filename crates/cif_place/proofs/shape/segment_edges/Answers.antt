use Rattle.std.proofs.Common.{arith}
use Rattle.std.proofs.lemmas.Int.{ints}
use Rattle.cif_place.specs.Placing.{scale_of}
use Rattle.cif_place.proofs.Shapes.{IsRise, whole_up, whole_down, uneven_up, uneven_down, rises}
use Rattle.cif_place.proofs.shape.segment_edges.Goals as goal
use Rattle.cif_place.proofs.shape.segment_edges.Goals.{then-segment+else-segment-2, else-segment}

pub returns-then-segment-2 : goal.returns-then-segment-2
returns-then-segment-2 c =
    let g = c.args.segment in
    let h : IsRise g.from g.to = (omega (arith, ints), omega (arith, ints)) in
    record {
      whole = whole_up
          (scale_of c.args.ratio) g.from g.to c.args.extent c.requires.extent.1 c.requires.straight h c.around.result
          c.around.ensures.whole;
      small = c.around.ensures.small;
      uneven =
          uneven_up
          (scale_of c.args.ratio) g.from g.to c.args.extent c.requires.extent.1 c.requires.straight h c.around.result
          c.around.ensures.uneven;
    }

pub returns : goal.returns
returns c =
    let g = c.args.segment in
    let h : IsRise g.to g.from = rises g.from g.to c.requires.straight (λ r. elim c.if-segment.branch [
      | then-segment+else-segment-2 w ↦ omega (arith, ints, r.0, r.1)
      | else-segment w ↦ omega (arith, ints, r.0, r.1)
    ]) in
    record {
      whole = whole_down
          (scale_of c.args.ratio) g.from g.to c.args.extent c.requires.extent.1 c.requires.straight h c.around-2.result
          c.around-2.ensures.whole;
      small = c.around-2.ensures.small;
      uneven =
          uneven_down
          (scale_of c.args.ratio) g.from g.to c.args.extent c.requires.extent.1 c.requires.straight h c.around-2.result
          c.around-2.ensures.uneven;
    }
