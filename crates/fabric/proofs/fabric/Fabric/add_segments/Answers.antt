use Rattle.std.proofs.Common.{List, get_or, sym, subst}
use Rattle.std.specs.Prelude.{All}
use Rattle.fabric.specs.declared.thing.Segment.{Segment}
use Rattle.fabric.specs.Plan.{SegmentsApart}
use Rattle.fabric.proofs.Adding.{before}
use Rattle.fabric.proofs.fabric.Fabric.add_segments.Goals as goal

pub segment-requires-clause-apart : goal.segment-requires-clause-apart
segment-requires-clause-apart c =
    let new : List Segment = c.args.segments.now in
    let apart : (d : Segment) → All (λ t. SegmentsApart t (get_or new c.loop-s.s-index d)) c.loop-s.self.segments =
    λ d. subst (λ z. All (λ t. SegmentsApart t (get_or new c.loop-s.s-index d)) z.segments) (sym c.loop-s.invariant)
    (before c.args.self.now.segments new SegmentsApart c.requires.apart c.loop-s.s-index d c.loop-s-test.true) in
    apart _
