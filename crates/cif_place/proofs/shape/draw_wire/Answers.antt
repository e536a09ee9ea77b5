use Rattle.std.proofs.Common.{arith, ◌+◌, ◌<◌, ◌≡◌, ◌++◌, ◌∷◌, [], length, sym, ◌∙◌, ap, subst, take}
use Rattle.std.proofs.lemmas.List.{take_more}
use Rattle.cif_form.specs.Place.{segments}
use Rattle.cif_place.specs.Placing.{scale_of}
use Rattle.cif_place.specs.Shaping.{IsWiredSoFar}
use Rattle.cif_place.proofs.Shapes.{wired_more, wired_none, AreShort, short_segments, at_segment, no_segment}
use Rattle.cif_place.proofs.shape.draw_wire.Goals as goal

pub loop-index-preserved : goal.loop-index-preserved
loop-index-preserved c =
    let segs = segments c.args.path.now in
    let s = scale_of c.args.ratio in
    let g = c.segment_at-segment.result in
    let lt : c.loop-index.index < length segs = omega arith in
    let m = take_more segs c.loop-index.index (g.from, g.to) lt in
    let here : take (c.loop-index.index + 1) segs ≡ take c.loop-index.index segs ++ (g.from, g.to) ∷ [] =
    m ∙ ap (λ p. take c.loop-index.index segs ++ p ∷ []) (sym c.segment_at-segment.ensures) in
    subst (λ ps. IsWiredSoFar s c.args.placement c.args.layer c.args.extent.across ps c.args.shapes.now
    c.draw.new.shapes c.in_ok-near.near) (sym here)
    (wired_more s c.args.placement c.args.layer c.args.extent.across (take c.loop-index.index segs)
    (g.from, g.to) _ _ _ _ _ _ _
    c.loop-index.invariant c.in-Some.ensures.whole c.place.ensures c.in_ok-near.ensures)

pub loop-index-init : goal.loop-index-init
loop-index-init c =
    wired_none (scale_of c.args.ratio) c.args.placement c.args.layer c.args.extent.across c.args.shapes.now

pub segment_edges-requires-clause-from : goal.segment_edges-requires-clause-from
segment_edges-requires-clause-from c =
    let g = c.segment_at-segment.result in
    let segs = segments c.args.path.now in
    let lt : c.loop-index.index < length segs = omega arith in
    let a = at_segment AreShort segs c.loop-index.index (g.from, g.to) lt c.segment_at-segment.ensures
    (short_segments c.args.path.now c.requires.short) in
    a.0

pub segment_edges-requires-clause-to : goal.segment_edges-requires-clause-to
segment_edges-requires-clause-to c =
    let g = c.segment_at-segment.result in
    let segs = segments c.args.path.now in
    let lt : c.loop-index.index < length segs = omega arith in
    let a = at_segment AreShort segs c.loop-index.index (g.from, g.to) lt c.segment_at-segment.ensures
    (short_segments c.args.path.now c.requires.short) in
    a.1

pub returns-in_default : goal.returns-in_default
returns-in_default c = λ l rs.
    let g = c.segment_at-segment.result in
    let segs = segments c.args.path.now in
    let lt : c.loop-index.index < length segs = omega arith in
    no_segment (scale_of c.args.ratio) l c.args.extent.across segs rs c.loop-index.index
    (g.from, g.to) lt c.segment_at-segment.ensures (λ r. c.in_default.ensures.uneven l r)
