use Rattle.std.proofs.Common.{◌∙◌, ◌+◌, ap, get_or, length, subst, arith}
use Rattle.fabric.specs.Switches.Net.{segment}
use Rattle.slice_chip.specs.Order.{nowhere}
use Rattle.chip_pads.specs.Heights.{port_low}
use Rattle.chip_laws.specs.Labels.{IsInCorner}
use Rattle.path_labels.proofs.Adding.{bit_added}
use Rattle.path_labels.proofs.Entries.{segment_there}
use Rattle.path_labels.proofs.labels.add_word.Goals as goal

pub net_corner-requires : goal.net_corner-requires
net_corner-requires c =
    let p = c.args.path.now in
    let s = c.slice_segment.ensures in
    let n = c.requires.segments in
    let m = segment_there (length p.control + 3) (length p.slices.net) p.width c.loop-k.k c.args.net.0
    c.loop-k-test.true c.requires.there in omega (arith, s, n, m)

pub loop-k-preserved : goal.loop-k-preserved
loop-k-preserved c =
    let f = c.args.fabric.now in
    let corner = c.net_corner.result in
    bit_added c.args.path.now f c.args.net c.args.name.now c.loop-k.k c.args.corners.now c.loop-k.corners
    c.push.new.self corner c.loop-k.invariant c.in_ok-push.ensures
    (record {
      named = c.net_corner.ensures.named ∙ c.in_ok-name.ensures;
      there = subst (λ n. IsInCorner f (segment (get_or f.segments n nowhere)) corner.label) c.slice_segment.ensures
          c.net_corner.ensures.there;
      high = c.net_corner.ensures.high
          ∙ ap (λ n. port_low f (segment (get_or f.segments n nowhere))) c.slice_segment.ensures;
    })
