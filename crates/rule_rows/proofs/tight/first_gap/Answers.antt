-- The channels of the drawing are where gaps begin.
use Rattle.std.proofs.Common.{subst}
use Rattle.std.specs.Prelude.{IfOk}
use Rattle.lam_geom.specs.declared.layer.Layer.TheVariants.{ND}
use Rattle.lam_geom.specs.Squares.{covered}
use Rattle.rule_rows.specs.Copies.{AreSpread}
use Rattle.rule_rows.specs.Channels.{IsChannel}
use Rattle.rule_rows.specs.Firsts.{IsFirstOf}
use Rattle.rule_rows.specs.Gaps.{BeginsGap}
use Rattle.rule_rows.specs.Sides.{way_of}
use Rattle.rule_rows.proofs.Leasts.{first_same}
use Rattle.rule_rows.proofs.Opening.{begins_of_channel, channel_of_begins}
use Rattle.rule_rows.proofs.Results.{if_ok_map}
use Rattle.rule_rows.proofs.tight.first_gap.Goals as goal

pub returns : goal.returns
returns c =
    let on = covered c.args.shapes.now c.args.layer in
    let d1 = c.spread.new.drawing in
    let d2 = c.spread-2.new.drawing in
    let d3 = c.spread-3.new.drawing in
    let s1 = subst (λ d. AreSpread on ND (record { side = c.opposite.result; near = 1; far = 1 }) d d1)
    c.new-drawing.ensures c.in_ok-spread.ensures in
    let begins = begins_of_channel on c.args.size c.args.side c.opposite.result c.opposite.ensures d1 d2 d3 s1
    c.in_ok-spread-2.ensures c.in_ok-spread-3.ensures in
    let channel = channel_of_begins on c.args.size c.args.side c.opposite.result c.opposite.ensures d1 d2 d3 s1
    c.in_ok-spread-2.ensures c.in_ok-spread-3.ensures in
    let gaps = BeginsGap on (way_of c.args.side) c.args.size in
    if_ok_map (IsFirstOf (IsChannel d3)) (IsFirstOf gaps) c.first_channel.result
    (λ o h. first_same (IsChannel d3) gaps o begins channel h)
    (subst (λ d. IfOk c.first_channel.result (IsFirstOf (IsChannel d))) c.as_slice.ensures c.first_channel.ensures)
