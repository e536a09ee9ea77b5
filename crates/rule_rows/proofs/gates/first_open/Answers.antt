-- The channels of the drawing are those that are open.
use Rattle.std.proofs.Common.{subst}
use Rattle.std.specs.Prelude.{IfOk}
use Rattle.lam_geom.specs.Squares.{covered}
use Rattle.rule_rows.specs.Channels.{IsChannel}
use Rattle.rule_rows.specs.Firsts.{IsFirstOf}
use Rattle.rule_rows.specs.Gates.{IsOpenToward}
use Rattle.rule_rows.specs.Sides.{way_of}
use Rattle.rule_rows.proofs.Leasts.{first_same}
use Rattle.rule_rows.proofs.Opens.{open_of_channel, channel_of_open}
use Rattle.rule_rows.proofs.Results.{if_ok_map}
use Rattle.rule_rows.proofs.gates.first_open.Goals as goal

pub returns : goal.returns
returns c =
    let shapes = c.args.shapes.now in
    let side = c.args.side in
    let d0 = c.in_ok-drawing.drawing in
    let d1 = c.spread.new.drawing in
    let d2 = c.spread-2.new.drawing in
    let d3 = c.spread-3.new.drawing in
    let d4 = c.spread-4.new.drawing in
    let opens = IsOpenToward (covered shapes) (way_of side) in
    let to = open_of_channel shapes d0 d1 d2 d3 d4 side c.in_ok-drawing.ensures c.in_ok-spread.ensures
    c.in_ok-spread-2.ensures c.in_ok-spread-3.ensures c.in_ok-spread-4.ensures in
    let from = channel_of_open shapes d0 d1 d2 d3 d4 side c.in_ok-drawing.ensures c.in_ok-spread.ensures
    c.in_ok-spread-2.ensures c.in_ok-spread-3.ensures c.in_ok-spread-4.ensures in
    if_ok_map (IsFirstOf (IsChannel d4)) (IsFirstOf opens) c.first_channel.result
    (λ o h. first_same (IsChannel d4) opens o to from h)
    (subst (λ d. IfOk c.first_channel.result (IsFirstOf (IsChannel d))) c.as_slice.ensures c.first_channel.ensures)
