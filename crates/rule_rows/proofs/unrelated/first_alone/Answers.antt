-- The channels of the drawing are what is alone.
use Rattle.std.proofs.Common.{subst}
use Rattle.std.specs.Prelude.{IfOk}
use Rattle.rule_rows.specs.Channels.{IsChannel}
use Rattle.rule_rows.specs.Firsts.{IsFirstOf}
use Rattle.rule_rows.specs.Nears.{IsAloneIn}
use Rattle.rule_rows.proofs.Alones.{alone_of_channel, channel_of_alone}
use Rattle.rule_rows.proofs.Leasts.{first_same}
use Rattle.rule_rows.proofs.Results.{if_ok_map}
use Rattle.rule_rows.proofs.unrelated.first_alone.Goals as goal

pub returns : goal.returns
returns c =
    let shapes = c.args.shapes.now in
    let led = c.args.led in
    let d1 = c.spread.new.drawing in
    let d2 = c.spread-2.new.drawing in
    if_ok_map (IsFirstOf (IsChannel d2)) (IsFirstOf (IsAloneIn shapes led)) c.first_channel.result
    (λ o h. first_same (IsChannel d2) (IsAloneIn shapes led) o
    (alone_of_channel shapes led d1 d2 c.requires.only c.in_ok-spread.ensures c.in_ok-spread-2.ensures)
    (channel_of_alone shapes led d1 d2 c.requires.only c.in_ok-spread.ensures c.in_ok-spread-2.ensures) h)
    (subst (λ d. IfOk c.first_channel.result (IsFirstOf (IsChannel d))) c.as_slice.ensures c.first_channel.ensures)
