use Rattle.std.proofs.Common.{◌≢◌, ◌∙◌, map, subst, arith}
use Rattle.std.specs.Prelude.{suc}
use Rattle.std.specs.List.{range_with_len}
use Rattle.std.proofs.lemmas.Result.{on_ok_weaker}
use Rattle.switch_net.specs.Pads.{word_labels}
use Rattle.nor_net.specs.Elements.{spot}
use Rattle.drawing.specs.Draws.{OfNet}
use Rattle.path_labels.specs.Labels.{Adds}
use Rattle.path_labels.proofs.Adding.{signal_added, word_added}
use Rattle.path_labels.proofs.labels.add_pad.Goals as goal

pub returns-in_ok-push : goal.returns-in_ok-push
returns-in_ok-push c =
    signal_added c.args.path.now c.args.fabric.now c.args.pad.now c.args.net c.args.corners.now c.push.new.self
    c.net_corner.result c.if-pad-eq0.true c.in_ok-push.ensures
    (record {
      named = c.net_corner.ensures.named ∙ c.in_ok-name.ensures ∙ c.bytes.ensures;
      there = c.net_corner.ensures.there;
      high = c.net_corner.ensures.high;
    })

pub returns-else-pad-eq0 : goal.returns-else-pad-eq0
returns-else-pad-eq0 c =
    let p = c.args.path.now in
    let pad = c.args.pad.now in
    let old = c.args.corners.now in
    let new = c.add_word.new.corners in
    let bits = map (λ k. OfNet (spot (suc k) c.args.net)) (range_with_len 0 p.width) in
    let word : pad.width ≢ 0 = λ e. omega (arith, c.if-pad-eq0.false, e) in
    on_ok_weaker c.add_word.result
    (λ added. word_added p c.args.fabric.now pad c.args.net p.width old new word (c.requires.entry.wide word)
    (subst (λ name. Adds p c.args.fabric.now bits (word_labels name p.width) old new) c.bytes-else-pad-eq0.ensures
    added))
    c.add_word.ensures
