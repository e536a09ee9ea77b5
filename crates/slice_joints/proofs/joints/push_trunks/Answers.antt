use Rattle.std.proofs.Common.{[], ◌∷◌, ◌++◌, ◌∙◌}
use Rattle.slice_layout.proofs.Growth.{three_more}
use Rattle.slice_joints.proofs.joints.push_trunks.Goals as goal

pub returns : goal.returns
returns c =
    let old = c.args.lines.now.items in
    let x = c.line.ensures in
    let y = c.line-2.ensures in
    let z = c.line-3.ensures in
    three_more old _ _ _ c.line.result c.line-2.result c.line-3.result
    c.in_ok-push.ensures.items c.in_ok-push-2.ensures.items c.in_ok-push-3.ensures.items
    ∙ (λ j. old ++ x j ∷ y j ∷ z j ∷ [])
