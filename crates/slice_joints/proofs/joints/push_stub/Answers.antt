use Rattle.std.proofs.Common.{cond, [], ◌∷◌, ◌++◌, ◌∙◌}
use Rattle.slice_joints.proofs.joints.push_stub.Goals as goal

pub returns : goal.returns
returns c =
    let a = c.line-stub.ensures in
    let b = c.is_other-is_there.ensures in
    c.in_ok-push_if.ensures ∙ (λ j. c.args.lines.now.items ++ cond (b j) (a j ∷ []) [])
