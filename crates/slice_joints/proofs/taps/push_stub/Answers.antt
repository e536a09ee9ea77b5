use Rattle.std.proofs.Common.{ℕ, ◌≡◌, ◌+◌, ◌==◌, suc, not, cond, [], ◌∷◌, ◌++◌, ◌∙◌, ap, arith}
use Rattle.slice_joints.proofs.taps.push_stub.Goals as goal

pub returns : goal.returns
returns c =
    let k : ℕ = c.args.k in
    let next : k + 1 ≡ suc k = omega arith in
    let a = c.marked-stub.ensures in
    let b = c.is_other-is_there.ensures ∙ ap (λ z. not (z == suc c.args.lift.slice)) next in
    c.in_ok-push_if.ensures ∙ (λ j. c.args.marks.now.items ++ cond (b j) (a j ∷ []) [])
