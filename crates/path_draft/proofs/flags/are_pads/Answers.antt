use Rattle.std.proofs.Common.{List, ◌++◌, length, ◌∙◌, subst}
use Rattle.std.specs.Prelude.{IfSome}
use Rattle.nor_net.specs.declared.net.NetId.{NetId}
use Rattle.path_draft.specs.Testing.{AreFlags}
use Rattle.path_draft.proofs.Telling.{pads_are}
use Rattle.path_draft.proofs.flags.are_pads.Goals as goal

pub returns-in-Some : goal.returns-in-Some
returns-in-Some c = λ e.
    let net = c.args.net.now in
    let flags = c.in-Some.flags in
    let ids = c.as_slice.result.now in
    let n = c.len.result in
    let told : AreFlags ids n flags = subst (λ o. IfSome o (AreFlags ids n)) c.in-Some.is c.in_ok-flags.ensures in
    let all : AreFlags (c.args.inputs.now ++ c.args.outputs.now) (length net) flags =
    subst (λ (xs : List NetId). AreFlags xs (length net) flags) (c.as_slice.ensures ∙ c.in_ok-all.ensures)
    (subst (λ n. AreFlags ids n flags) c.len.ensures.len told) in
    pads_are net c.args.inputs.now c.args.outputs.now flags all (c.in_ok-latches-in-Some.ensures e)
