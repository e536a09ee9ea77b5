use Rattle.std.proofs.Common.{◌≡◌, Err, None, Some, subst}
use Rattle.mp_base.specs.Refuses.{IsJudged}
use Rattle.switch_net.specs.declared.network.Network.{Network}
use Rattle.mask_net.specs.Masks.{OfMask}
use Rattle.mask_net.proofs.file.drawn_network.Goals as goal

pub unreachable-requires : goal.unreachable-requires
unreachable-requires c =
    let bytes = c.args.bytes.now in
    let first =
    subst (λ why. IsJudged {T = Network} (OfMask bytes) (Err why)) c.in-Err-Broken.field-0-is
    c.in-Err-Broken.ensures.judged in
    let same : None ≡ Some c.in-Err-Broken.field-0-0 =
    c.one_verdict.ensures bytes None (Some c.in-Err-Broken.field-0-0) c.requires first in
    cc
