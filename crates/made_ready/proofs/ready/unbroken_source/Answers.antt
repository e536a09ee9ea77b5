use Rattle.std.proofs.Common.{◌≡◌, Some, None, Err, subst}
use Rattle.mp_checker.specs.Checking.{CheckedProgram}
use Rattle.mp_source.specs.Source.{OfSource}
use Rattle.mp_base.specs.Refuses.{IsJudged}
use Rattle.made_ready.proofs.ready.unbroken_source.Goals as goal

pub unreachable-requires : goal.unreachable-requires
unreachable-requires c =
    let bytes = c.args.text.now in
    let first : OfSource bytes (Some c.in-Err-Broken.field-0-0) =
    subst (λ why. IsJudged {T = CheckedProgram} (OfSource bytes) (Err why)) c.in-Err-Broken.field-0-is
    c.in-Err-Broken.ensures.judged in
    let same : None ≡ Some c.in-Err-Broken.field-0-0 =
    c.one_verdict.ensures bytes None (Some c.in-Err-Broken.field-0-0) c.requires.whole first in
    cc
