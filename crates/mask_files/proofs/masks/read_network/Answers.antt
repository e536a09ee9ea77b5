use Rattle.mask_net.specs.Masks.{OfMask}
use Rattle.mask_files.specs.declared.limits.TheConstants.{MASK_LIMIT}
use Rattle.mask_files.specs.Faults.{MaskFault}
use Rattle.outcome.proofs.Reasons.{judged_err, judged_ok, reason_err}
use Rattle.mask_files.proofs.masks.read_network.Goals as goal

pub returns-in_err-network_of-clause-reason : goal.returns-in_err-network_of-clause-reason
returns-in_err-network_of-clause-reason g c =
    reason_err (MaskFault c.args.name.now) _ _ _ _ c.from_residual-in_err-network_of.result
    c.from_residual-in_err-network_of.ensures.1
    (judged_err MASK_LIMIT OfMask c.args.name.now c.in_ok-bytes.bytes.items _ _ _ c.in_ok-bytes.ensures.text
    c.in_ok-bytes.ensures.reason c.in_err-network_of.field-0.0 c.in_err-network_of.ensures.judged)

pub returns-clause-reason : goal.returns-clause-reason
returns-clause-reason g c =
    judged_ok MASK_LIMIT OfMask c.args.name.now c.in_ok-bytes.bytes.items _ _ _ c.in_ok-bytes.ensures.text
    c.in_ok-bytes.ensures.reason
    (c.in_ok-network_of.field-0, c.in_ok-network_of.ensures.ok)
