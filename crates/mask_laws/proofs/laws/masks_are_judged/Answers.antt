use Rattle.mask_laws.proofs.Judged.{mask_judged, circuit_judged}
use Rattle.mask_laws.proofs.laws.masks_are_judged.Goals as goal

pub returns-clause-mask : goal.returns-clause-mask
returns-clause-mask c = mask_judged c.network_is_determined.ensures.numbering

pub returns-clause-circuit : goal.returns-clause-circuit
returns-clause-circuit c = circuit_judged
