use Rattle.std.proofs.Common.{◌∙◌, not, ap}
use Rattle.mp_transfers.specs.Labels.{has}
use Rattle.mp_transfers.proofs.Naming.{astray_kind}
use Rattle.mp_transfers.proofs.unknown.is_astray.Goals as goal

pub returns-in-Go : goal.returns-in-Go
returns-in-Go c = λ labels iff.
    astray_kind c.args.names.now labels c.args.kind.now c.in-Go.label (not c.contains.result) c.in-Go.is iff
    (ap not (c.contains.ensures ∙ ap (has c.args.names.now) c.bytes.ensures))
