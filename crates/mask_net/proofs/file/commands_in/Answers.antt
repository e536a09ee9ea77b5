use Rattle.std.proofs.lemmas.Result.{IfOk-weaker}
use Rattle.mask_net.proofs.file.commands_in.Goals as goal

pub returns-clause-ok : goal.returns-clause-ok
returns-clause-ok c =
    IfOk-weaker c.read_cif.result _ _
    (λ cif whole. record { read = c.scan_is_reading.ensures c.args.bytes.now cif whole; well_formed = whole })
    c.read_cif.ensures.whole
