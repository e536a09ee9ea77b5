use Rattle.std.proofs.Common.{sym, ◌∙◌}
use Rattle.cif_reader.proofs.Scanned.{skips_blank, skips_empty}
use Rattle.cif_reader.proofs.read.skip.Goals as goal
use Rattle.cif_reader.proofs.read.skip.Goals.{else-not-is_blank-via-then-not-is_blank+else-bytes-end-ne59}
use Rattle.cif_reader.proofs.read.skip.Goals.{else-not-is_blank-via-else-not-is_blank}

pub loop-end-preserved : goal.loop-end-preserved
loop-end-preserved c inside items e s =
    c.loop-end.invariant inside items e (elim c.else-not-is_blank.branch [
      | else-not-is_blank-via-then-not-is_blank+else-bytes-end-ne59 w ↦
          skips_empty c.args.bytes.now c.loop-end.end c.loop-end-test.true w.if-bytes-end-ne59.false inside items e s
      | else-not-is_blank-via-else-not-is_blank w ↦
          skips_blank c.args.bytes.now c.loop-end.end c.loop-end-test.true
          (sym c.is_blank.ensures ∙ w.if-not-is_blank.false) inside items e s
    ])
