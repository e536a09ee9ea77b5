use Rattle.std.proofs.Common.{◌≢◌, ◌<◌, length, get_or, arith}
use Rattle.cif_reader.proofs.Scanned.{late, never_late}
use Rattle.cif_reader.proofs.read.late_end.Goals as goal
use Rattle.cif_reader.proofs.read.late_end.Goals.{
  else-start-gt0-via-then-start-gt0+then-start-bytes+else-bytes-start-eq69,
}
use Rattle.cif_reader.proofs.read.late_end.Goals.{else-start-gt0-via-then-start-gt0+else-start-bytes}
use Rattle.cif_reader.proofs.read.late_end.Goals.{else-start-gt0-via-else-start-gt0}

pub returns-then-bytes-start-eq69 : goal.returns-then-bytes-start-eq69
returns-then-bytes-start-eq69 c =
    late c.args.bytes.now c.past_blanks-start.result c.past_blanks-start.ensures.rest c.if-start-gt0.true
    c.if-start-bytes.true c.if-bytes-start-eq69.true

pub returns-else-start-gt0 : goal.returns-else-start-gt0
returns-else-start-gt0 c =
    let start = c.past_blanks-start.result in
    let no_end : 0 < start → start < length c.args.bytes.now
    → get_or c.args.bytes.now start 0 ≢ 69 = elim c.else-start-gt0.branch [
      | else-start-gt0-via-then-start-gt0+then-start-bytes+else-bytes-start-eq69 w ↦
          λ some less. w.if-bytes-start-eq69.false
      | else-start-gt0-via-then-start-gt0+else-start-bytes w ↦
          λ some less. absurd (omega (arith, less, w.if-start-bytes.false))
      | else-start-gt0-via-else-start-gt0 w ↦ λ some less. absurd (omega (arith, some, w.if-start-gt0.false))
    ] in
    never_late c.args.bytes.now start c.past_blanks-start.ensures.rest c.past_blanks-start.ensures.within no_end
