use Rattle.expansion.proofs.Walking.{long_found, never_long}
use Rattle.expansion.proofs.walk.top_word.Goals as goal

pub unreachable-requires : goal.unreachable-requires
unreachable-requires c =
    let w = c.args.program.now in
    never_long w c.args.top c.requires.top c.requires.few
    (long_found w c.args.top c.word.result c.in-Err-TooLong.field-0 c.word.ensures c.in-Err-TooLong.is
    c.in-Err-TooLong.field-0-is)
