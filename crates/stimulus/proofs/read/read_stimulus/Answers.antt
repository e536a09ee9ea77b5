use Rattle.std.proofs.Common.{rules}
use Rattle.std.specs.Option.{option_copied}
use Rattle.stimulus_lines.specs.Words.{lines}
use Rattle.stimulus.specs.Reading.{Reads, nothing}
use Rattle.stimulus.proofs.Naming.{named_read}
use Rattle.stimulus.proofs.Fitness.{fits_read}
use Rattle.stimulus.proofs.read.read_stimulus.Goals as goal

pub stimulus_of-requires-clause-named : goal.stimulus_of-requires-clause-named
stimulus_of-requires-clause-named c =
    let reads : Reads (option_copied c.args.known) nothing (lines c.args.bytes.now) c.in-Ok.reading =
    c.in-Ok.ensures.ok in
    named_read (option_copied c.args.known) c.in-Ok.reading (lines c.args.bytes.now) reads

pub stimulus_of-requires-clause-fitting : goal.stimulus_of-requires-clause-fitting
stimulus_of-requires-clause-fitting c =
    let reads : Reads (option_copied c.args.known) nothing (lines c.args.bytes.now) c.in-Ok.reading =
    c.in-Ok.ensures.ok in
    fits_read (option_copied c.args.known) c.in-Ok.reading (lines c.args.bytes.now) reads

pub returns-in_ok-stimulus_of-in-Ok-clause-judged : goal.returns-in_ok-stimulus_of-in-Ok-clause-judged
returns-in_ok-stimulus_of-in-Ok-clause-judged c = (c.in_ok-stimulus_of-in-Ok.field-0, search rules)
