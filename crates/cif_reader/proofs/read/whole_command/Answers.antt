use Rattle.std.proofs.Common.{drop, arith}
use Rattle.cif_reader.proofs.Readable.{unread_lacks, unread_open, command_read}
use Rattle.cif_reader.proofs.read.whole_command.Goals as goal

pub returns-in_default : goal.returns-in_default
returns-in_default c =
    let none = rw c.in_default.is at c.in_ok-value.ensures in
    unread_lacks c.command_is_found.ensures (drop c.args.at c.args.bytes.now) none

pub returns-in_default-past_semicolon : goal.returns-in_default-past_semicolon
returns-in_default-past_semicolon c =
    let f = rw c.in-Some.is at c.in_ok-value.ensures in
    unread_open c.command_is_found.ensures (drop c.args.at c.args.bytes.now) f.exact
    (drop c.in-Some.field-0.end c.args.bytes.now) f.found c.in_default-past_semicolon.ensures

pub returns : goal.returns
returns c =
    let f = rw c.in-Some.is at c.in_ok-value.ensures in
    let (semicolon, behind, within) = c.in-Some-past_semicolon.ensures in
    command_read c.args.bytes.now c.args.at c.in-Some.field-0.end c.in-Some-past_semicolon.end c.in-Some.field-0.value
    (omega arith) f semicolon behind within
