use Rattle.std.proofs.Common.{◌≡◌, ◌≤◌, ◌<◌, length, arith, rules, ◌++◌, take}
use Rattle.outside.proofs.Reading.{added_told, sized}
use Rattle.outside.proofs.transfer.read_piece.Goals as goal

pub returns-clause-piece : goal.returns-clause-piece
returns-clause-piece g c =
    let grown : c.extend_from_slice.new.self.items ≡ c.args.text.now.items
    ++ take c.in_ok-count.count c.read_at.new.buf = search rules in
    let room : 0 < length c.read_at.new.buf = omega arith in
    let place : c.len.result ≡ length c.args.text.now.items = omega arith in
    added_told
    (g.D.Depot.held c.read_at.new.self) c.args.name.now c.args.text.now.items c.read_at.new.buf _ c.len.result
    c.in_ok-count.count place grown room c.in_ok-count.ensures.bytes

pub returns-clause-size : goal.returns-clause-size
returns-clause-size g c =
    let within : c.in_ok-count.count ≤ length c.read_at.new.buf = c.in_ok-count.ensures.bound.0 in
    sized _ _ _ c.in_ok-count.count (search rules) (omega arith)
