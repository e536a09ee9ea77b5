use Rattle.std.proofs.Common.{◌-◌, ◌*◌, ◌%◌, ◌^◌, bit_and, ap, arith}
use Rattle.std.proofs.lemmas.Nat.{and_le_l}
use Rattle.std.proofs.lemmas.Nat.Bits.{ones_shl}
use Rattle.cell_set.proofs.Words.{lowest_is, none_from}
use Rattle.cell_set.proofs.bits.lowest_from.Goals as goal

-- src/bits.rt
pub returns-then-rest-eq0-clause-none : goal.returns-then-rest-eq0-clause-none
returns-then-rest-eq0-clause-none c =
    let w = c.args.word in
    let p = c.args.place in
    none_from w p (bit_and w ((2 ^ 64 - 1) * 2 ^ p % 2 ^ 64)) (omega arith) c.requires
    (ap (bit_and w) (ones_shl 64 p (omega arith))) c.if-rest-eq0.true

-- src/bits.rt
pub returns-clause-some : goal.returns-clause-some
returns-clause-some c =
    let w = c.args.word in
    let p = c.args.place in
    let less = and_le_l w ((2 ^ 64 - 1) * 2 ^ p % 2 ^ 64) in
    lowest_is w p (bit_and w ((2 ^ 64 - 1) * 2 ^ p % 2 ^ 64)) (omega arith) c.requires
    (ap (bit_and w) (ones_shl 64 p (omega arith))) (omega arith) (omega arith)
