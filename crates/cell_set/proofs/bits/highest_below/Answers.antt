use Rattle.std.proofs.Common.{◌-◌, ◌*◌, ◌%◌, ◌^◌, bit_and, ap}
use Rattle.std.proofs.lemmas.Nat.{one_shl}
use Rattle.std.proofs.lemmas.Option.{IfSome_then}
use Rattle.cell_set.proofs.Words.{highest_of, none_below, none_then}
use Rattle.cell_set.proofs.bits.highest_below.Goals as goal

-- src/bits.rt
pub returns-clause-some : goal.returns-clause-some
returns-clause-some c =
    let w = c.args.word in
    let p = c.args.place in
    IfSome_then c.highest.result c.highest.ensures.some (λ k h.
    highest_of w p (bit_and w (1 * 2 ^ p % 2 ^ 64 - 1)) c.requires
    (ap (λ n. bit_and w (n - 1)) (one_shl p 64 c.requires)) k h)

-- src/bits.rt
pub returns-clause-none : goal.returns-clause-none
returns-clause-none c =
    let w = c.args.word in
    let p = c.args.place in
    none_then c.highest.result _ _ c.highest.ensures.none (λ e.
    none_below w p (bit_and w (1 * 2 ^ p % 2 ^ 64 - 1)) c.requires
    (ap (λ n. bit_and w (n - 1)) (one_shl p 64 c.requires)) e)
