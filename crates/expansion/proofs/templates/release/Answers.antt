use Rattle.std.proofs.Common.{◌<◌, ◌-◌, ℕ, arith, length}
use Rattle.expansion.proofs.Scopes.{forgets_more, forgets_none}
use Rattle.expansion.proofs.templates.release.Goals as goal

pub loop-init : goal.loop-init
loop-init c = forgets_none c.args.slots.now

pub loop-preserved : goal.loop-preserved
loop-preserved c =
    let some = c.if-number-eq0.false in
    let most = c.if-number-len.false in
    let size = c.len.ensures in
    let j : ℕ = c.loop.number - 1 in
    let lt : j < length c.loop.slots = omega (arith, some, most, size) in
    forgets_more c.args.slots.now c.loop.slots c.set.new.self j lt c.loop.invariant c.set.ensures
