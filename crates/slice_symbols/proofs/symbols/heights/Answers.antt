use Rattle.std.proofs.Common.{◌≡◌, subst, arith}
use Rattle.slice_symbols.proofs.Heights.{AreHeights, same_heights}
use Rattle.slice_symbols.proofs.symbols.heights.Goals as goal

pub returns : goal.returns
returns c =
    let bands = c.args.bands in
    let t = c.loop-band-test.false in
    let end = c.loop-band.auto.band-end in
    let all : c.loop-band.band ≡ c.args.count = omega (arith, t, end) in
    same_heights bands c.args.count c.loop-band.heights
    (subst (λ n. AreHeights bands n c.loop-band.heights) all c.loop-band.invariant)
