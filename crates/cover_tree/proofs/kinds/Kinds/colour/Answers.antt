use Rattle.std.proofs.Common.{◌∙◌, ◌/◌, ◌%◌, ◌<◌, ◌^◌, refl, arith}
use Rattle.cover_tree.specs.Kinds.{index}
use Rattle.mp_base.proofs.Tests.{same_byte}
use Rattle.cover_tree.proofs.Colours.{low_shared, middle_shared, high_shared}
use Rattle.cover_tree.proofs.kinds.Kinds.colour.Goals as goal

-- src/kinds.rt
pub returns-in_err-low-clause-none : goal.returns-in_err-low-clause-none
returns-in_err-low-clause-none c = rw c.from_residual.ensures (λ k h.
    let small : c.args.self.bits < 2 ^ 32 = omega arith in
    c.in_err-low.ensures.none (k % 2)
    (low_shared c.args.palette.now.mask c.args.self small c.args.known c.with-planes.result c.with-planes.ensures k h))

-- src/kinds.rt
pub returns-in_err-middle-clause-none : goal.returns-in_err-middle-clause-none
returns-in_err-middle-clause-none c = rw c.from_residual-in_err-middle.ensures (λ k h.
    let small : c.args.self.bits < 2 ^ 32 = omega arith in
    c.in_err-middle.ensures.none (k / 2 % 2)
    (middle_shared c.args.palette.now.mask c.args.self small c.args.known c.with-planes.result
    c.with-planes.ensures k h))

-- src/kinds.rt
pub returns-in_err-high-clause-none : goal.returns-in_err-high-clause-none
returns-in_err-high-clause-none c = rw c.from_residual-in_err-high.ensures (λ k h.
    let small : c.args.self.bits < 2 ^ 32 = omega arith in
    c.in_err-high.ensures.none (k / 4)
    (high_shared c.args.palette.now.mask c.args.self small c.args.known c.with-planes.result c.with-planes.ensures k h))

-- src/kinds.rt
pub returns-clause-some : goal.returns-clause-some
returns-clause-some c = record {
  each = λ s h.
      let e = c.in_ok-low.ensures.some.each (index s) h.set in
      let f = c.in_ok-middle.ensures.some.each (index s) h.set in
      let g = c.in_ok-high.ensures.some.each (index s) h.set in
      c.with-planes.ensures s
      ∙ rw (e, f, g, same_byte c.in_ok-low.low, same_byte c.in_ok-middle.middle, same_byte c.in_ok-high.high) refl;
}
