-- The first entry of the range.
use Rattle.std.proofs.Common.{rules, subst}
use Rattle.std.specs.Prelude.{◌<ℤ◌}
use Rattle.std.specs.Int.{w64}
use Rattle.std.specs.Int.RustNames.{FitsSigned}
use Rattle.std.specs.declared.ops.Bound.TheVariants.{Excluded, Unbounded}
use Rattle.std.specs.BTreeMap.Range.{IsRangeOf}
use Rattle.std.specs.Ordering.{int_cmp}
use Rattle.std.proofs.lemmas.Int.{to_z-of_z}
use Rattle.layer_strips.proofs.Nexts.{first_is, from_excluded, to_excluded}
use Rattle.layer_strips.proofs.live.after.Goals as goal

pub returns-in-Some : goal.returns-in-Some
returns-in-Some c =
    let p = c.args.place in
    let fits : FitsSigned w64 c.in-Some.right.now = search rules in
    rw (to_z-of_z w64 c.in-Some.right.now fits)
    (first_is c.args.live.now (Excluded p) (λ k. p <ℤ k) _ _ (c.in-Some.right.now, c.in-Some.index.now)
    (subst (λ k. IsRangeOf int_cmp (Excluded k) Unbounded c.args.live.now c.range.result)
    (to_z-of_z w64 p c.ranges.place) (c.range.ensures.in_range tt)) c.in-Some.ensures.steps (to_excluded p)
    (from_excluded p c.in-Some.right.now))
