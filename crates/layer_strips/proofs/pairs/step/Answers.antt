-- Step by step.
use Rattle.std.proofs.Common.{◌≡◌, ◌≢◌, rules, refl, sym, subst, Some, None}
use Rattle.std.specs.BTreeMap.{get}
use Rattle.std.specs.Int.{w64}
use Rattle.std.specs.Int.RustNames.{FitsSigned}
use Rattle.std.specs.Ordering.{int_cmp}
use Rattle.std.specs.Prelude.{ℤ}
use Rattle.std.proofs.lemmas.Int.{to_z-of_z}
use Rattle.layer_strips.specs.Sweep.{strip, Does}
use Rattle.layer_strips.proofs.pairs.step.Goals as goal

pub returns-in_ok-put-in-Begin : goal.returns-in_ok-put-in-Begin
returns-in_ok-put-in-Begin c =
    let i = c.args.event.now.index in
    let old = get int_cmp c.args.live.now in
    let new = get int_cmp c.put.new.live in
    let x : ℤ = (strip c.args.strips.now i).x1 in
    let fits : FitsSigned w64 x = search rules in
    let e = to_z-of_z w64 x fits in
    subst (λ t. Does c.args.strips.now t i old new c.args.pairs.now c.args.pairs.now) (sym c.in-Begin.is) (
      subst (λ k. new k ≡ Some i) e c.in_ok-put-in-Begin.ensures.here,
      subst
          (λ k. (q : ℤ) → q ≢ k → new q ≡ old q) e c.in_ok-put-in-Begin.ensures.others,
      refl,
    )

pub returns-in-Finish : goal.returns-in-Finish
returns-in-Finish c =
    let i = c.args.event.now.index in
    let old = get int_cmp c.args.live.now in
    let new = get int_cmp c.cut.new.live in
    let x : ℤ = (strip c.args.strips.now i).x1 in
    let fits : FitsSigned w64 x = search rules in
    let e = to_z-of_z w64 x fits in
    subst (λ t. Does c.args.strips.now t i old new c.args.pairs.now c.args.pairs.now) (sym c.in-Finish.is) (
      subst (λ k. new k ≡ None) e c.cut.ensures.here,
      subst
          (λ k. (q : ℤ) → q ≢ k → new q ≡ old q) e c.cut.ensures.others,
      refl,
    )
