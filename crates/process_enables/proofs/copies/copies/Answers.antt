use Rattle.std.proofs.Common.{◌≡◌, ◌-◌, ◌<◌, ℕ, suc, length, rules, arith, subst}
use Rattle.mp_base.proofs.Entries.{within}
use Rattle.process_plan.proofs.Keeping.{keeps_22}
use Rattle.process_enables.specs.Copies.{AreCopiedFrom}
use Rattle.process_enables.proofs.Copying.{keeps_21, sorted_of, copied_none, copied_more}
use Rattle.process_enables.proofs.copies.copies.Goals as goal

pub meanings_are_definitions-requires-clause-defined : goal.meanings_are_definitions-requires-clause-defined
meanings_are_definitions-requires-clause-defined c = keeps_21 c.args.program.now c.requires.unbroken

pub meanings_are_definitions-requires-clause-sorts : goal.meanings_are_definitions-requires-clause-sorts
meanings_are_definitions-requires-clause-sorts c = keeps_22 c.args.program.now c.requires.unbroken

pub loop-expr-init : goal.loop-expr-init
loop-expr-init c =
    let count : c.in-Ok.count ≡ length c.args.program.now.exprs = search rules in
    copied_none c.args.program.now c.args.layout.now.roles c.args.layout.now.cells c.in-Ok.count c.in_ok-exprs.exprs
    count c.in_ok-exprs.ensures

pub loop-expr-preserved : goal.loop-expr-preserved
loop-expr-preserved c =
    let p = c.args.program.now in
    let roles = c.args.layout.now.roles in
    let xs = c.args.layout.now.cells in
    let done = c.loop-expr.invariant in
    let some = c.loop-expr-test.true in
    let size = done.size in
    let two = within c.loop-expr.exprs 1 done.truth.1 in
    let i : ℕ = c.loop-expr.expr - 1 in
    let next : c.loop-expr.expr ≡ suc i = omega (arith, some) in
    let lt : i < length p.exprs = omega (arith, some, size, two) in
    let P : ℕ → Type 0 = λ n. AreCopiedFrom p roles xs n c.loop-expr.exprs in
    copied_more p roles xs c.requires.cells (sorted_of p c.requires.unbroken c.sound.ensures) i c.loop-expr.exprs
    c.push.new.self c.in_ok-copy.copy lt (subst P next done) c.in_ok-copy.ensures c.in_ok-push.ensures.ok
