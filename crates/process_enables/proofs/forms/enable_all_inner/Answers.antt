use Rattle.std.proofs.Common.{◌≡◌, ◌<◌, length, rules, arith}
use Rattle.process_enables.proofs.Forming.{below_more}
use Rattle.process_enables.proofs.forms.enable_all_inner.Goals as goal

pub loop-form-preserved : goal.loop-form-preserved
loop-form-preserved c =
    let p = c.args.program.now in
    let count : c.in-Ok.count ≡ length p.forms = search rules in
    let below = c.loop-form-test.true in
    let lt : c.loop-form.form < length p.forms = omega (arith, below, count) in
    below_more p c.sound.ensures c.args.exprs.now c.loop-form.exprs c.enable_inner.new.exprs c.args.enables.now
    c.loop-form.enables c.enable_inner.new.enables c.loop-form.form lt c.requires c.loop-form.invariant
    c.in_ok-enable_inner.ensures
