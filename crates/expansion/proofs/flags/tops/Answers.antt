use Rattle.std.proofs.Common.{◌<◌, length, subst, sym}
use Rattle.std.specs.List.{AllByRecursion}
use Rattle.mp_program.specs.Tree.{exprs_in}
use Rattle.mp_base.specs.Entries.{IsAt}
use Rattle.mp_base.proofs.Entries.{entry}
use Rattle.expansion_laws.proofs.Types.{inside}
use Rattle.expansion.proofs.Marking.{forms_more, one_form}
use Rattle.expansion.proofs.flags.tops.Goals as goal

pub mark-requires : goal.mark-requires
mark-requires c =
    let w = c.args.program.now in
    let i = c.loop-form.form-index in
    let y = c.form-item.result in
    let at : IsAt w.forms i y = subst (λ ys. IsAt ys i y) c.as_slice-form-items.ensures
    (entry c.as_slice-form-items.result.now i c.loop-form-test.true c.form-item.is) in
    subst (λ n. AllByRecursion (λ v. v < n) (exprs_in y.kind)) (sym c.loop-form.invariant.size)
    (one_form (length w.exprs) w.forms i y (inside w) at)

pub loop-form-preserved : goal.loop-form-preserved
loop-form-preserved c =
    let w = c.args.program.now in
    let i = c.loop-form.form-index in
    let y = c.form-item.result in
    let at : IsAt w.forms i y = subst (λ ys. IsAt ys i y) c.as_slice-form-items.ensures
    (entry c.as_slice-form-items.result.now i c.loop-form-test.true c.form-item.is) in
    forms_more (length w.exprs) w.forms i y c.loop-form.flags c.mark.new.flags at c.loop-form.invariant c.mark.ensures
