use Rattle.std.proofs.Common.{[], ◌∷◌, ℕ}
use Rattle.std.proofs.lemmas.Result.{IfOk-weaker}
use Rattle.mp_base.specs.declared.op.Op.TheVariants.{And}
use Rattle.rtl_form.specs.declared.rtl.RtlExpr.TheVariants.{Apply}
use Rattle.process_enables.specs.Adding.{IsPut}
use Rattle.process_enables.specs.Forms.{Narrows}
use Rattle.process_enables.proofs.Adding.{narrows_is}
use Rattle.process_enables.proofs.forms.narrow.Goals as goal

pub returns : goal.returns
returns c =
    let n = c.in_ok-unguarded.unguarded in
    let mid = c.put_negation.new.exprs in
    let more = c.put_both.new.exprs in
    let Q : ℕ → Type 0 = Narrows c.args.rest c.args.guard c.args.exprs.now more in
    IfOk-weaker c.put_both.result (IsPut mid (Apply And 0 (c.args.rest ∷ n ∷ [])) more) Q
    (λ m put. narrows_is c.args.rest c.args.guard c.args.exprs.now mid more n m c.in_ok-unguarded.ensures put)
    c.put_both.ensures
