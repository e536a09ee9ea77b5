use Rattle.std.proofs.Common.{◌≡◌, ◌∷◌, [], ◌++◌, ap, ◌∙◌}
use Rattle.std.proofs.lemmas.Result.{IfOk-weaker}
use Rattle.mp_base.specs.declared.op.Op.TheVariants.{Not}
use Rattle.rtl_form.specs.declared.rtl.RtlExpr.TheVariants.{Apply}
use Rattle.process_jumps.specs.Growth.{IsPut, IsNegationMade}
use Rattle.process_jumps.proofs.Growing.{negation_put}
use Rattle.process_jumps.proofs.exprs.negation.Goals as goal

pub returns : goal.returns
returns c =
    let args : c.push.new.self ≡ c.args.expr ∷ [] =
    c.in_ok-push.ensures.ok ∙ ap (λ xs. xs ++ c.args.expr ∷ []) c.new-args.ensures in
    IfOk-weaker c.put.result (IsPut c.args.exprs.now c.put.new.exprs (Apply Not 0 c.push.new.self))
    (IsNegationMade c.args.exprs.now c.put.new.exprs c.args.expr)
    (λ n put. negation_put c.args.exprs.now c.put.new.exprs c.args.expr n c.push.new.self args put)
    c.put.ensures
