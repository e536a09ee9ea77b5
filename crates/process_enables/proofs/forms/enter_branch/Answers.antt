use Rattle.std.proofs.Common.{◌∷◌, [], ℕ, List, subst}
use Rattle.std.specs.Prelude.{Contains}
use Rattle.mp_base.specs.declared.op.Op.TheVariants.{And}
use Rattle.rtl_form.specs.declared.rtl.RtlExpr.TheVariants.{Apply}
use Rattle.process_plan.specs.declared.enable.Enable.{Enable}
use Rattle.process_enables.specs.Adding.{IsPut}
use Rattle.process_enables.specs.Forms.{Assigns}
use Rattle.process_enables.proofs.Branching.{enters_is}
use Rattle.process_enables.proofs.forms.enter_branch.Goals as goal

pub assign_all-requires : goal.assign_all-requires
assign_all-requires c =
    let P : List ℕ → ℕ → Type 0 = λ fs f. Contains fs f in
    λ f cf. c.requires.inside f (subst (λ fs. P fs f) c.as_slice.ensures cf)

pub returns-clause-entered : goal.returns-clause-entered
returns-clause-entered c =
    let p = c.args.program.now in
    let x = c.args.enable in
    let y : Enable = record { origin = x.origin; expr = c.in_ok-expr.expr } in
    let P : ℕ → Type 0 = λ g.
    IsPut c.args.exprs.now (Apply And 0 (x.expr ∷ g ∷ [])) c.put_both.new.exprs c.in_ok-expr.expr in
    let Q : List ℕ → Type 0 = λ fs. Assigns fs y c.args.enables.now c.assign_all.new.enables in
    enters_is p x c.args.branch.now c.args.exprs.now c.put_both.new.exprs c.in_ok-expr.expr c.args.enables.now
    c.assign_all.new.enables (subst P c.in_ok-guard.ensures c.in_ok-expr.ensures)
    (subst Q c.as_slice.ensures c.in_ok-assign_all.ensures)
