use Rattle.std.proofs.Common.{◌<◌, ◌+◌, ℕ, List, Option, length, get_or, arith, sym, subst}
use Rattle.std.proofs.lemmas.List.{get_or_default}
use Rattle.process_plan.specs.declared.enable.Enable.{Enable}
use Rattle.process_enables.proofs.Assigning.{AssignsBelow, assigned_none, assigned_more, assigned_all, sets_is}
use Rattle.process_enables.proofs.forms.assign_all.Goals as goal

pub assign-requires : goal.assign-requires
assign-requires c =
    let f : ℕ = get_or c.args.forms.now c.loop-form.form-index 0 in
    let lt : c.loop-form.form-index < length c.args.forms.now = c.loop-form-test.true in
    let inside = c.requires f (
      c.loop-form.form-index,
      lt,
      get_or_default c.args.forms.now c.loop-form.form-index f 0
          lt,
    ) in
    let size = c.loop-form.invariant.kept.size in
    omega (arith, inside, size)

pub loop-form-init : goal.loop-form-init
loop-form-init c = assigned_none c.args.forms.now c.args.enable c.args.enables.now

pub loop-form-preserved : goal.loop-form-preserved
loop-form-preserved c =
    let forms : List ℕ = c.args.forms.now in
    let i : ℕ = c.loop-form.form-index in
    let f : ℕ = get_or forms i 0 in
    let lt : i < length forms = c.loop-form-test.true in
    let is = get_or_default forms i 0 f lt in
    let inside = c.requires f (i, lt, get_or_default forms i f 0 lt) in
    let size = c.loop-form.invariant.kept.size in
    let P : List (Option Enable) → Type 0 = λ es. AssignsBelow forms c.args.enable c.args.enables.now es (i + 1) in
    subst P (sym c.in_ok-assign.ensures.set)
    (assigned_more forms c.args.enable c.args.enables.now c.loop-form.enables _ i f c.loop-form.invariant lt is
    (sets_is c.loop-form.enables f c.args.enable (omega (arith, inside, size)) c.in_ok-assign.ensures.free))

pub returns : goal.returns
returns c =
    assigned_all c.args.forms.now c.args.enable c.args.enables.now c.loop-form.enables c.loop-form.form-index
    (omega (arith, c.loop-form.auto.form-index-end, c.loop-form-test.false)) c.loop-form.invariant
