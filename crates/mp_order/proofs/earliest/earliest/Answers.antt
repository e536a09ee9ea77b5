use Rattle.std.proofs.Common.{◌≡◌, ◌+◌, List, Option, true, false, sym, ◌∙◌, ap, subst, refl, arith, get_or, length}
use Rattle.mp_program.specs.declared.program.Form.{Form}
use Rattle.mp_base.specs.Entries.{IsAt}
use Rattle.mp_base.proofs.Entries.{entry}
use Rattle.mp_order.specs.declared.earliest.Setting.{Setting}
use Rattle.mp_order.proofs.Settings.{EarliestBelow, below_all, found_skip, found_set, not_before, is_before}
use Rattle.mp_order.proofs.earliest.earliest.Goals.{then-is_set+then-read-gt0+then-precedes, else-is_set}
use Rattle.mp_order.proofs.earliest.earliest.Goals.{else-is_set-via-then-is_set+then-read-gt0+else-precedes}
use Rattle.mp_order.proofs.earliest.earliest.Goals.{else-is_set-via-then-is_set+else-read-gt0}
use Rattle.mp_order.proofs.earliest.earliest.Goals.{else-is_set-via-else-is_set}
use Rattle.mp_order.proofs.earliest.earliest.Goals as goal

pub loop-n-preserved : goal.loop-n-preserved
loop-n-preserved c =
    let A : List Form → Type 0 = λ xs. IsAt xs c.loop-n.n c.form-item.result in
    let at : IsAt c.args.program.now.forms c.loop-n.n c.form-item.result =
    subst A c.as_slice-form-items.ensures
    (entry c.as_slice-form-items.result.now c.loop-n.n c.loop-n-test.true c.form-item.is) in
    let means : c.read-target.result ≡ get_or c.args.meanings.now.targets c.loop-n.n 0 =
    c.read-target.ensures ∙ ap (λ xs. get_or xs c.loop-n.n 0) c.as_slice.ensures in
    let P : Option Setting
    → Type 0 = λ found. EarliestBelow c.args.program.now c.args.meanings.now c.args.flags.now (c.loop-n.n + 1) found in
    elim c.if-is_set.branch [
      | then-is_set+then-read-gt0+then-precedes w ↦ subst P (sym w.found-is)
          (found_set c.args.program.now c.args.meanings.now c.args.flags.now c.loop-n.n c.form-item.result
          (record { place = c.form-item.result.place; target = c.read-target.result }) c.loop-n.found at
          c.loop-n.invariant (c.is_set.ensures.0 w.if-is_set.true)
          (omega (arith, w.read.ensures, w.if-read-gt0.true)) means refl
          (is_before c.form-item.result.place c.loop-n.found w.precedes.result w.precedes.ensures w.if-precedes.true))
      | else-is_set w ↦ subst P (sym w.found-is)
          (found_skip c.args.program.now c.args.meanings.now c.args.flags.now c.loop-n.n c.form-item.result
          c.loop-n.found at c.loop-n.invariant
          (λ set flag. elim w.else-is_set.branch [
            | else-is_set-via-then-is_set+then-read-gt0+else-precedes v ↦
                not_before c.form-item.result.place c.loop-n.found v.precedes.result v.precedes.ensures
                v.if-precedes.false
            | else-is_set-via-then-is_set+else-read-gt0 v ↦
                absurd (omega
                (arith, v.read.ensures, v.if-read-gt0.false, flag, ap (λ i. get_or c.args.flags.now i 0) means))
            | else-is_set-via-else-is_set v ↦
                absurd (let e : false ≡ true = sym v.if-is_set.false ∙ c.is_set.ensures.1 set in cc)
          ]))
    ]

pub returns : goal.returns
returns c =
    let e : length c.as_slice-form-items.result.now ≡ length c.args.program.now.forms =
    ap (length {A = Form}) c.as_slice-form-items.ensures in
    below_all c.args.program.now c.args.meanings.now c.args.flags.now c.loop-n.n c.loop-n.found
    (omega (arith, e, c.loop-n-test.false)) c.loop-n.invariant
