use Rattle.std.proofs.Common.{◌≡◌, ◌+◌, ◌<◌, ℕ, List, sym, ◌∙◌, ap, subst, length, replicate, arith, get_or}
use Rattle.mp_program.specs.declared.program.Form.{Form}
use Rattle.mp_base.specs.Entries.{IsAt}
use Rattle.mp_base.proofs.Entries.{entry}
use Rattle.mp_order.specs.Tables.{Lifted}
use Rattle.mp_order.specs.Demands.{Gives}
use Rattle.mp_order.proofs.Marks.{Marking, marking_roots, marking_skip, marking_more, marking_done}
use Rattle.mp_order.proofs.demands.marks.Goals.{then-mark-gt0, else-mark-gt0}
use Rattle.mp_order.proofs.demands.marks.Goals as goal

pub loop-n-init : goal.loop-n-init
loop-n-init c =
    let e : c.in_ok-marks.marks ≡ replicate (length c.as_slice-forms.result.now) 0 = c.in_ok-marks.ensures in
    marking_roots c.args.program.now c.sound.ensures c.args.tops.now c.in_ok-marks.marks c.mark_roots.new.marks
    (e ∙ ap (λ (xs : List Form). replicate (length xs) 0) c.as_slice-forms.ensures) c.mark_roots.ensures

pub loop-n-preserved : goal.loop-n-preserved
loop-n-preserved c =
    let A : List Form → Type 0 = λ xs. IsAt xs c.loop-n.n c.index-forms-n.result in
    let at : IsAt c.args.program.now.forms c.loop-n.n c.index-forms-n.result =
    subst A c.as_slice-forms.ensures
    (entry c.as_slice-forms.result.now c.loop-n.n c.loop-n-test.true c.index-forms-n.is) in
    let P : List ℕ → Type 0 = λ xs. Marking c.args.program.now c.args.tops.now (c.loop-n.n + 1) xs in
    elim c.if-mark-gt0.branch [
      | then-mark-gt0 w ↦
          let some : 0 < get_or c.loop-n.marks c.loop-n.n 0 =
          omega (arith, c.read_wide-mark.ensures, w.if-mark-gt0.true) in
          let Q : ℕ
          → Type 0 = λ v. Lifted
          (Gives c.args.tops.now c.index-forms-n.result.kind v) c.loop-n.marks w.mark_inner.new.marks in
          subst P (sym w.marks-is)
          (marking_more c.args.program.now c.sound.ensures c.args.tops.now c.loop-n.marks w.mark_inner.new.marks
          c.loop-n.n c.index-forms-n.result
          c.loop-n.invariant at some (subst Q c.read_wide-mark.ensures w.mark_inner.ensures))
      | else-mark-gt0 w ↦
          let none : get_or c.loop-n.marks c.loop-n.n 0 ≡ 0 =
          omega (arith, c.read_wide-mark.ensures, w.if-mark-gt0.false) in
          subst P (sym w.marks-is)
          (marking_skip c.args.program.now c.args.tops.now c.loop-n.marks c.loop-n.n c.loop-n.invariant none)
    ]

pub returns : goal.returns
returns c =
    let e : length c.as_slice-forms.result.now ≡ length c.args.program.now.forms =
    ap (length {A = Form}) c.as_slice-forms.ensures in
    marking_done c.args.program.now c.args.tops.now c.loop-n.marks c.loop-n.n
    (omega (arith, e, c.loop-n-test.false)) c.loop-n.invariant
