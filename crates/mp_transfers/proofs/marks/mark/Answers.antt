use Rattle.std.proofs.Common.{◌≡◌, ◌+◌, ◌<◌, ℕ, List, length, arith, sym, ◌∙◌, ap, subst, slice_index_or}
use Rattle.std.specs.Prelude.{All}
use Rattle.mp_program.specs.declared.program.Form.{Form}
use Rattle.mp_program.specs.Weight.{inner}
use Rattle.std.proofs.lemmas.Option.{slice_get-get_or}
use Rattle.mp_base.specs.Entries.{IsAt}
use Rattle.mp_transfers.proofs.Inside.{inner_inside}
use Rattle.mp_transfers.proofs.Marking.{Marking, marking_start, marking_skip, marking_more, marking_all}
use Rattle.mp_transfers.proofs.marks.mark.Goals.{then-as_slice-f, else-as_slice-f}
use Rattle.mp_transfers.proofs.marks.mark.Goals as goal

pub loop-f-init : goal.loop-f-init
loop-f-init c =
    marking_start c.args.program.now c.args.roots.now c.args.number c.args.marks.now c.mark_forms-end.new.marks
    c.least_index-from.result c.mark_forms-end.result
    c.requires.size c.requires.fresh c.least_index-from.ensures c.mark_forms-end.ensures

pub mark_inside-end-requires : goal.mark_inside-end-requires
mark_inside-end-requires c =
    let f : ℕ = c.loop-f.f in
    let lt : f < length c.as_slice-forms.result.now =
    omega (arith, c.loop-f-test.true, c.loop-f.invariant.inside, ap length c.as_slice-forms.ensures) in
    let y : Form = slice_index_or c.as_slice-forms.result.now f c.index-forms-f.result in
    let P : List Form → Type 0 = λ xs. IsAt xs f y in
    let at : IsAt c.args.program.now.forms f y =
    subst P c.as_slice-forms.ensures (slice_get-get_or c.as_slice-forms.result.now f c.index-forms-f.result lt) in
    let Q : ℕ → Type 0 = λ n. All (λ g. g < n) (inner y.kind) in
    subst Q (sym c.loop-f.invariant.size) (inner_inside c.args.program.now c.sound.ensures f y at)

pub loop-f-preserved : goal.loop-f-preserved
loop-f-preserved c =
    let f : ℕ = c.loop-f.f in
    let lt : f < length c.as_slice-forms.result.now =
    omega (arith, c.loop-f-test.true, c.loop-f.invariant.inside, ap length c.as_slice-forms.ensures) in
    let M : List ℕ → ℕ → Type 0 = λ ms n. Marking c.args.program.now c.args.roots.now c.args.number ms (f + 1) n in
    let N : List ℕ → Type 0 = λ ms. M ms c.if-as_slice-f.end in
    elim c.if-as_slice-f.branch [
      | then-as_slice-f w ↦
          let y : Form = slice_index_or c.as_slice-forms.result.now f w.index-forms-f.result in
          let P : List Form → Type 0 = λ xs. IsAt xs f y in
          let at : IsAt c.args.program.now.forms f y =
          subst P c.as_slice-forms.ensures (slice_get-get_or c.as_slice-forms.result.now f w.index-forms-f.result lt) in
          let Q : List ℕ → Type 0 = λ ms. slice_index_or ms f 0 ≡ c.args.number in
          subst N (sym w.marks-is) (subst (M w.mark_inside-end.new.marks) (sym w.end-is)
          (marking_more c.args.program.now c.args.roots.now c.args.number c.loop-f.marks w.mark_inside-end.new.marks f
          c.loop-f.end w.mark_inside-end.result y c.sound.ensures c.loop-f.invariant at
          (subst Q c.as_slice.ensures w.if-as_slice-f.true) w.mark_inside-end.ensures))
      | else-as_slice-f w ↦
          subst N (sym w.marks-is) (subst (M c.loop-f.marks) (sym w.end-is)
          (marking_skip c.args.program.now c.args.roots.now c.args.number c.loop-f.marks f c.loop-f.end
          c.loop-f.invariant
          (λ e. w.if-as_slice-f.false (ap (λ ms. slice_index_or ms f 0) c.as_slice.ensures ∙ e))))
    ]

pub returns : goal.returns
returns c =
    marking_all c.args.program.now c.args.roots.now c.args.number c.loop-f.marks c.loop-f.f c.least_index-from.result
    c.loop-f.end c.sound.ensures c.loop-f.invariant c.least_index-from.ensures (omega arith)
