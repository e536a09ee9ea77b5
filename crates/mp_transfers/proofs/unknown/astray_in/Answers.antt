use Rattle.std.proofs.Common.{◌≡◌, ◌∙◌, ◌+◌, ◌<◌, ℕ, List, Option, Some, length, arith, sym, ap, subst, slice_index_or}
use Rattle.std.proofs.lemmas.List.{get_or_default}
use Rattle.std.proofs.lemmas.Bool.{false≢true}
use Rattle.std.proofs.lemmas.Option.{slice_get-get_or}
use Rattle.mp_base.specs.declared.refusal.Place.{Place}
use Rattle.mp_program.specs.declared.program.Form.{Form}
use Rattle.mp_base.specs.Entries.{IsAt}
use Rattle.mp_rules.specs.Breaking.{earlier}
use Rattle.mp_base.proofs.Entries.{some_entry, one_entry}
use Rattle.mp_transfers.specs.Labels.{IsAstray}
use Rattle.mp_transfers.proofs.Earliest.{Upto, upto_join, upto_skip}
use Rattle.mp_rules.proofs.EarliestPlaces.{earliest_at, earliest_same}
use Rattle.mp_transfers.proofs.Astray.{StraysAt, astray_all}
use Rattle.mp_transfers.proofs.unknown.astray_in.Goals.{then-marks-f+then-is_astray, else-marks-f}
use Rattle.mp_transfers.proofs.unknown.astray_in.Goals.{else-marks-f-via-then-marks-f+else-is_astray}
use Rattle.mp_transfers.proofs.unknown.astray_in.Goals.{else-marks-f-via-else-marks-f}
use Rattle.mp_transfers.proofs.unknown.astray_in.Goals as goal

pub loop-f-preserved : goal.loop-f-preserved
loop-f-preserved c =
    let f : ℕ = c.loop-f.f in
    let lt : f < length c.as_slice-forms.result.now =
    omega (arith, c.loop-f-test.true, c.requires.inside, ap length c.as_slice-forms.ensures) in
    let R : ℕ → Form → Place → Type 0 = StraysAt c.args.span c.args.marks.now c.args.number c.args.labels.now in
    let T : Option Place → Type 0 = Upto (λ at. c.args.found ≡ Some at) c.args.program.now.forms R (f + 1) in
    elim c.if-marks-f.branch [
      | then-marks-f+then-is_astray w ↦
          let y : Form = slice_index_or c.as_slice-forms.result.now f w.index-forms-f.result in
          let P : List Form → Type 0 = λ xs. IsAt xs f y in
          let at : IsAt c.args.program.now.forms f y =
          subst P c.as_slice-forms.ensures (slice_get-get_or c.as_slice-forms.result.now f w.index-forms-f.result lt) in
          let astray = (w.is_astray.ensures c.args.labels.now c.requires.names).0 w.if-is_astray.true in
          subst T (sym (w.found-is ∙ w.earlier-found.ensures ∙ ap (λ (x : Form). earlier c.loop-f.found x.place)
          (get_or_default c.as_slice-forms.result.now f w.index-forms-f-then-is_astray.result w.index-forms-f.result
          lt)))
          (upto_join c.loop-f.invariant y at (Some y.place)
          (earliest_same (λ here. here ≡ y.place) (R f y) (Some y.place) (earliest_at y.place)
          (λ here same. (c.loop-f.auto.f, c.loop-f-test.true, w.if-marks-f.true, astray, same)) (λ here r. r.4)))
      | else-marks-f w ↦
          let (y, at) = some_entry c.args.program.now.forms f (omega (arith, lt, ap length c.as_slice-forms.ensures)) in
          subst T (sym w.found-is) (upto_skip c.loop-f.invariant y at (λ here r. elim w.else-marks-f.branch [
            | else-marks-f-via-then-marks-f+else-is_astray v ↦
                let P : List Form
                → Type 0 = λ xs. IsAt xs f (slice_index_or c.as_slice-forms.result.now f v.index-forms-f.result) in
                let same =
                one_entry c.args.program.now.forms f y _ at
                (subst P c.as_slice-forms.ensures
                (slice_get-get_or c.as_slice-forms.result.now f v.index-forms-f.result lt)) in
                let Q : Form → Type 0 = λ x. IsAstray c.args.labels.now x.kind in
                let yes = (v.is_astray.ensures c.args.labels.now c.requires.names).1 (subst Q same r.3) in
                false≢true (sym v.if-is_astray.false ∙ yes)
            | else-marks-f-via-else-marks-f v ↦ v.if-marks-f.false r.2
          ]))
    ]

pub returns : goal.returns
returns c =
    astray_all c.args.program.now
    (λ at. c.args.found ≡ Some at) c.args.span c.args.marks.now c.args.number c.args.labels.now c.loop-f.f
    c.loop-f.found c.loop-f.invariant (omega arith)
