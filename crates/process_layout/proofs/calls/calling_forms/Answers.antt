use Rattle.std.proofs.Common.{
  ◌≡◌,
  ◌∙◌,
  ℕ,
  suc,
  ◌-◌,
  ◌<◌,
  List,
  Bool,
  false,
  sym,
  ap,
  subst,
  arith,
  length,
}
use Rattle.std.specs.Prelude.{slice_index_or}
use Rattle.std.proofs.lemmas.List.{length-replicate, length-set}
use Rattle.mp_program.specs.declared.program.Form.{Form}
use Rattle.mp_base.specs.Entries.{IsAt}
use Rattle.mp_base.proofs.Entries.{entry}
use Rattle.process_layout.specs.Calling.{kind_calls}
use Rattle.process_layout.proofs.Called.{AreTold, told_more}
use Rattle.process_layout.proofs.calls.calling_forms.Goals as goal

pub loop-f-init : goal.loop-f-init
loop-f-init c =
    let forms : length c.as_slice-forms.result.now ≡ length c.args.program.now.forms =
    ap length c.as_slice-forms.ensures in
    let items = c.in_ok-calling.ensures.items_if_clones_equal (λ y e. e) in
    record {
      size = ap length items ∙ length-replicate (length c.as_slice-forms.result.now) false ∙ forms;
      each = λ g le lt. absurd (omega (arith, le, lt, forms));
    }

pub loop-f-preserved : goal.loop-f-preserved
loop-f-preserved c =
    let i : ℕ = c.loop-f.f - 1 in
    let next : c.loop-f.f ≡ suc i = omega arith in
    let At : List Form → Type 0 = λ fs. IsAt fs i c.index-forms-f.result in
    let inside : i < length c.as_slice-forms.result.now = omega arith in
    let at : At c.args.program.now.forms = subst At c.as_slice-forms.ensures
    (entry c.as_slice-forms.result.now i inside c.index-forms-f.is) in
    let Told : Form → List Bool → Type 0 = λ y cs.
    c.has_call.result ≡ kind_calls (λ g. slice_index_or cs g false) y.kind in
    let read = c.index-forms-f.is in
    let told : Told c.index-forms-f.result c.loop-f.calling.items =
    subst (λ y. Told y c.loop-f.calling.items) (sym read)
    (subst (Told (slice_index_or c.as_slice-forms.result.now i c.index-forms-f.result)) c.deref.ensures.value
    c.has_call.ensures) in
    told_more c.args.program.now
    (record { sound = c.sound.ensures; values = c.values.ensures; effects = c.effects.ensures })
    i c.index-forms-f.result c.loop-f.calling.items c.has_call.result at
    (subst (λ n. AreTold c.args.program.now n c.loop-f.calling.items) next c.loop-f.invariant) told
    (length-set c.loop-f.calling.items i c.has_call.result)

pub returns : goal.returns
returns c = λ f lt. c.loop-f.invariant.each f (omega arith) lt
