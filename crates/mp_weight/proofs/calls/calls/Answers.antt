use Rattle.std.proofs.Common.{◌≡◌, ◌+◌, ◌-◌, ◌<◌, ℕ, suc, List, length, get_or, drop, sym, ◌∙◌, subst, arith}
use Rattle.std.proofs.Common.{slice_index, min}
use Rattle.std.specs.List.{sum_by}
use Rattle.mp_program.specs.declared.program.Form.{Form}
use Rattle.mp_program.specs.Weight.{inner, is_call}
use Rattle.mp_program.proofs.Inside.{inner_behind}
use Rattle.mp_base.specs.Entries.{IsAt}
use Rattle.mp_base.proofs.Entries.{entry}
use Rattle.mp_weight.specs.Weighing.{AreCalls, calls_from}
use Rattle.mp_weight.proofs.Calling.{no_calls, more_calls, all_calls}
use Rattle.mp_weight.proofs.calls.calls.Goals as goal

pub loop-f-init : goal.loop-f-init
loop-f-init c =
    no_calls c.args.cap c.as_slice-forms.result.now c.from_vec-calls.result
    (c.from_vec-calls.ensures ∙ c.in_ok-from_elem.ensures.items_if_clones_equal (λ y e. e))

pub put-requires : goal.put-requires
put-requires c = omega (arith, c.loop-f.invariant.size)

pub loop-f-preserved : goal.loop-f-preserved
loop-f-preserved c =
    let i : ℕ = c.loop-f.f - 1 in
    let lt : i < length c.as_slice-forms.result.now = omega arith in
    let next : c.loop-f.f ≡ suc i = omega arith in
    let done : ℕ
    → Type 0 = λ k. AreCalls c.args.cap c.as_slice-forms.result.now k
    (calls_from k (drop k c.as_slice-forms.result.now)) c.loop-f.calls in
    let at : IsAt c.args.program.now.forms i c.index-forms-f.result =
    subst (λ (fs : List Form). IsAt fs i c.index-forms-f.result) c.as_slice-forms.ensures
    (entry c.as_slice-forms.result.now i lt c.index-forms-f.is) in
    let Count : Form → List ℕ
    → Type 0 = λ y cs. c.calls_of-count.result
    ≡ min c.args.cap (is_call y.kind + sum_by (slice_index cs) (inner y.kind)) in
    let count =
    subst (λ y. Count y c.loop-f.calls) (sym c.index-forms-f.is)
    (subst (Count (get_or c.as_slice-forms.result.now i c.index-forms-f.result)) c.as_slice.ensures
    c.calls_of-count.ensures) in
    subst (AreCalls c.args.cap c.as_slice-forms.result.now i (calls_from i (drop i c.as_slice-forms.result.now)))
    (sym c.put.ensures)
    (more_calls c.args.cap c.as_slice-forms.result.now
    (length c.args.program.now.forms) i c.index-forms-f.result c.loop-f.calls c.calls_of-count.result lt
    c.index-forms-f.is
    (inner_behind (length c.args.program.now.exprs) i (length c.args.program.now.forms) c.index-forms-f.result.kind
    (c.sound.ensures.forms i c.index-forms-f.result at))
    (subst done next c.loop-f.invariant) count)

pub returns : goal.returns
returns c =
    let none : c.loop-f.f ≡ 0 = omega arith in
    let Calls : List Form → Type 0 = λ fs. (f : ℕ)
    → slice_index c.loop-f.calls f ≡ min c.args.cap (slice_index (calls_from 0 fs) f) in
    subst Calls c.as_slice-forms.ensures
    (all_calls c.args.cap c.as_slice-forms.result.now c.loop-f.f c.loop-f.calls none c.loop-f.invariant)
