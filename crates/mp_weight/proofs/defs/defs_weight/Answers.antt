use Rattle.std.proofs.Common.{◌≡◌, ℕ, List, length, get_or, take, ap, sym, ◌∙◌, subst, arith, min}
use Rattle.std.specs.List.{sum_by}
use Rattle.mp_base.specs.Entries.{IsAt}
use Rattle.mp_base.proofs.Entries.{entry}
use Rattle.mp_base.proofs.Lists.{take_whole}
use Rattle.mp_program.specs.declared.program.Def.{Def}
use Rattle.mp_program.specs.Weight.{def_weight, sets_of}
use Rattle.mp_weight.specs.Weighing.{AreSetCounts}
use Rattle.mp_weight.proofs.Capping.{sum_more}
use Rattle.mp_weight.proofs.Counting.{def_term}
use Rattle.mp_weight.proofs.defs.defs_weight.Goals as goal

pub loop-d-init : goal.loop-d-init
loop-d-init c = omega arith

pub loop-d-preserved : goal.loop-d-preserved
loop-d-preserved c =
    let p = c.args.program.now in
    let term : Def → ℕ = λ d. def_weight d.what (sets_of p d.name) in
    let at : IsAt p.defs c.loop-d.d c.def-item.result =
    subst (λ (ds : List Def). IsAt ds c.loop-d.d c.def-item.result) c.as_slice-def-items.ensures
    (entry c.as_slice-def-items.result.now c.loop-d.d c.loop-d-test.true c.def-item.is) in
    let counts = subst (AreSetCounts p (length p.forms)) (sym c.as_slice-counts.ensures) c.in_ok-counts.ensures in
    let same : c.def_weight.result
    ≡ min c.args.cap (term (get_or c.as_slice-def-items.result.now c.loop-d.d c.def-item.result)) =
    c.def_weight.ensures
    ∙ ap (min c.args.cap)
    (def_term p c.as_slice-counts.result.now c.loop-d.d c.def-item.result counts at ∙ ap term c.def-item.is) in
    sum_more term c.args.cap c.as_slice-def-items.result.now c.loop-d.d c.def-item.result c.loop-d.weight
    c.def_weight.result c.plus-weight.result c.loop-d-test.true c.loop-d.invariant
    (omega (arith, same)) c.plus-weight.ensures

pub returns : goal.returns
returns c =
    let term : Def → ℕ = λ d. def_weight d.what (sets_of c.args.program.now d.name) in
    let end : c.loop-d.d ≡ length c.as_slice-def-items.result.now = omega arith in
    c.loop-d.invariant
    ∙ ap (λ ds. min c.args.cap (sum_by term ds))
    (ap (λ k. take k c.as_slice-def-items.result.now) end ∙ take_whole c.as_slice-def-items.result.now
    ∙ c.as_slice-def-items.ensures)
