use Rattle.std.proofs.Common.{◌≡◌, ◌∙◌, ℕ, List, length, refl, sym, ap, subst}
use Rattle.mp_base.specs.declared.refusal.Refusal.{Refusal}
use Rattle.switch_net.specs.Breaks.{MeetsDriver}
use Rattle.switch_net.specs.Pads.{driver_labels}
use Rattle.clock_run.specs.Owners.{IsFirstMeeting}
use Rattle.clock_run.specs.Refused.{IsRefused}
use Rattle.clock_run.proofs.Planning.{refused_n3, drivers_are, chip_is, none_met, one_met}
use Rattle.clock_run.proofs.plan.Plan.new.Goals as goal

pub returns-in-Some-clause-err : goal.returns-in-Some-clause-err
returns-in-Some-clause-err c =
    let net = c.args.network.now in
    let pads = c.args.pads.now in
    let offset = c.in-Some.offset in
    let drivers : List (List ℕ) = c.as_slice.result.now in
    let labels : drivers ≡ driver_labels pads.inputs =
    drivers_are pads _ _ drivers c.as_slice-inputs.ensures c.in_ok-labels.ensures c.as_slice.ensures in
    let first : IsFirstMeeting drivers net.tags offset =
    one_met ((i : ℕ) → ¬ MeetsDriver drivers net.tags i) _
    (IsFirstMeeting drivers net.tags) offset c.in_ok-offset.ensures c.in-Some.is in
    subst (λ (r : Refusal). IsRefused net pads r) (sym c.driven_at.ensures)
    (refused_n3 net pads offset (subst (λ (xs : List (List ℕ)). IsFirstMeeting xs net.tags offset) labels first))

pub resolved_plan-requires-clause-labels : goal.resolved_plan-requires-clause-labels
resolved_plan-requires-clause-labels c =
    chip_is c.args.pads.now _ _ _ _ _ c.as_slice-inputs.ensures c.as_slice-outputs.ensures c.in_ok-labels.ensures
    c.in_ok-add_pads.ensures c.as_slice-2.ensures

pub resolved_plan-requires-clause-drivers : goal.resolved_plan-requires-clause-drivers
resolved_plan-requires-clause-drivers c =
    c.len-driver_count.ensures
    ∙ ap (λ (xs : List (List ℕ)). length xs)
    (drivers_are c.args.pads.now _ _ _ c.as_slice-inputs.ensures c.in_ok-labels.ensures refl)

pub resolved_plan-requires-clause-apart : goal.resolved_plan-requires-clause-apart
resolved_plan-requires-clause-apart c i =
    let tags = c.args.network.now.tags in
    let drivers : List (List ℕ) = c.as_slice.result.now in
    let labels : drivers ≡ driver_labels c.args.pads.now.inputs =
    drivers_are c.args.pads.now _ _ drivers c.as_slice-inputs.ensures c.in_ok-labels.ensures c.as_slice.ensures in
    subst (λ (xs : List (List ℕ)). ¬ MeetsDriver xs tags i) labels
    (none_met c.in_ok-offset.field-0 (IsFirstMeeting drivers tags) c.in_ok-offset.ensures c.in_default.not-Some i)
