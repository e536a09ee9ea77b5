use Rattle.std.proofs.Common.{◌∙◌, ℕ, List, subst, rules}
use Rattle.clock_run.specs.Refused.{IsRefused, IsMissingFirst}
use Rattle.clock_run.proofs.Planning.{refused_n4, resolved, count_inside, output_count, plan_is}
use Rattle.clock_run.proofs.plan.resolved_plan.Goals as goal

pub returns-in_err-all-clause-err : goal.returns-in_err-all-clause-err
returns-in_err-all-clause-err c =
    let net = c.args.network.now in
    let pads = c.args.pads.now in
    let refused : IsRefused net pads c.in_err-all.field-0.0 =
    refused_n4 net pads c.in_err-all.field-0.0 c.requires.apart
    (subst (λ (xs : List (List ℕ)). IsMissingFirst net xs c.in_err-all.field-0.0) c.requires.labels
    c.in_err-all.ensures.err) in
    search rules

pub slice_bounds-split-end : goal.slice_bounds-split-end
slice_bounds-split-end c =
    let net = c.args.network.now in
    let pads = c.args.pads.now in
    let nodes = c.as_slice-nodes.result.now in
    let count = c.args.driver_count in
    let r = resolved net pads c.args.labels.now _ nodes count c.requires.labels c.in_ok-all.ensures.ok
    c.as_slice-nodes.ensures c.requires.drivers in
    let inside = count_inside net pads nodes count r in
    search rules

pub split-requires-2 : goal.split-requires-2
split-requires-2 c =
    let net = c.args.network.now in
    let pads = c.args.pads.now in
    let nodes = c.as_slice-nodes.result.now in
    let count = c.args.driver_count in
    let r = resolved net pads c.args.labels.now _ nodes count c.requires.labels c.in_ok-all.ensures.ok
    c.as_slice-nodes.ensures c.requires.drivers in
    output_count net pads nodes count r _ c.as_slice-outputs.ensures

pub returns-clause-ok : goal.returns-clause-ok
returns-clause-ok c =
    let net = c.args.network.now in
    let pads = c.args.pads.now in
    let nodes = c.as_slice-nodes.result.now in
    let count = c.args.driver_count in
    let r = resolved net pads c.args.labels.now _ nodes count c.requires.labels c.in_ok-all.ensures.ok
    c.as_slice-nodes.ensures c.requires.drivers in
    plan_is net pads nodes count r c.from_vec.result c.as_slice-inputs.result.now c.as_slice-outputs.result.now
    c.in_ok-split.field-0 c.in_ok-split-2.field-0 c.as_slice-inputs.ensures c.as_slice-outputs.ensures
    c.requires.apart
    (c.from_vec.ensures ∙ c.in_ok-to_vec.ensures.items_if_clones_equal (λ x y e. e)) (c.in_ok-split.ensures net)
    (c.in_ok-split-2.ensures net)
