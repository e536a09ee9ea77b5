use Rattle.std.proofs.Common.{◌≡◌, ◌∙◌, ◌<◌, ◌^◌, ℕ, List, ◌++◌, Option, None, replicate, length, take, drop, sym, ap}
use Rattle.std.proofs.Common.{subst}
use Rattle.std.proofs.Math.Seq.{take-append_seam}
use Rattle.std.specs.Prelude.{All, flat_map}
use Rattle.std.specs.List.{AllZip}
use Rattle.mp_base.specs.declared.value.Trit.{Trit}
use Rattle.mp_base.specs.declared.pad.Pad.{Pad}
use Rattle.mp_base.specs.PadNames.{supplies}
use Rattle.mp_base.proofs.Zips.{zip_length}
use Rattle.switch_net.specs.Values.{value_at}
use Rattle.mp_base.specs.PadBits.{Fit, bit_count}
use Rattle.switch_net.specs.Clock.{SettlesTo, drives}
use Rattle.clock_run.specs.Settings.{phases_of, levels}
use Rattle.clock_run.specs.Driving.{IsDriven, AreDriven, AreSet}
use Rattle.clock_run.specs.Circuit.{Running}
use Rattle.clock_run.specs.Plan.{AreNodesOf}
use Rattle.clock_run.proofs.Planned.{nodes_few, nodes_inside, labelled_inside}
use Rattle.clock_run.proofs.Clocking.{settles_to}
use Rattle.clock_run.proofs.circuit.Circuit.set.Goals as goal

pub drive-requires-clause-as_many : goal.drive-requires-clause-as_many
drive-requires-clause-as_many c =
    let pads = c.self.inside.pads.now in
    let fit : Fit pads.inputs c.args.inputs.now =
    subst (λ (r : Running). Fit r.pads.inputs c.args.inputs.now) (sym c.self.view_is)
    c.requires in
    sym (zip_length (λ (pad : Pad) (word : ℕ). word < 2 ^ bit_count pad.width) pads.inputs c.args.inputs.now fit)
    ∙ zip_length
    (AreNodesOf c.self.inside.settler.network) pads.inputs c.self.inside.plan.inputs c.self.invariant.planned.input

pub drive-requires-clause-few : goal.drive-requires-clause-few
drive-requires-clause-few c =
    nodes_few c.self.inside.settler.network c.self.inside.pads.now.inputs c.self.inside.plan.inputs
    c.self.invariant.planned.input

pub drive-requires-clause-supplies_inside : goal.drive-requires-clause-supplies_inside
drive-requires-clause-supplies_inside c =
    let size : length c.deref_mut.result.now ≡ c.self.inside.settler.network.nodes = ap (λ (xs : List _). length xs)
    c.deref_mut.ensures.value ∙ c.self.invariant.sized in
    subst (λ size. All (λ n. n < size) c.self.inside.plan.supplies) (sym size)
    (labelled_inside c.self.inside.settler.network supplies c.self.inside.plan.supplies c.self.invariant.planned.supply)

pub drive-requires-clause-inputs_inside : goal.drive-requires-clause-inputs_inside
drive-requires-clause-inputs_inside c =
    let size : length c.deref_mut.result.now ≡ c.self.inside.settler.network.nodes = ap (λ (xs : List _). length xs)
    c.deref_mut.ensures.value ∙ c.self.invariant.sized in
    subst (λ size. All (λ ns. All (λ n. n < size) ns) c.self.inside.plan.inputs) (sym size)
    (nodes_inside c.self.inside.settler.network c.self.inside.pads.now.inputs c.self.inside.plan.inputs
    c.self.invariant.planned.input)

pub returns-clause-settled : goal.returns-clause-settled
returns-clause-settled c =
    let net = c.self.inside.settler.network in
    let pads = c.self.inside.pads.now in
    let plan = c.self.inside.plan in
    let words : List ℕ = c.args.inputs.now in
    let after = value_at c.settle.new.self.values in
    let fit : Fit pads.inputs words =
    subst (λ (r : Running). Fit r.pads.inputs words) (sym c.self.view_is) c.requires in
    let new : List (Option Trit) = c.drive.new.drive in
    let size : length new ≡ c.self.inside.drive.len = c.drive.auto.drive ∙ c.deref_mut.ensures.len in
    let v : c.deref.result.now ≡ new =
    c.deref.ensures.value ∙ subst (λ n. take n (new ++ drop (length new) c.self.inside.drive.items) ≡ new) size
    (take-append_seam new (drop (length new) c.self.inside.drive.items)) in
    subst (λ (r : Running). SettlesTo r.network (drives (phases_of c.args.setting) r.pads.inputs words)
    (value_at r.values) after)
    c.self.view_is
    (settles_to c.circuits_run.ensures.exist net pads plan.supplies plan.inputs plan.outputs c.self.invariant.planned
    words fit c.args.setting
    (length c.deref_mut.result.now) c.deref.result.now
    (subst (λ (xs : List (Option Trit)). (driver : ℕ → Option Trit)
    → AllZip (IsDriven driver) plan.supplies (levels (phases_of c.args.setting))
    → AllZip (AreDriven driver) plan.inputs words
    → AreSet driver (plan.supplies ++ flat_map (λ ns. ns) plan.inputs)
    (replicate (length c.deref_mut.result.now) None) xs) (sym v) c.drive.ensures)
    (value_at c.self.inside.settler.values) after c.settle.ensures.settled)
