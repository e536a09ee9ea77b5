use Rattle.std.proofs.Common.{◌≡◌, arith, length, subst}
use Rattle.std.specs.Prelude.{slice_index}
use Rattle.process_plan.specs.declared.role.Role.TheVariants.{Value}
use Rattle.process_layout.specs.Index.{IsCellFor}
use Rattle.process_layout.proofs.Ordered.{all_ordered, more_ordered, none_ordered}
use Rattle.process_layout.proofs.laying.order_of.Goals as goal

pub loop-definition-init : goal.loop-definition-init
loop-definition-init c = none_ordered c.args.laid.now.roles c.args.order.now c.new-cells.result c.new-cells.ensures

pub unreachable-requires : goal.unreachable-requires
unreachable-requires c =
    let order = c.args.order.now in
    let i = c.loop-definition.definition-index in
    let (cell, at) = c.requires i (omega arith) in
    subst (IsCellFor c.args.laid.now.roles (Value (slice_index order i))) c.in_default.is c.cell.ensures cell at

pub loop-definition-preserved : goal.loop-definition-preserved
loop-definition-preserved c =
    let order = c.args.order.now in
    let i = c.loop-definition.definition-index in
    more_ordered c.args.laid.now.roles order c.loop-definition.cells c.push.new.self i c.in-Some.cell
    c.loop-definition.invariant
    (subst (IsCellFor c.args.laid.now.roles (Value (slice_index order i))) c.in-Some.is c.cell.ensures)
    c.in_ok-push.ensures.ok

pub returns : goal.returns
returns c =
    let end : c.loop-definition.definition-index ≡ length c.args.order.now = omega arith in
    all_ordered c.args.laid.now.roles c.args.order.now c.loop-definition.cells c.loop-definition.definition-index end
    c.loop-definition.invariant
