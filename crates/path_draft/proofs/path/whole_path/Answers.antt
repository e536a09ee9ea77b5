use Rattle.std.proofs.Common.{sym, ◌∙◌, ap, subst}
use Rattle.path_form.specs.Shape.{IsPath}
use Rattle.path_order.specs.Order.{order_from, start}
use Rattle.path_draft.proofs.Paths.{is_path}
use Rattle.path_draft.proofs.path.whole_path.Goals as goal

pub made_of-requires : goal.made_of-requires
made_of-requires c =
    let p = c.args.like.now in
    let b = c.args.body in
    let order = c.in_ok-order.ensures ∙ ap (order_from p.width start) c.as_slice.ensures in
    subst (IsPath p.width b.control b.slices b.casts b.lifts c.in_ok-pads.pads b.inputs b.outputs) (sym order)
    (subst (λ ps. IsPath p.width b.control b.slices b.casts b.lifts ps b.inputs b.outputs
    (order_from p.width start b.marks)) (sym c.in_ok-pads.ensures)
    (is_path p b (c.in_ok-is_whole.ensures c.if-not-branch.false) c.len-control.ensures.shape c.requires.0
    c.len-slices.ensures.shape c.requires.1 c.orders_are_whole.ensures))
