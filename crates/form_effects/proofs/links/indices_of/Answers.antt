use Rattle.std.proofs.Common.{sym, ◌∙◌, arith}
use Rattle.form_effects.specs.Linked.{is_kind}
use Rattle.form_effects.proofs.Indices.{indices_same, indices_push}
use Rattle.form_effects.proofs.links.indices_of.Goals as goal

pub loop-i-preserved-then-not-holds : goal.loop-i-preserved-then-not-holds
loop-i-preserved-then-not-holds c =
    indices_same (is_kind c.args.kind) c.args.defs.now c.loop-i.list.items c.loop-i.i c.index-defs-i.result
    (omega arith) c.index-defs-i.is
    (sym c.holds.ensures ∙ c.if-not-holds.true) c.loop-i.invariant

pub loop-i-preserved : goal.loop-i-preserved
loop-i-preserved c =
    c.in_ok-push.ensures.items
    ∙ indices_push (is_kind c.args.kind) c.args.defs.now c.loop-i.list.items c.loop-i.i c.index-defs-i.result
    (omega arith) c.index-defs-i.is
    (sym c.holds.ensures ∙ c.if-not-holds.false) c.loop-i.invariant
