use Rattle.std.proofs.Common.{get_or, sym, subst, inl, inr, refl, ◌∙◌}
use Rattle.piece_classes.specs.Linking.{Gains}
use Rattle.mask_nodes.specs.Ends.{pair_of, IsEndAt}
use Rattle.mask_nodes.proofs.Ending.{end_added, end_left}
use Rattle.mask_nodes.proofs.ends.add_end.Goals as goal
use Rattle.mask_nodes.proofs.ends.add_end.Goals.{else-is_channel-via-then-is_channel+else-conducts}
use Rattle.mask_nodes.proofs.ends.add_end.Goals.{else-is_channel-via-else-is_channel}

pub returns-in_ok-push : goal.returns-in_ok-push
returns-in_ok-push c =
    subst (λ xs. Gains c.args.ends.now xs
    (IsEndAt c.args.pieces.now c.args.channels.now c.args.nodes.now c.args.first c.args.second))
    (sym c.in_ok-push.ensures.ok)
    (end_added c.args.pieces.now c.args.channels.now c.args.nodes.now c.args.first c.args.second c.args.ends.now
    (pair_of (get_or c.args.channels.now c.args.first 0) (get_or c.args.nodes.now c.args.second 0))
    (sym c.conducts-is_channel.ensures ∙ c.if-is_channel.true) (sym c.conducts.ensures ∙ c.if-conducts.true) refl)

pub returns-else-is_channel : goal.returns-else-is_channel
returns-else-is_channel c = elim c.else-is_channel.branch [
  | else-is_channel-via-then-is_channel+else-conducts w ↦
      end_left c.args.pieces.now c.args.channels.now c.args.nodes.now c.args.first c.args.second c.args.ends.now
      (inr (sym w.conducts.ensures ∙ w.if-conducts.false))
  | else-is_channel-via-else-is_channel w ↦
      end_left c.args.pieces.now c.args.channels.now c.args.nodes.now c.args.first c.args.second c.args.ends.now
      (inl (sym c.conducts-is_channel.ensures ∙ w.if-is_channel.false))
]
