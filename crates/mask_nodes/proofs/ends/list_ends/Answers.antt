use Rattle.std.proofs.Common.{ℕ, List, get_or}
use Rattle.std.proofs.lemmas.Option.{slice_get-get_or}
use Rattle.union_find.specs.declared.pair.Pair.{Pair}
use Rattle.mask_nodes.specs.Ends.{pair_of, IsEndOf}
use Rattle.piece_classes.proofs.Gaining.{gains_none}
use Rattle.mask_nodes.proofs.Ending.{given_none, ends_more}
use Rattle.mask_nodes.proofs.ends.list_ends.Goals as goal

pub loop-pair-init : goal.loop-pair-init
loop-pair-init c =
    gains_none c.args.ends.now _
    (given_none (IsEndOf c.args.numbers.now c.args.pieces.now c.args.channels.now c.args.nodes.now) c.args.touching.now)

pub loop-pair-preserved : goal.loop-pair-preserved
loop-pair-preserved c =
    let touching : List Pair = c.args.touching.now in
    let i : ℕ = c.loop-pair.pair-index in
    ends_more c.args.numbers.now c.args.pieces.now c.args.channels.now c.args.nodes.now touching i
    (get_or touching i (pair_of 0 0)) c.args.ends.now c.loop-pair.ends c.add_end.new.ends
    c.add_end-in-loop-pair.new.ends
    (slice_get-get_or touching i (pair_of 0 0) c.loop-pair-test.true) c.loop-pair.invariant c.in_ok-add_end.ensures
    c.in_ok-add_end-2.ensures
