use Rattle.piece_classes.specs.Linking.{Gains}
use Rattle.mask_nodes.specs.Ends.{IsGivenBy, IsEndOf}
use Rattle.mask_nodes.proofs.ends.list_ends.Given as goal

abbrev pub invariant-loop-pair : goal.invariant-loop-pair
invariant-loop-pair l =
    Gains l.fn.ends l.ends (IsGivenBy (IsEndOf l.numbers l.pieces l.channels l.nodes) l.touching l.pair-index)
