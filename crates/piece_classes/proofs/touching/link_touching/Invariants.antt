use Rattle.piece_classes.specs.Linking.{Gains, IsTouchLink}
use Rattle.piece_classes.proofs.touching.link_touching.Given as goal

abbrev pub invariant-loop-pair : goal.invariant-loop-pair
invariant-loop-pair l = Gains l.fn.links l.links (IsTouchLink l.touching l.numbers l.pieces l.pair-index)
