use Rattle.mask_net.proofs.Verdict.{one_drawing_verdict}
use Rattle.mask_net.proofs.laws.one_drawing_verdict.Goals as goal

pub returns : goal.returns
returns c =
    one_drawing_verdict
    (record {
      scan = c.scan_is_unique.ensures;
      walk = c.walk_is_unique.ensures.squares;
      network = c.network_is_determined.ensures.network;
      network_by_squares = c.squares_tell_masks.ensures.network;
      first_by_squares = c.squares_tell_masks.ensures.first;
    })
