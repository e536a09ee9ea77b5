use Rattle.std.proofs.Common.{subst}
use Rattle.lam_geom.specs.Squares.{covered}
use Rattle.cif_form.specs.Walk as walks
use Rattle.cif_form.specs.Walk.{FileWalks}
use Rattle.switch_net.specs.Drawn.{IsNetwork}
use Rattle.headline.proofs.a_file_draws_one_network.Goals as goal

pub returns : goal.returns
returns c = λ bytes pads other n m draws again.
    let commands = c.reading_is_unique.ensures 0 bytes again.commands draws.commands again.read draws.read in
    let walk = subst (λ items. FileWalks items again.shapes again.labels walks.Whole) commands again.drawable in
    let same = c.walk_is_unique.ensures.squares draws.commands again.shapes draws.shapes again.labels draws.labels
    walks.Whole walks.Whole walk draws.drawable in
    let drawn = c.squares_tell_masks.ensures.network again.shapes draws.shapes same.0 again.labels m
    again.mask.network in
    let labelled = subst (λ labels. IsNetwork (covered draws.shapes) labels m) same.1 drawn in
    c.network_is_determined.ensures.network draws.shapes draws.labels n m draws.mask.network labelled
