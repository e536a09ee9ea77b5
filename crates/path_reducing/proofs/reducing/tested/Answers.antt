use Rattle.path_reducing.proofs.Smaller.{reduced_from}
use Rattle.path_reducing.proofs.reducing.tested.Goals as goal

pub returns-then-used : goal.returns-then-used
returns-then-used c =
    reduced_from c.args.path.now c.args.reduced c.requires c.args.images.now c.reductions_reduce.ensures
    c.reduced_paths_show.ensures (c.in_ok-reduction.ensures c.if-reduction.true) (c.in_ok-used.ensures c.if-used.true)
