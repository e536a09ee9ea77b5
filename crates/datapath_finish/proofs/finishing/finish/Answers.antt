use Rattle.datapath_finish.proofs.finishing.finish.Goals as goal

pub path_of-requires : goal.path_of-requires
path_of-requires c = c.in_ok-ends.ensures.whole

pub returns : goal.returns
returns c = c.in_ok-ends.ensures.finished c.path_of.result c.path_of.ensures
