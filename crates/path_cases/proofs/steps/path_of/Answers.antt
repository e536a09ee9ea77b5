use Rattle.path_cases.proofs.steps.path_of.Goals as goal

pub returns-clause-pads : goal.returns-clause-pads
returns-clause-pads c = c.in_ok-path.ensures.allocated.pads

pub returns-clause-shown : goal.returns-clause-shown
returns-clause-shown c =
    c.realized_paths_show.ensures c.args.rtl.now c.in_ok-path.path
    (c.allocated_paths_realize.ensures c.args.rtl.now c.in_ok-path.path c.requires.sound
    c.in_ok-path.ensures.allocated)
