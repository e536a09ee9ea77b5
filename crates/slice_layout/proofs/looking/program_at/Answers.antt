use Rattle.slice_layout.proofs.Found.{program_within}
use Rattle.slice_layout.proofs.looking.program_at.Goals as goal

pub returns-clause-there : goal.returns-clause-there
returns-clause-there c =
    program_within c.args.path.now c.args.i _ c.as_slice.result.now c.as_slice.ensures c.requires
