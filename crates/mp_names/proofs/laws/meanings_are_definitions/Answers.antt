use Rattle.mp_names.proofs.Definitions.{names_definitions}
use Rattle.mp_names.proofs.laws.meanings_are_definitions.Goals as goal

pub returns : goal.returns
returns c =
    names_definitions c.args.program.now c.args.meanings.now c.requires.meanings c.requires.defined c.requires.sorts
