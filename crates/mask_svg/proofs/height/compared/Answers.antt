use Rattle.std.proofs.Common.{rules}
use Rattle.std.proofs.lemmas.List.{take_min}
use Rattle.mask_svg.specs.declared.height.TheConstants.{COMPARED}
use Rattle.mask_svg.proofs.height.compared.Goals as goal

pub returns : goal.returns
returns c =
    let cut = take_min COMPARED c.args.labels.now in
    search rules
