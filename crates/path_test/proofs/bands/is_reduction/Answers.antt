use Rattle.path_test.proofs.Reductions.{is_reduction}
use Rattle.path_test.proofs.bands.is_reduction.Goals as goal

pub returns-then-pads : goal.returns-then-pads
returns-then-pads c = λ e.
    let bands = c.in_ok-bands.ensures e in
    let pads = c.all_pads_stay-pads.ensures c.if-pads.true in
    is_reduction c.args.path.now c.args.reduced.now c.args.images.now c.requires.width bands.0 bands.1 c.requires.pads
    pads.0 pads.1
