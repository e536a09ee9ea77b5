use Rattle.datapath_steps.proofs.Continuing.{cast_made}
use Rattle.datapath_steps.proofs.transfers.add_cast.Goals as goal

pub returns : goal.returns
returns c =
    cast_made c.args.control c.args.making.now c.input.new.self c.in_ok-slice.slice c.in_ok-slice.ensures.ok
    c.push.new.self c.in_ok-push.ensures.ok c.requires.reached c.requires.made
