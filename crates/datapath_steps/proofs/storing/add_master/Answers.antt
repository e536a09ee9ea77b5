use Rattle.datapath_steps.proofs.Feeding.{latch_made}
use Rattle.datapath_steps.proofs.storing.add_master.Goals as goal

pub returns : goal.returns
returns c =
    latch_made c.args.source c.requires.source.0 c.args.making.now c.add_latch.new.net c.in_ok-id.id c.in_ok-id.ensures
    c.requires.source.1 c.requires.made
