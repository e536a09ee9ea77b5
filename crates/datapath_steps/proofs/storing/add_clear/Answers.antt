use Rattle.datapath_steps.proofs.StoredWords.{clear_made, clear_there}
use Rattle.datapath_steps.proofs.storing.add_clear.Goals as goal

pub returns-in-Some : goal.returns-in-Some
returns-in-Some c = clear_there c.args.making.now c.in-Some.net c.in-Some.is c.requires.made

pub returns-in_ok-net-in-None : goal.returns-in_ok-net-in-None
returns-in_ok-net-in-None c =
    clear_made c.reset_of-control.result c.in_ok-net-in-None.net c.args.making.now c.add_cast.new.making c.in-None.is
    c.in_ok-net-in-None.ensures c.reset_of-control.ensures
