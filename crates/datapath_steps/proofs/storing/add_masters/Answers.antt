use Rattle.datapath_steps.proofs.storing.add_masters.Goals as goal

pub returns : goal.returns
returns c = record {
  first = c.add_master.new.making;
  middle = c.add_gate.new.making;
  master = c.in_ok-master.master;
  negation = c.in_ok-negation.negation;
  is_master = c.in_ok-master.ensures;
  is_negation = c.in_ok-negation.ensures;
  is_fed = c.feed_slave.ensures;
}
