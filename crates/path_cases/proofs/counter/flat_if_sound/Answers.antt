use Rattle.path_cases.proofs.Counting.{counter_light}
use Rattle.path_cases.proofs.counter.flat_if_sound.Goals as goal

pub flat_of-requires-clause-light : goal.flat_of-requires-clause-light
flat_of-requires-clause-light c = counter_light c.args.rtl.now c.requires

pub returns : goal.returns
returns c = record {
  transfers = c.args.rtl.now;
  counter = c.requires;
  flat = c.in_ok-flat.ensures;
}
