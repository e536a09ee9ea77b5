use Rattle.std.proofs.Common.{◌≡◌, Option, subst}
use Rattle.std.specs.Prelude.{IfSome, slice_set}
use Rattle.nor_net.specs.declared.net.Part.{Part}
use Rattle.nor_net.specs.Shape.{fed}
use Rattle.datapath_steps.proofs.Feeding.{slave_fed}
use Rattle.datapath_steps.proofs.storing.feed_slave.Goals as goal

pub returns : goal.returns
returns c =
    slave_fed c.args.slave c.args.source c.requires.source.0 c.args.making.now c.feed.new.self
    (subst (λ (o : Option Part). IfSome o (λ p. c.feed.new.self ≡ slice_set c.args.making.now.slices.net c.args.slave.0
    (fed c.args.source p))) c.requires.slave c.feed.ensures)
    c.requires.slave c.requires.source.1 c.requires.made
