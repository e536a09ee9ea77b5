use Rattle.std.proofs.Common.{arith}
use Rattle.spice_deck.specs.Deck.{channel_text}
use Rattle.spice_deck.proofs.Numbering.{more}
use Rattle.spice_deck.proofs.channels.push_channels.Goals as goal

pub loop-k-preserved : goal.loop-k-preserved
loop-k-preserved c =
    more (channel_text c.args.sizes.now) c.args.channels.now c.loop-k.k c.index-channels-k.result
    c.args.text.now.items (omega arith) c.index-channels-k.is c.loop-k.invariant c.in_ok-push_channel.ensures
