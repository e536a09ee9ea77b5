use Rattle.std.proofs.Common.{arith}
use Rattle.spice_deck.specs.Deck.{pin_text}
use Rattle.spice_deck.proofs.Numbering.{more}
use Rattle.spice_deck.proofs.pins.push_all_pins.Goals as goal

pub loop-k-preserved : goal.loop-k-preserved
loop-k-preserved c =
    more pin_text c.args.tags.now c.loop-k.k c.index-tags-k.result c.args.text.now.items (omega arith) c.index-tags-k.is
    c.loop-k.invariant c.in_ok-push_pin.ensures
